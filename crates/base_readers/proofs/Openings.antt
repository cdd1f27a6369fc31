-- Where a parser succeeds, a condition holds that its first part that takes something needs, by what is known of the parts where it succeeds.
use Prim.Native.Nat.{ℕ, zero, suc}
use mathlib.Core.Path.{◌≡◌, refl, sym, ◌∙◌}
use mathlib.Core.Bool.{Bool, true, false}
use mathlib.Core.List.{List}
use mathlib.Core.Option.{Option}
use lib.Dec.{eqb}
use lib.ListN.{drop}
use lib.Seq.{drop-drop}
use Rattle.base_readers.specs.Readers.{Reader}
use Rattle.base_readers.specs.Parsers.{got, Parser, ◌>>=◌, ◌>>◌, when, byte, taken, skipping, text, pass, either, branch, optional, several}
use Rattle.base_readers.specs.Locality.{Starts, Opens}
use Rattle.base_readers.proofs.Sequencing.{bind_inv, when-inv, byte-inv, taken-inv, skipping-inv, text-inv, pass-inv, Which, first, second, either-inv, branch_yes, branch_no, Perhaps, absent, present, optional-inv}
use Rattle.base_readers.proofs.Repeats.{Turn, stop, turn, several-inv}

pub opens-weaker : {A : Type 0} (p : Parser A) (S S' : List ℕ → Type 0) → ((xs : List ℕ) → S xs → S' xs) → Opens p S → Opens p S'
opens-weaker p S S' i O xs a n h = i xs (O xs a n h)

pub bind-opens : {A B : Type 0} (p : Parser A) (f : A → Parser B) (S : List ℕ → Type 0) → Opens p S → Opens (◌>>=◌ p f) S
bind-opens p f S O xs b n h = let v = bind_inv p f xs b n h in O xs v.val v.fst v.reads

-- ==== bytes, readers and choices

pub byte-opens : (c : ℕ) (S : List ℕ → Type 0) → ((xs : List ℕ) → Starts (λ b. eqb b c) xs → S xs) → Opens (byte c) S
byte-opens c S i xs u n h = i xs (byte-inv c xs u n h).0

module _ (f : Reader) (S : List ℕ → Type 0) (i : (xs : List ℕ) (n : ℕ) → f xs ≡ suc n → S xs) where
  pub text-opens : Opens (text f) S
  text-opens xs a n h = let v = text-inv f xs a n h in i xs v.less (v.takes ∙ v.some)

  pub pass-opens : Opens (pass f) S
  pass-opens xs u n h = let v = pass-inv f xs u n h in i xs v.less (v.takes ∙ v.some)

pub either-opens : {A : Type 0} (p q : Parser A) (S : List ℕ → Type 0) → Opens p S → Opens q S → Opens (either p q) S
either-opens p q S P Q xs a n h = go (either-inv p q xs a n h)
  where
    go : Which p q xs a n → S xs
    go (first e) = P xs a n e
    go (second e g) = Q xs a n g

pub branch-opens : {A : Type 0} (test : List ℕ → Bool) (p q : Parser A) (S : List ℕ → Type 0) → Opens p S → Opens q S → Opens (branch test p q) S
branch-opens test p q S P Q xs a n h = go (test xs) refl
  where
    go : (b : Bool) → test xs ≡ b → S xs
    go true e = P xs a n (sym (branch_yes test p q xs e) ∙ h)
    go false e = Q xs a n (sym (branch_no test p q xs e) ∙ h)

-- ==== in front: where S holds of what follows what p takes, it holds in front of it

pub zero-front : {A : Type 0} (p : Parser A) (S : List ℕ → Type 0) → ((xs : List ℕ) (a : A) (n : ℕ) → p xs ≡ got a n → n ≡ 0)
    → (xs : List ℕ) (a : A) (n : ℕ) → p xs ≡ got a n → S (drop n xs) → S xs
zero-front p S Z xs a n h s = rw (Z xs a n h) at s

pub bind-front : {A B : Type 0} (p : Parser A) (f : A → Parser B) (S : List ℕ → Type 0)
    → ((xs : List ℕ) (a : A) (n : ℕ) → p xs ≡ got a n → S (drop n xs) → S xs)
    → ((a : A) (xs : List ℕ) (b : B) (n : ℕ) → f a xs ≡ got b n → S (drop n xs) → S xs)
    → (xs : List ℕ) (b : B) (n : ℕ) → ◌>>=◌ p f xs ≡ got b n → S (drop n xs) → S xs
bind-front p f S P Q xs b n h s =
    let v = bind_inv p f xs b n h in
    let t : S (drop v.snd (drop v.fst xs)) = rw (drop-drop v.snd v.fst xs, v.sum) s in
    P xs v.val v.fst v.reads (Q v.val (drop v.fst xs) b v.snd v.goes t)

module _ (f : Reader) (S : List ℕ → Type 0) (i : (xs : List ℕ) (n : ℕ) → f xs ≡ suc n → S xs) where
  reader-front : (xs : List ℕ) (n : ℕ) → f xs ≡ n → S (drop n xs) → S xs
  reader-front xs zero e s = s
  reader-front xs (suc n) e s = i xs n e

  pub taken-front : (xs a : List ℕ) (n : ℕ) → taken f xs ≡ got a n → S (drop n xs) → S xs
  taken-front xs a n h = reader-front xs n (taken-inv f xs a n h).0

  pub skipping-front : (xs : List ℕ) (u : Unit {0}) (n : ℕ) → skipping f xs ≡ got u n → S (drop n xs) → S xs
  skipping-front xs u n h = reader-front xs n (skipping-inv f xs u n h)

module _ {A : Type 0} (p : Parser A) (S : List ℕ → Type 0) (O : Opens p S) where
  pub optional-front : (xs : List ℕ) (o : Option A) (n : ℕ) → optional p xs ≡ got o n → S (drop n xs) → S xs
  optional-front xs o n h s = go (optional-inv p xs o n h)
    where
      go : Perhaps p xs o n → S xs
      go (absent e i z) = rw z at s
      go (present a e i) = O xs a n e

  pub several-front : (xs : List ℕ) (l : List A) (n : ℕ) → several p 0 xs ≡ got l n → S (drop n xs) → S xs
  several-front xs l n h s = go (several-inv p xs l n h)
    where
      go : Turn p xs l n → S xs
      go (stop e z) = rw z at s
      go (turn a m l' k e q u v) = O xs a m e

-- ==== a part that may take nothing, and what comes after it

pub front-opens : {A B : Type 0} (p : Parser A) (f : A → Parser B) (S : List ℕ → Type 0) → ((xs : List ℕ) (a : A) (n : ℕ) → p xs ≡ got a n → S (drop n xs) → S xs)
    → ((a : A) → Opens (f a) S) → Opens (◌>>=◌ p f) S
front-opens p f S P Q xs b n h =
    let v = bind_inv p f xs b n h in
    P xs v.val v.fst v.reads (Q v.val (drop v.fst xs) b v.snd v.goes)

pub test-first : {B : Type 0} (b : Bool) (q : Parser B) (S : List ℕ → Type 0) → Opens q S → Opens (◌>>◌ (when b) q) S
test-first b q S O = front-opens (when b) (λ u. q) S (zero-front (when b) S (λ xs u n h. (when-inv b xs u n h).1)) (λ u. O)

pub taken-opens : {B : Type 0} (f : Reader) (g : List ℕ → Parser B) (S : List ℕ → Type 0) → ((xs : List ℕ) (n : ℕ) → f xs ≡ suc n → S xs)
    → ((l : List ℕ) → Opens (g l) S) → Opens (◌>>=◌ (taken f) g) S
taken-opens f g S i O = front-opens (taken f) g S (taken-front f S i) O

pub skipping-opens : {B : Type 0} (f : Reader) (q : Parser B) (S : List ℕ → Type 0) → ((xs : List ℕ) (n : ℕ) → f xs ≡ suc n → S xs)
    → Opens q S → Opens (◌>>◌ (skipping f) q) S
skipping-opens f q S i O = front-opens (skipping f) (λ u. q) S (skipping-front f S i) (λ u. O)

pub optional-opens : {A B : Type 0} (p : Parser A) (f : Option A → Parser B) (S : List ℕ → Type 0)
    → Opens p S → ((o : Option A) → Opens (f o) S) → Opens (◌>>=◌ (optional p) f) S
optional-opens p f S O Q = front-opens (optional p) f S (optional-front p S O) Q

pub several-opens : {A B : Type 0} (p : Parser A) (f : List A → Parser B) (S : List ℕ → Type 0)
    → Opens p S → ((l : List A) → Opens (f l) S) → Opens (◌>>=◌ (several p 0) f) S
several-opens p f S O Q = front-opens (several p 0) f S (several-front p S O) Q
