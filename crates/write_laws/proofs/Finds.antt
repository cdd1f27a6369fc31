-- What is known of a value that a parser gives and of the bytes that it takes: R holds of the two. From the same of its parts, by taking apart
-- what the parts took.
use Prim.Native.Nat.{ℕ, zero, suc, ◌≤◌}
use native.Mathlib.Nat.{le_refl}
use native.Mathlib.Omega.{arith}
use mathlib.Core.Path.{◌≡◌, refl, sym, ap, ◌∙◌, subst}
use mathlib.Core.Bool.{Bool, true, false}
use mathlib.Core.List.{List, [], ◌∷◌, ◌++◌, append-nil}
use mathlib.Core.Option.{Option, none, some}
use lib.ListN.{length, drop, take, length-drop, take-append-drop}
use lib.Seq.{take-add, drop-length, length-take-le}
use borrow.Author.Tests.{eqb-true, eq-eqb}
use Rattle.base_sequences.proofs.Booleans.{no_true}
use Rattle.base_readers.specs.Texts.{starts}
use Rattle.base_readers.specs.Readers.{Reader}
use Rattle.base_readers.specs.Parsers.{got, Parser, ◌>>=◌, give, when, ahead, byte, taken, text, either, branch, optional, several}
use Rattle.base_readers.specs.Locality.{Within, Fits, Local}
use Rattle.base_readers.proofs.Sequencing.{bind_inv, give-inv, when-inv, ahead-inv, byte-inv, taken-inv, text-inv, Which, first, second, either-inv, branch_yes, branch_no, Perhaps, absent, present, optional-inv}
use Rattle.base_readers.proofs.Repeats.{Turn, stop, turn, several-inv}
use Rattle.write_rules.specs.Entries.{whole}

abbrev pub Finds : {A : Type 0} → Parser A → (A → List ℕ → Type 0) → Type 0
Finds {A} p R = (xs : List ℕ) (a : A) (n : ℕ) → p xs ≡ got a n → R a (take n xs)

pub weaker-finds : {A : Type 0} (p : Parser A) (R S : A → List ℕ → Type 0) → ((a : A) (u : List ℕ) → R a u → S a u) → Finds p R → Finds p S
weaker-finds p R S i P xs a n h = i a (take n xs) (P xs a n h)

-- ==== one after the other

pub bind-finds : {A B : Type 0} (p : Parser A) (f : A → Parser B) (R : A → List ℕ → Type 0) (S : B → List ℕ → Type 0)
    → Finds p R → ((a : A) (u : List ℕ) → R a u → Finds (f a) (λ b w. S b (u ++ w))) → Finds (◌>>=◌ p f) S
bind-finds p f R S P Q xs b n h =
    let v = bind_inv p f xs b n h in
    let r = P xs v.val v.fst v.reads in
    let s = Q v.val (take v.fst xs) r (drop v.fst xs) b v.snd v.goes in
    rw (← v.sum, take-add v.fst v.snd xs) s

-- ==== parsers that take nothing

pub give-finds : {A : Type 0} (a : A) → Finds (give a) (λ b u. (a ≡ b) × (u ≡ []))
give-finds a xs b n h = let v = give-inv a xs b n h in (v.0, ap (λ (k : ℕ). take k xs) v.1)

pub when-finds : (t : Bool) → Finds (when t) (λ b u. (t ≡ true) × (u ≡ []))
when-finds t xs b n h = let v = when-inv t xs b n h in (v.0, ap (λ (k : ℕ). take k xs) v.1)

pub ahead-finds : (c : ℕ → Bool) → Finds (ahead c) (λ b u. u ≡ [])
ahead-finds c xs b n h = ap (λ (k : ℕ). take k xs) (ahead-inv c xs b n h).1

-- whatever is taken
pub any-finds : {A : Type 0} (p : Parser A) → Finds p (λ a u. Unit)
any-finds p xs a n h = tt

-- ==== bytes and readers

pub byte-finds : (c : ℕ) → Finds (byte c) (λ b u. u ≡ c ∷ [])
unfolding starts
byte-finds c [] b n h = absurd (no_true (byte-inv c [] b n h).0)
byte-finds c (x ∷ xs) b n h =
    let v = byte-inv c (x ∷ xs) b n h in
    let e : x ≡ c = eqb-true x c v.0 in
    rw (v.1, e)

pub taken-finds : (f : Reader) → Finds (taken f) (λ a u. a ≡ u)
taken-finds f xs a n h = (taken-inv f xs a n h).1

-- a reader takes the whole of what it takes
pub took-whole : (f : Reader) (F : List ℕ → Type 0) → Local f F → Fits f → F [] → (xs : List ℕ) (n : ℕ) → f xs ≡ suc n → whole f (take (suc n) xs) ≡ true
unfolding whole
took-whole f F L K o [] n e = absurd (omega (arith, K []))
took-whole f F L K o (x ∷ xs) n e =
    let p = take (suc n) (x ∷ xs) in
    let i : suc n ≤ suc (length xs) = rw e at (K (x ∷ xs)) in
    let l : length p ≡ suc n = length-take-le (suc n) (x ∷ xs) i in
    let q : f (p ++ drop (suc n) (x ∷ xs)) ≡ suc n = rw (take-append-drop (suc n) (x ∷ xs)) e in
    let d : drop (suc n) p ≡ [] = ap (λ (k : ℕ). drop k p) (sym l) ∙ drop-length p in
    let g : F (drop (suc n) p ++ []) = rw d o in
    let r : f (p ++ []) ≡ suc n = L p (drop (suc n) (x ∷ xs)) [] n q (omega arith) g in
    let s : f p ≡ suc n = rw (append-nil p) at r in
    eq-eqb (f p) (length p) (s ∙ sym l)

pub text-finds : (f : Reader) (F : List ℕ → Type 0) → Local f F → Fits f → F [] → Finds (text f) (λ a u. (a ≡ u) × (whole f a ≡ true))
text-finds f F L K o xs a n h =
    let v = text-inv f xs a n h in
    let w : whole f (take (suc v.less) xs) ≡ true = took-whole f F L K o xs v.less (v.takes ∙ v.some) in
    (v.is, rw (v.is, v.some) w)

-- ==== choices

pub either-finds : {A : Type 0} (p q : Parser A) (R : A → List ℕ → Type 0) → Finds p R → Finds q R → Finds (either p q) R
either-finds p q R P Q xs a n h = go (either-inv p q xs a n h)
  where
    go : Which p q xs a n → R a (take n xs)
    go (first e) = P xs a n e
    go (second e g) = Q xs a n g

pub branch-finds : {A : Type 0} (test : List ℕ → Bool) (p q : Parser A) (R : A → List ℕ → Type 0) → Finds p R → Finds q R → Finds (branch test p q) R
branch-finds test p q R P Q xs a n h = go (test xs) refl
  where
    go : (b : Bool) → test xs ≡ b → R a (take n xs)
    go true e = P xs a n (sym (branch_yes test p q xs e) ∙ h)
    go false e = Q xs a n (sym (branch_no test p q xs e) ∙ h)

-- what is known of an optional part
abbrev pub Maybe : {A : Type 0} → (A → List ℕ → Type 0) → Option A → List ℕ → Type 0
Maybe R none u = u ≡ []
Maybe R (some a) u = R a u

pub optional-finds : {A : Type 0} (p : Parser A) (R : A → List ℕ → Type 0) → Finds p R → Finds (optional p) (Maybe R)
optional-finds {A} p R P xs o n h = go o (optional-inv p xs o n h)
  where
    go : (o : Option A) → Perhaps p xs o n → Maybe R o (take n xs)
    go none (absent e i z) = ap (λ (k : ℕ). take k xs) z
    go none (present a e i) = absurd (let z : ◌≡◌ {A = ℕ} 0 1 = cc in omega arith)
    go (some b) (absent e i z) = absurd (let z : ◌≡◌ {A = ℕ} 0 1 = cc in omega arith)
    go (some b) (present a e i) = let j : a ≡ b = cc in subst (λ (c : A). R c (take n xs)) j (P xs a n e)

-- ==== repetition

module _ {A : Type 0} (p : Parser A) (K : Within 1 p) (R : A → List ℕ → Type 0) (S : List A → List ℕ → Type 0) (P : Finds p R) (Z : S [] [])
    (C : (a : A) (u : List ℕ) (l : List A) (v : List ℕ) → R a u → S l v → S (a ∷ l) (u ++ v)) where
  one-turn : (b : ℕ) (xs : List ℕ) → length xs ≤ b → (l : List A) (n : ℕ) → Turn p xs l n
      → ((m : ℕ) → 1 ≤ m → m ≤ length xs → (l : List A) (n : ℕ) → several p 0 (drop m xs) ≡ got l n → S l (take n (drop m xs))) → S l (take n xs)
  one-turn b xs i l n (stop e z) ih = rw (e, z) Z
  one-turn b xs i l n (turn a m l' k e q u v) ih =
      let w = K xs a m e in
      rw (u, v, take-add m k xs) (C a (take m xs) l' (take k (drop m xs)) (P xs a m e) (ih m w.1 w.0 l' k q))

  repeated : (b : ℕ) (xs : List ℕ) → length xs ≤ b → (l : List A) (n : ℕ) → several p 0 xs ≡ got l n → S l (take n xs)
  repeated zero xs i l n h = one-turn 0 xs i l n (several-inv p xs l n h) (λ m o j. absurd (omega arith))
  repeated (suc b) xs i l n h =
      one-turn (suc b) xs i l n (several-inv p xs l n h) (λ m o j l n h. repeated b (drop m xs) (omega (arith, length-drop m xs)) l n h)

  pub several-finds : Finds (several p 0) S
  several-finds xs l n h = repeated (length xs) xs (le_refl _) l n h
