-- What each parser gives where its parts are known, and what is known of its parts where it gives something, by cases on what the parts give.
use Prim.Native.Nat.{ℕ, zero, suc, ◌+◌}
use native.Mathlib.Nat.{zero-add}
use native.Mathlib.Omega.{arith}
use mathlib.Core.Path.{◌≡◌, refl, sym, ap, ◌∙◌}
use mathlib.Core.Bool.{Bool, true, false}
use mathlib.Core.List.{List, [], ◌∷◌}
use mathlib.Core.Option.{Option, none, some}
use lib.Dec.{eqb}
use lib.ListN.{drop, take}
use Rattle.base_readers.specs.Texts.{starts, follows}
use Rattle.base_readers.specs.Readers.{Reader}
use Rattle.base_readers.specs.Parsers.{Got, nothing, got, Parser, after, ◌>>=◌, give, when, ahead, end, byte, taken, skipping, text, pass, either, branch, optional}
use Rattle.base_readers.specs.Locality.{Starts, Follows}

pub no-got : {A : Type 0} {a : A} {n : ℕ} → nothing ≡ got a n → ⊥
no-got e = let z : ◌≡◌ {A = ℕ} 0 1 = cc in omega arith

-- a value of the type with one value
pub unit-is : (u : Unit {0}) → tt ≡ u
unit-is tt = refl

-- ==== further on

module _ {A : Type 0} where
  pub after-zero : (g : Got A) → after 0 g ≡ g
  unfolding after
  after-zero nothing = refl
  after-zero (got a n) = rw zero-add

  pub after-after : (m n : ℕ) (g : Got A) → after m (after n g) ≡ after (m + n) g
  unfolding after
  after-after m n nothing = refl
  after-after m n (got a k) = ap (λ (j : ℕ). got a j) (omega arith)

-- ==== one after the other

-- what the two parts of a sequence gave
pub record Both {A B : Type 0} (p : Parser A) (f : A → Parser B) (xs : List ℕ) (b : B) (n : ℕ) : Type 0 where
  pub val : A
  pub fst : ℕ
  pub snd : ℕ
  pub reads : p xs ≡ got val fst
  pub goes : f val (drop fst xs) ≡ got b snd
  pub sum : fst + snd ≡ n

module _ {A B : Type 0} (p : Parser A) (f : A → Parser B) (xs : List ℕ) where
  pub bind-none : p xs ≡ nothing → ◌>>=◌ p f xs ≡ nothing
  unfolding ◌>>=◌
  bind-none e = rw (◌>>=◌, e)

  pub bind_is : (a : A) (n : ℕ) → p xs ≡ got a n → ◌>>=◌ p f xs ≡ after n (f a (drop n xs))
  unfolding ◌>>=◌
  bind_is a n e = rw (◌>>=◌, e)

  pub bind-got : (a : A) (n : ℕ) (b : B) (m : ℕ) → p xs ≡ got a n → f a (drop n xs) ≡ got b m → ◌>>=◌ p f xs ≡ got b (n + m)
  unfolding after
  bind-got a n b m e h = bind_is a n e ∙ rw h

  pub bind-stuck : (a : A) (n : ℕ) → p xs ≡ got a n → f a (drop n xs) ≡ nothing → ◌>>=◌ p f xs ≡ nothing
  unfolding after
  bind-stuck a n e h = bind_is a n e ∙ rw h

  pub bind_inv : (b : B) (n : ℕ) → ◌>>=◌ p f xs ≡ got b n → Both p f xs b n
  bind_inv b n h = go (p xs) refl
    where
      second : (a : A) (m : ℕ) → p xs ≡ got a m → (g : Got B) → f a (drop m xs) ≡ g → Both p f xs b n
      second a m e nothing q = absurd (no-got (sym (bind-stuck a m e q) ∙ h))
      second a m e (got c k) q =
          let w : got c (m + k) ≡ got b n = sym (bind-got a m c k e q) ∙ h in
          let u : c ≡ b = cc in
          let v : m + k ≡ n = cc in
          record { val = a; fst = m; snd = k; reads = e; goes = q ∙ ap (λ (z : B). got z k) u; sum = v }

      go : (g : Got A) → p xs ≡ g → Both p f xs b n
      go nothing e = absurd (no-got (sym (bind-none e) ∙ h))
      go (got a m) e = second a m e (f a (drop m xs)) refl

-- ==== parsers that take nothing

module _ {A : Type 0} (a : A) (xs : List ℕ) where
  pub give-is : give a xs ≡ got a 0
  unfolding give
  give-is = refl

  pub give-inv : (b : A) (n : ℕ) → give a xs ≡ got b n → (a ≡ b) × (n ≡ 0)
  give-inv b n h = let w : got a 0 ≡ got b n = sym give-is ∙ h in let l : 0 ≡ n = cc in (cc, sym l)

module _ (t : Bool) (xs : List ℕ) where
  pub when-is : t ≡ true → when t xs ≡ got tt 0
  unfolding when
  when-is e = rw (when, e)

  pub when-not : t ≡ false → when t xs ≡ nothing
  unfolding when
  when-not e = rw (when, e)

  pub when-inv : (u : Unit {0}) (n : ℕ) → when t xs ≡ got u n → (t ≡ true) × (n ≡ 0)
  when-inv u n h = go t refl
    where
      go : (b : Bool) → t ≡ b → (t ≡ true) × (n ≡ 0)
      go true e = let w : got tt 0 ≡ got u n = sym (when-is e) ∙ h in let l : 0 ≡ n = cc in (e, sym l)
      go false e = absurd (no-got (sym (when-not e) ∙ h))

module _ (c : ℕ → Bool) (xs : List ℕ) where
  pub ahead-is : Follows c xs → ahead c xs ≡ got tt 0
  unfolding ahead
  ahead-is e = when-is (follows c xs) xs e

  pub ahead-not : follows c xs ≡ false → ahead c xs ≡ nothing
  unfolding ahead
  ahead-not e = when-not (follows c xs) xs e

  pub ahead-inv : (u : Unit {0}) (n : ℕ) → ahead c xs ≡ got u n → Follows c xs × (n ≡ 0)
  unfolding ahead
  ahead-inv u n h = when-inv (follows c xs) xs u n h

pub end_is : end [] ≡ got tt 0
unfolding end
end_is = refl

pub end-inv : (xs : List ℕ) (u : Unit {0}) (n : ℕ) → end xs ≡ got u n → (xs ≡ []) × (n ≡ 0)
unfolding end
end-inv [] u n h = let w : got tt 0 ≡ got u n = h in let l : 0 ≡ n = cc in (refl, sym l)
end-inv (x ∷ xs) u n h = absurd (no-got h)

-- ==== one byte

module _ (c : ℕ) where
  pub byte-is : (xs : List ℕ) → Starts (λ b. eqb b c) xs → byte c xs ≡ got tt 1
  unfolding byte starts
  byte-is [] e = absurd (let z : ◌≡◌ {A = ℕ} 0 1 = cc in omega arith)
  byte-is (x ∷ xs) e = rw (byte, e)

  pub byte-not : (xs : List ℕ) → starts (λ b. eqb b c) xs ≡ false → byte c xs ≡ nothing
  unfolding byte starts
  byte-not [] e = refl
  byte-not (x ∷ xs) e = rw (byte, e)

  pub byte-inv : (xs : List ℕ) (u : Unit {0}) (n : ℕ) → byte c xs ≡ got u n → Starts (λ b. eqb b c) xs × (n ≡ 1)
  byte-inv xs u n h = go (starts (λ b. eqb b c) xs) refl
    where
      go : (t : Bool) → starts (λ b. eqb b c) xs ≡ t → Starts (λ b. eqb b c) xs × (n ≡ 1)
      go true e = let w : got tt 1 ≡ got u n = sym (byte-is xs e) ∙ h in let l : 1 ≡ n = cc in (e, sym l)
      go false e = absurd (no-got (sym (byte-not xs e) ∙ h))

-- ==== what a reader takes

-- what a reader took, and its text
pub record Taken (f : Reader) (xs : List ℕ) (a : List ℕ) (n : ℕ) : Type 0 where
  pub less : ℕ
  pub some : n ≡ suc less
  pub takes : f xs ≡ n
  pub is : a ≡ take n xs

-- what a reader took
pub record Passed (f : Reader) (xs : List ℕ) (n : ℕ) : Type 0 where
  pub less : ℕ
  pub some : n ≡ suc less
  pub takes : f xs ≡ n

module _ (f : Reader) (xs : List ℕ) where
  pub taken_is : (n : ℕ) → f xs ≡ n → taken f xs ≡ got (take n xs) n
  unfolding taken
  taken_is n e = rw e

  pub taken-inv : (a : List ℕ) (n : ℕ) → taken f xs ≡ got a n → (f xs ≡ n) × (a ≡ take n xs)
  taken-inv a n h =
      let w : got (take (f xs) xs) (f xs) ≡ got a n = sym (taken_is (f xs) refl) ∙ h in
      let l : f xs ≡ n = cc in
      let i : take (f xs) xs ≡ a = cc in
      (l, sym i ∙ ap (λ (k : ℕ). take k xs) l)

  pub skipping-is : (n : ℕ) → f xs ≡ n → skipping f xs ≡ got tt n
  unfolding skipping
  skipping-is n e = rw e

  pub skipping-inv : (u : Unit {0}) (n : ℕ) → skipping f xs ≡ got u n → f xs ≡ n
  skipping-inv u n h = let w : got tt (f xs) ≡ got u n = sym (skipping-is (f xs) refl) ∙ h in cc

  pub text-is : (n : ℕ) → f xs ≡ suc n → text f xs ≡ got (take (suc n) xs) (suc n)
  unfolding text
  text-is n e = rw (text, e)

  pub text-not : f xs ≡ 0 → text f xs ≡ nothing
  unfolding text
  text-not e = rw (text, e)

  pub text-inv : (a : List ℕ) (n : ℕ) → text f xs ≡ got a n → Taken f xs a n
  text-inv a n h = go (f xs) refl
    where
      go : (m : ℕ) → f xs ≡ m → Taken f xs a n
      go zero e = absurd (no-got (sym (text-not e) ∙ h))
      go (suc m) e =
          let w : got (take (suc m) xs) (suc m) ≡ got a n = sym (text-is m e) ∙ h in
          let l : suc m ≡ n = cc in
          let i : take (suc m) xs ≡ a = cc in
          record { less = m; some = sym l; takes = e ∙ l; is = sym i ∙ ap (λ (k : ℕ). take k xs) l }

  pub pass-is : (n : ℕ) → f xs ≡ suc n → pass f xs ≡ got tt (suc n)
  unfolding pass
  pass-is n e = rw (pass, e)

  pub pass-not : f xs ≡ 0 → pass f xs ≡ nothing
  unfolding pass
  pass-not e = rw (pass, e)

  pub pass-inv : (u : Unit {0}) (n : ℕ) → pass f xs ≡ got u n → Passed f xs n
  pass-inv u n h = go (f xs) refl
    where
      go : (m : ℕ) → f xs ≡ m → Passed f xs n
      go zero e = absurd (no-got (sym (pass-not e) ∙ h))
      go (suc m) e =
          let w : got tt (suc m) ≡ got u n = sym (pass-is m e) ∙ h in
          let l : suc m ≡ n = cc in
          record { less = m; some = sym l; takes = e ∙ l }

-- ==== choices

-- which of two parsers gave what was got
pub data Which {A : Type 0} (p q : Parser A) (xs : List ℕ) (a : A) (n : ℕ) : Type 0 where
  first : p xs ≡ got a n → Which p q xs a n
  second : p xs ≡ nothing → q xs ≡ got a n → Which p q xs a n

module _ {A : Type 0} (p q : Parser A) (xs : List ℕ) where
  pub either_first : (a : A) (n : ℕ) → p xs ≡ got a n → either p q xs ≡ got a n
  unfolding either
  either_first a n e = rw (either, e)

  pub either_second : p xs ≡ nothing → either p q xs ≡ q xs
  unfolding either
  either_second e = rw (either, e)

  pub either-inv : (a : A) (n : ℕ) → either p q xs ≡ got a n → Which p q xs a n
  either-inv a n h = go (p xs) refl
    where
      go : (g : Got A) → p xs ≡ g → Which p q xs a n
      go nothing e = second e (sym (either_second e) ∙ h)
      go (got b m) e = first (e ∙ (sym (either_first b m e) ∙ h))

module _ {A : Type 0} (test : List ℕ → Bool) (p q : Parser A) (xs : List ℕ) where
  pub branch_yes : test xs ≡ true → branch test p q xs ≡ p xs
  unfolding branch
  branch_yes e = rw (branch, e)

  pub branch_no : test xs ≡ false → branch test p q xs ≡ q xs
  unfolding branch
  branch_no e = rw (branch, e)

-- whether an optional part is there
pub data Perhaps {A : Type 0} (p : Parser A) (xs : List ℕ) (o : Option A) (n : ℕ) : Type 0 where
  absent : p xs ≡ nothing → o ≡ none → n ≡ 0 → Perhaps p xs o n
  present : (a : A) → p xs ≡ got a n → o ≡ some a → Perhaps p xs o n

module _ {A : Type 0} (p : Parser A) (xs : List ℕ) where
  pub optional-some : (a : A) (n : ℕ) → p xs ≡ got a n → optional p xs ≡ got (some a) n
  unfolding optional
  optional-some a n e = rw (optional, e)

  pub optional-none : p xs ≡ nothing → optional p xs ≡ got none 0
  unfolding optional
  optional-none e = rw (optional, e)

  pub optional-inv : (o : Option A) (n : ℕ) → optional p xs ≡ got o n → Perhaps p xs o n
  optional-inv o n h = go (p xs) refl
    where
      go : (g : Got A) → p xs ≡ g → Perhaps p xs o n
      go nothing e =
          let w : got o n ≡ got none 0 = sym h ∙ optional-none e in
          let i : o ≡ none = cc in
          let l : n ≡ 0 = cc in
          absent e i l
      go (got a m) e =
          let w : got o n ≡ got (some a) m = sym h ∙ optional-some a m e in
          let i : o ≡ some a = cc in
          let l : m ≡ n = cc in
          present a (e ∙ ap (λ (k : ℕ). got a k) l) i
