-- A digit run's number is 1 exactly where the digits that count are the digit 1 alone: by induction on the run, whose number no further
-- digit makes smaller.
use Prim.Native.Nat.{ℕ, zero, suc, ◌+◌, ◌-◌, ◌*◌, ◌≤◌, zero-le}
use native.Mathlib.Omega.{arith}
use mathlib.Core.Path.{◌≡◌, refl, sym, ap, ◌∙◌}
use mathlib.Core.Bool.{Bool, true, false, cond, ◌&&◌}
use mathlib.Core.List.{List, [], ◌∷◌}
use lib.Dec.{eqb, leb}
use lib.ListN.{get_or, take, drop}
use lib.Seq.{take-take}
use borrow.Author.Tests.{eq-eqb, ne_eqb, eqb-true, eqb-false, leb-true}
use Rattle.base_sequences.proofs.Booleans.{and_left}
use Rattle.base_sequences.proofs.Lists.{drop-take}
use Rattle.base_readers.specs.Texts.{within}
use Rattle.base_readers.specs.Readers.{run}
use Rattle.base_readers.proofs.Readers.{run_more, run_take}
use Rattle.lexis_rules.specs.declared.Class.TheVariants.{Digit, Zero}
use Rattle.lexis_rules.specs.Bytes.{in_class}
use Rattle.lexis_rules.specs.Pieces.{digits, zeros, leading, decimal}
use Rattle.lexis_rules.specs.Words.{counted}

pub digit_low : (x : ℕ) → in_class Digit x ≡ true → 48 ≤ x
unfolding in_class within
digit_low x e = leb-true 48 x (and_left (leb 48 x) (leb x 57) e)

-- a digit other than 0
pub digit-above : (x : ℕ) → in_class Digit x ≡ true → in_class Zero x ≡ false → 1 ≤ x - 48
unfolding in_class
digit-above x e z = omega (arith, digit_low x e, eqb-false x 48 z)

-- ==== one digit more

module _ (x : ℕ) (ys : List ℕ) where
  pub decimal-more : (n : ℕ) → in_class Digit x ≡ true → decimal n (x ∷ ys) ≡ decimal (n * 10 + (x - 48)) ys
  unfolding decimal
  decimal-more n e = rw (decimal, e)

  pub decimal-stop : (n : ℕ) → in_class Digit x ≡ false → decimal n (x ∷ ys) ≡ n
  unfolding decimal
  decimal-stop n e = rw (decimal, e)

  pub run-stop : (c : ℕ → Bool) → c x ≡ false → run c (x ∷ ys) ≡ 0
  unfolding run
  run-stop c e = rw (run, e)

pub decimal-grows : (n : ℕ) (xs : List ℕ) → n ≤ decimal n xs
unfolding decimal
decimal-grows n [] = omega arith
decimal-grows n (x ∷ xs) = go (in_class Digit x) refl (decimal-grows (n * 10 + (x - 48)) xs)
  where
    go : (t : Bool) → in_class Digit x ≡ t → n * 10 + (x - 48) ≤ decimal (n * 10 + (x - 48)) xs → n ≤ decimal n (x ∷ xs)
    go true e ih = omega (arith, decimal-more x xs n e)
    go false e ih = omega (arith, decimal-stop x xs n e)

-- no digit: the number stays
pub decimal-end : (n : ℕ) (xs : List ℕ) → digits xs ≡ 0 → decimal n xs ≡ n
unfolding decimal
decimal-end n [] e = refl
decimal-end n (x ∷ xs) e = go (in_class Digit x) refl
  where
    go : (t : Bool) → in_class Digit x ≡ t → decimal n (x ∷ xs) ≡ n
    go true q = absurd (omega (arith, run_more (in_class Digit) x xs q))
    go false q = decimal-stop x xs n q

-- a digit: the number is ten times as large at least
decimal-tens : (n : ℕ) (xs : List ℕ) (m : ℕ) → digits xs ≡ suc m → n * 10 ≤ decimal n xs
unfolding run
decimal-tens n [] m e = absurd (omega arith)
decimal-tens n (x ∷ xs) m e = go (in_class Digit x) refl
  where
    go : (t : Bool) → in_class Digit x ≡ t → n * 10 ≤ decimal n (x ∷ xs)
    go true q = omega (arith, decimal-more x xs n q, decimal-grows (n * 10 + (x - 48)) xs)
    go false q = absurd (omega (arith, run-stop x xs (in_class Digit) q))

-- ==== leading zeros

pub zero_is : (x : ℕ) → in_class Zero x ≡ true → x ≡ 48
unfolding in_class
zero_is x e = eqb-true x 48 e

pub zero-digit : (x : ℕ) → in_class Zero x ≡ true → in_class Digit x ≡ true
unfolding in_class within
zero-digit x e = rw (zero_is x e)

pub zeros-le : (xs : List ℕ) → zeros xs ≤ digits xs
unfolding run
zeros-le [] = zero-le
zeros-le (x ∷ xs) = go (in_class Zero x) refl (zeros-le xs)
  where
    go : (t : Bool) → in_class Zero x ≡ t → zeros xs ≤ digits xs → zeros (x ∷ xs) ≤ digits (x ∷ xs)
    go true e ih = omega (arith, run_more (in_class Zero) x xs e, run_more (in_class Digit) x xs (zero-digit x e))
    go false e ih = omega (arith, run-stop x xs (in_class Zero) e)

leading-is : (xs : List ℕ) (z d : ℕ) → zeros xs ≡ z → digits xs ≡ d → leading xs ≡ cond (eqb z d) (d - 1) z
unfolding leading
leading-is xs z d p q = rw (p, q)

pub leading-all : (xs : List ℕ) → zeros xs ≡ digits xs → leading xs ≡ digits xs - 1
unfolding leading
leading-all xs e = rw (eq-eqb (zeros xs) (digits xs) e)

pub leading-some : (xs : List ℕ) → (zeros xs ≡ digits xs → ⊥) → leading xs ≡ zeros xs
unfolding leading
leading-some xs ne = rw (ne_eqb (zeros xs) (digits xs) ne)

-- the digits that count, d in all less k, are the digit 1 alone
abbrev alone : List ℕ → ℕ → ℕ → Bool
alone xs d k = eqb (d - k) 1 && eqb (get_or xs k 0) 49

abbrev One : List ℕ → Type 0
One xs = eqb (decimal 0 xs) 1 ≡ alone xs (digits xs) (leading xs)

module _ (x : ℕ) (ys : List ℕ) where
  -- no digit
  no_digit : in_class Digit x ≡ false → One (x ∷ ys)
  no_digit e =
      let d : digits (x ∷ ys) ≡ 0 = run-stop x ys (in_class Digit) e in
      let z : zeros (x ∷ ys) ≡ 0 = omega (arith, zeros-le (x ∷ ys)) in
      rw (leading-is (x ∷ ys) 0 0 z d, d, decimal-stop x ys 0 e)

  -- a zero that stands alone
  zero-alone : in_class Zero x ≡ true → digits ys ≡ 0 → One (x ∷ ys)
  zero-alone z n =
      let e = zero-digit x z in
      let d : digits (x ∷ ys) ≡ 1 = run_more (in_class Digit) x ys e ∙ ap suc n in
      let o : zeros (x ∷ ys) ≡ 1 = omega (arith, run_more (in_class Zero) x ys z, zeros-le (x ∷ ys)) in
      let w : 0 * 10 + (x - 48) ≡ 0 = omega (arith, zero_is x z) in
      rw (leading-is (x ∷ ys) 1 1 o d, d, decimal-more x ys 0 e, w, decimal-end 0 ys n, zero_is x z)

  -- a zero in front of other digits
  zero_more : in_class Zero x ≡ true → (m : ℕ) → digits ys ≡ suc m → One ys → One (x ∷ ys)
  zero_more z m n ih =
      let e = zero-digit x z in
      let d : digits (x ∷ ys) ≡ suc (digits ys) = run_more (in_class Digit) x ys e in
      let w : 0 * 10 + (x - 48) ≡ 0 = omega (arith, zero_is x z) in
      let l : leading (x ∷ ys) ≡ suc (leading ys) = shift (zeros ys) refl in
      let j : suc (digits ys) - suc (leading ys) ≡ digits ys - leading ys = omega arith in
      rw (decimal-more x ys 0 e, w, l, d, j) ih
    where
      next : (k : ℕ) (t : Bool) → eqb k (suc m) ≡ t → cond (eqb (suc k) (suc (suc m))) (suc (suc m) - 1) (suc k) ≡ suc (cond (eqb k (suc m)) (suc m - 1) k)
      next k true q = rw (eq-eqb (suc k) (suc (suc m)) (ap suc (eqb-true k (suc m) q)), q) (omega arith)
      next k false q = rw (ne_eqb (suc k) (suc (suc m)) (λ i. eqb-false k (suc m) q (omega arith)), q)

      shift : (k : ℕ) → zeros ys ≡ k → leading (x ∷ ys) ≡ suc (leading ys)
      shift k q =
          leading-is (x ∷ ys) (suc k) (suc (suc m)) (run_more (in_class Zero) x ys z ∙ ap suc q) (run_more (in_class Digit) x ys (zero-digit x z) ∙ ap suc n)
          ∙ (next k (eqb k (suc m)) refl ∙ ap suc (sym (leading-is ys k (suc m) q n)))

  -- a digit that counts: alone, or in front of others
  digit-first : in_class Digit x ≡ true → in_class Zero x ≡ false → One (x ∷ ys)
  unfolding in_class
  digit-first e z =
      let d : digits (x ∷ ys) ≡ suc (digits ys) = run_more (in_class Digit) x ys e in
      let o : zeros (x ∷ ys) ≡ 0 = run-stop x ys (in_class Zero) z in
      let l : leading (x ∷ ys) ≡ 0 = leading-is (x ∷ ys) 0 (suc (digits ys)) o d ∙ rw (ne_eqb 0 (suc (digits ys)) (λ i. omega arith)) in
      let w : 0 * 10 + (x - 48) ≡ x - 48 = omega arith in
      rw (decimal-more x ys 0 e, w, l, d) (go (digits ys) refl)
    where
      low : 48 ≤ x
      low = digit_low x e

      one : (t : Bool) → eqb x 49 ≡ t → eqb (x - 48) 1 ≡ t
      one true q = eq-eqb (x - 48) 1 (omega (arith, eqb-true x 49 q))
      one false q = ne_eqb (x - 48) 1 (λ i. eqb-false x 49 q (omega (arith, low)))

      go : (m : ℕ) → digits ys ≡ m → eqb (decimal (x - 48) ys) 1 ≡ (eqb (suc m - 0) 1 && eqb x 49)
      go zero n = rw (decimal-end (x - 48) ys n) (one (eqb x 49) refl)
      go (suc m) n =
          let f : eqb (suc (suc m) - 0) 1 ≡ false = ne_eqb (suc (suc m) - 0) 1 (λ i. omega arith) in
          rw f (ne_eqb (decimal (x - 48) ys) 1 (λ i. omega (arith, decimal-tens (x - 48) ys m n, digit-above x e z)))

pub one-is : (xs : List ℕ) → One xs
unfolding run decimal leading
one-is [] = refl
one-is (x ∷ xs) = go (in_class Digit x) (in_class Zero x) refl refl (one-is xs)
  where
    zero-first : in_class Zero x ≡ true → One xs → (m : ℕ) → digits xs ≡ m → One (x ∷ xs)
    zero-first z ih zero n = zero-alone x xs z n
    zero-first z ih (suc m) n = zero_more x xs z m n ih

    go : (t u : Bool) → in_class Digit x ≡ t → in_class Zero x ≡ u → One xs → One (x ∷ xs)
    go false u e z ih = no_digit x xs e
    go true true e z ih = zero-first z ih (digits xs) refl
    go true false e z ih = digit-first x xs e z

-- the digits that count of a run are those of its own bytes
pub counted-text : (xs : List ℕ) (n : ℕ) → digits xs ≡ suc n → counted (take (suc n) xs) ≡ take (digits xs - leading xs) (drop (leading xs) xs)
unfolding counted
counted-text xs n e =
    let p = take (suc n) xs in
    let d : digits p ≡ suc n = run_take (in_class Digit) (suc n) xs (omega arith) ∙ e in
    let z : zeros p ≡ zeros xs = run_take (in_class Zero) (suc n) xs (omega (arith, zeros-le xs)) in
    let k : leading p ≡ leading xs = leading-is p (zeros xs) (suc n) z d ∙ sym (leading-is xs (zeros xs) (suc n) refl e) in
    rw (d, k, e, drop-take (leading xs) (suc n) xs) (take-take (suc n - leading xs) (suc n - leading xs) (drop (leading xs) xs) (omega arith))

-- ==== as the code finds them

module _ (s : List ℕ) (at e : ℕ) (d : e ≡ at + digits (drop at s)) where
  module _ (z : ℕ) (q : z ≡ at + zeros (drop at s)) where
    pub counted-first : (z ≡ e → ⊥) → z ≡ at + leading (drop at s)
    counted-first ne = omega (arith, leading-some (drop at s) (λ i. ne (omega arith)))

    module _ (i : z ≡ e) where
      all : leading (drop at s) ≡ digits (drop at s) - 1
      all = leading-all (drop at s) (omega arith)

      pub counted_none : e ≡ at → at ≡ at + leading (drop at s)
      counted_none j = omega (arith, all)

      pub counted-last : (e ≡ at → ⊥) → e - 1 ≡ at + leading (drop at s)
      counted-last ne = omega (arith, all)
