-- 02, ticket [3]: the number of a digit run. Up to six digits that count make a number up to 999,999, and more a larger one; it is that of
-- the digits that count; and it is 1 exactly where the rule before it said so. By induction on the run.
use Prim.Native.Char.{code}
use Prim.Native.Nat.{ℕ, zero, suc, ◌+◌, ◌-◌, ◌*◌, ◌≤◌, ◌<◌, ◌^◌}
use native.Mathlib.Nat.{add-zero}
use native.Mathlib.Numerals.{add-one}
use native.Mathlib.Omega.{arith}
use mathlib.Core.Path.{◌≡◌, refl, sym, ap, ◌∙◌}
use mathlib.Core.Bool.{Bool, true, false, ◌&&◌}
use mathlib.Core.List.{List, [], ◌∷◌}
use lib.Dec.{eqb, leb}
use lib.ListN.{length, get_or, take, drop, length-drop}
use lib.Seq.{get_or-drop, drop-cons, drop-drop}
use borrow.Author.Tests.{ne_eqb, eqb-true, eqb-false, le-leb, lt-leb, leb-true, leb-false}
use Rattle.base_sequences.proofs.Booleans.{and_right, and_none}
use Rattle.base_readers.specs.Texts.{bytes, same, within}
use Rattle.base_readers.specs.Readers.{run}
use Rattle.base_readers.proofs.Texts.{same-eq}
use Rattle.base_readers.proofs.Readers.{run_more, run_fits, run-from}
use Rattle.lexis_rules.specs.declared.Class.TheVariants.{Digit, Zero}
use Rattle.lexis_rules.specs.declared.VersionNumber.{VersionNumber}
use Rattle.lexis_rules.specs.declared.VersionNumber.TheVariants.{Exact, Large}
use Rattle.lexis_rules.specs.declared.Digits.{Digits}
use Rattle.lexis_rules.specs.Bytes.{in_class}
use Rattle.lexis_rules.specs.Pieces.{digits, zeros, leading, decimal}
use Rattle.lexis_rules.specs.Words.{counted}
use Rattle.lexis_rules.specs.Numbers.{largest, or_large, number_of, one, is_one}
use Rattle.lexis_rules.specs.Answers.{digits_at}
use Rattle.lexis_laws.proofs.Numbers.{digit-above, decimal-more, decimal-stop, decimal-grows, decimal-end, run-stop, zero_is, zero-digit, zeros-le, leading-all, leading-some, one-is}

-- ==== exact or large

module _ (n : ℕ) where
  pub exact-is : n ≤ largest → or_large n ≡ Exact n
  unfolding or_large
  exact-is h = rw (or_large, le-leb n largest h)

  pub large_is : largest < n → or_large n ≡ Large
  unfolding or_large
  large_is h = rw (or_large, lt-leb n largest h)

-- a large number is not 1, for 1 is told itself
pub one_number : (n : ℕ) → is_one (or_large n) ≡ eqb n 1
one_number n = go (leb n largest) refl
  where
    go : (t : Bool) → leb n largest ≡ t → is_one (or_large n) ≡ eqb n 1
    go true e = rw (exact-is n (leb-true n largest e))
    go false e = let h : largest < n = leb-false n largest e in rw (large_is n h) (sym (ne_eqb n 1 (λ i. omega arith)))

pub is-one : (v : VersionNumber) → is_one v ≡ true → v ≡ one
is-one (Exact n) e = ap Exact (eqb-true n 1 e)
is-one Large e = absurd (ne_true e)
  where
    ne_true : false ≡ true → ⊥
    ne_true e = let z : ◌≡◌ {A = ℕ} 0 1 = ap (λ (b : Bool). elim b [ true ↦ 1 | false ↦ 0 ]) e in omega arith

pub not-one : (v : VersionNumber) → (v ≡ one → ⊥) → is_one v ≡ false
not-one v ne = go (is_one v) refl
  where
    go : (t : Bool) → is_one v ≡ t → is_one v ≡ false
    go true e = absurd (ne (is-one v e))
    go false e = e

-- ==== how large a number is that has so many digits

digit-high : (x : ℕ) → in_class Digit x ≡ true → x ≤ 57
unfolding in_class within
digit-high x e = leb-true x 57 (and_right (leb 48 x) (leb x 57) e)

-- n with so many zeros behind it, and with so many nines
tens : ℕ → ℕ → ℕ
tens zero n = n
tens (suc k) n = tens k (n * 10)

nines : ℕ → ℕ → ℕ
nines zero n = n
nines (suc k) n = nines k (n * 10 + 9)

tens-mono : (k m n : ℕ) → m ≤ n → tens k m ≤ tens k n
unfolding tens
tens-mono zero m n h = h
tens-mono (suc k) m n h = tens-mono k (m * 10) (n * 10) (omega arith)

nines-mono : (k m n : ℕ) → m ≤ n → nines k m ≤ nines k n
unfolding nines
nines-mono zero m n h = h
nines-mono (suc k) m n h = nines-mono k (m * 10 + 9) (n * 10 + 9) (omega arith)

nines-grows : (k n : ℕ) → n ≤ nines k n
unfolding nines
nines-grows zero n = omega arith
nines-grows (suc k) n = omega (arith, nines-grows k (n * 10 + 9))

decimal-least : (k n : ℕ) (xs : List ℕ) → k ≤ digits xs → tens k n ≤ decimal n xs
unfolding tens run
decimal-least zero n xs h = decimal-grows n xs
decimal-least (suc k) n [] h = absurd (omega arith)
decimal-least (suc k) n (x ∷ xs) h = go (in_class Digit x) refl (λ l. decimal-least k (n * 10 + (x - 48)) xs l)
  where
    go : (t : Bool) → in_class Digit x ≡ t → (k ≤ digits xs → tens k (n * 10 + (x - 48)) ≤ decimal (n * 10 + (x - 48)) xs)
        → tens k (n * 10) ≤ decimal n (x ∷ xs)
    go true e ih =
        let l : k ≤ digits xs = omega (arith, run_more (in_class Digit) x xs e) in
        omega (arith, decimal-more x xs n e, tens-mono k (n * 10) (n * 10 + (x - 48)) (omega arith), ih l)
    go false e ih = absurd (omega (arith, run-stop x xs (in_class Digit) e))

decimal-most : (k n : ℕ) (xs : List ℕ) → digits xs ≤ k → decimal n xs ≤ nines k n
unfolding nines decimal
decimal-most zero n xs h = omega (arith, decimal-end n xs (omega arith))
decimal-most (suc k) n [] h = nines-grows (suc k) n
decimal-most (suc k) n (x ∷ xs) h = go (in_class Digit x) refl (λ l. decimal-most k (n * 10 + (x - 48)) xs l)
  where
    go : (t : Bool) → in_class Digit x ≡ t → (digits xs ≤ k → decimal (n * 10 + (x - 48)) xs ≤ nines k (n * 10 + (x - 48)))
        → decimal n (x ∷ xs) ≤ nines k (n * 10 + 9)
    go true e ih =
        let l : digits xs ≤ k = omega (arith, run_more (in_class Digit) x xs e) in
        omega (arith, decimal-more x xs n e, nines-mono k (n * 10 + (x - 48)) (n * 10 + 9) (omega (arith, digit-high x e)), ih l)
    go false e ih = omega (arith, decimal-stop x xs n e, nines-grows (suc k) n)

-- six digits at most make a number that is told
pub six-small : (xs : List ℕ) → digits xs ≤ 6 → decimal 0 xs ≤ largest
unfolding nines
six-small xs h = decimal-most 6 0 xs h

-- seven or more, of which the first is not 0, a larger one
seven-large : (xs : List ℕ) → 6 < digits xs → zeros xs ≡ 0 → largest < decimal 0 xs
unfolding tens run
seven-large [] h z = absurd (omega arith)
seven-large (x ∷ xs) h z = go (in_class Digit x) (in_class Zero x) refl refl
  where
    go : (t u : Bool) → in_class Digit x ≡ t → in_class Zero x ≡ u → largest < decimal 0 (x ∷ xs)
    go false u d o = absurd (omega (arith, run-stop x xs (in_class Digit) d))
    go true true d o = absurd (omega (arith, run_more (in_class Zero) x xs o))
    go true false d o =
        omega (
          arith,
          decimal-more x xs 0 d,
          tens-mono 6 1 (0 * 10 + (x - 48)) (omega (arith, digit-above x d o)),
          decimal-least 6 (0 * 10 + (x - 48)) xs (omega (arith, run_more (in_class Digit) x xs d)),
        )

-- ==== the digits that count

-- a zero in front adds nothing
decimal-zero : (x : ℕ) (xs : List ℕ) → in_class Zero x ≡ true → decimal 0 (x ∷ xs) ≡ decimal 0 xs
decimal-zero x xs e =
    let w : 0 * 10 + (x - 48) ≡ 0 = omega (arith, zero_is x e) in
    decimal-more x xs 0 (zero-digit x e) ∙ ap (λ (n : ℕ). decimal n xs) w

decimal-zeros : (k : ℕ) (xs : List ℕ) → k ≤ zeros xs → decimal 0 (drop k xs) ≡ decimal 0 xs
unfolding run
decimal-zeros zero xs h = refl
decimal-zeros (suc k) [] h = refl
decimal-zeros (suc k) (x ∷ xs) h = go (in_class Zero x) refl (λ l. decimal-zeros k xs l)
  where
    go : (t : Bool) → in_class Zero x ≡ t → (k ≤ zeros xs → decimal 0 (drop k xs) ≡ decimal 0 xs) → decimal 0 (drop k xs) ≡ decimal 0 (x ∷ xs)
    go true e ih = ih (omega (arith, run_more (in_class Zero) x xs e)) ∙ sym (decimal-zero x xs e)
    go false e ih = absurd (omega (arith, run-stop x xs (in_class Zero) e))

-- behind the run nothing is read
decimal-take : (k n : ℕ) (xs : List ℕ) → digits xs ≤ k → decimal n (take k xs) ≡ decimal n xs
unfolding decimal
decimal-take zero n xs h = sym (decimal-end n xs (omega arith))
decimal-take (suc k) n [] h = refl
decimal-take (suc k) n (x ∷ xs) h = go (in_class Digit x) refl (λ l. decimal-take k (n * 10 + (x - 48)) xs l)
  where
    go : (t : Bool) → in_class Digit x ≡ t → (digits xs ≤ k → decimal (n * 10 + (x - 48)) (take k xs) ≡ decimal (n * 10 + (x - 48)) xs)
        → decimal n (x ∷ take k xs) ≡ decimal n (x ∷ xs)
    go true e ih =
        decimal-more x (take k xs) n e ∙ (ih (omega (arith, run_more (in_class Digit) x xs e)) ∙ sym (decimal-more x xs n e))
    go false e ih = decimal-stop x (take k xs) n e ∙ sym (decimal-stop x xs n e)

module _ (xs : List ℕ) where
  leading_zeros : leading xs ≤ zeros xs
  leading_zeros = go (eqb (zeros xs) (digits xs)) refl
    where
      go : (t : Bool) → eqb (zeros xs) (digits xs) ≡ t → leading xs ≤ zeros xs
      go true e = let q : zeros xs ≡ digits xs = eqb-true (zeros xs) (digits xs) e in omega (arith, leading-all xs q)
      go false e = omega (arith, leading-some xs (eqb-false (zeros xs) (digits xs) e))

  -- those that don't count are digits of the run
  pub leading_le : leading xs ≤ digits xs
  leading_le = omega (arith, leading_zeros, zeros-le xs)

  counted-digits : digits (drop (leading xs) xs) ≡ digits xs - leading xs
  counted-digits = omega (arith, run-from (in_class Digit) (leading xs) xs leading_le)

  decimal-counted : decimal 0 (drop (leading xs) xs) ≡ decimal 0 xs
  decimal-counted = decimal-zeros (leading xs) xs leading_zeros

  counted-small : digits xs - leading xs ≤ 6 → decimal 0 xs ≤ largest
  counted-small h = omega (arith, decimal-counted, six-small (drop (leading xs) xs) (omega (arith, counted-digits)))

  counted-large : 6 < digits xs - leading xs → largest < decimal 0 xs
  counted-large h =
      let l : leading xs ≡ zeros xs = leading-some xs (λ e. omega (arith, leading-all xs e)) in
      let z : zeros (drop (leading xs) xs) ≡ 0 = omega (arith, l, run-from (in_class Zero) (leading xs) xs leading_zeros) in
      omega (arith, decimal-counted, seven-large (drop (leading xs) xs) (omega (arith, counted-digits)) z)

-- ==== the number of a run

-- leading zeros not counted
pub number-zero : (xs : List ℕ) → number_of (code "0" ∷ xs) ≡ number_of xs
unfolding in_class
number-zero xs = ap or_large (decimal-zero 48 xs refl)

-- so the number is that of the digits that count
pub number-counted : (xs : List ℕ) → number_of (counted xs) ≡ number_of xs
unfolding counted
number-counted xs =
    ap or_large (decimal-take (digits xs - leading xs) 0 (drop (leading xs) xs) (omega (arith, counted-digits xs)) ∙ decimal-counted xs)

-- a run's number is that of its own bytes
pub number-text : (xs : List ℕ) (n : ℕ) → digits xs ≡ n → number_of (take n xs) ≡ number_of xs
number-text xs n e = ap or_large (decimal-take n 0 xs (omega arith))

-- ==== the rule before ticket [3]

-- the front of a text is the digit 1 alone
one-alone : (k : ℕ) (ys : List ℕ) → k ≤ length ys → same (take k ys) (bytes "1") ≡ (eqb k 1 && eqb (get_or ys 0 0) 49)
unfolding same
one-alone zero ys l = refl
one-alone (suc zero) [] l = absurd (omega arith)
one-alone (suc zero) (y ∷ ys) l = go (eqb y 49)
  where
    go : (b : Bool) → (b && true) ≡ b
    go true = refl
    go false = refl
one-alone (suc (suc k)) [] l = absurd (omega arith)
one-alone (suc (suc k)) (y ∷ []) l = absurd (omega arith)
one-alone (suc (suc k)) (y ∷ z ∷ ys) l =
    let f : eqb (suc (suc k)) 1 ≡ false = ne_eqb (suc (suc k)) 1 (λ i. omega arith) in
    rw f (and_none (eqb y 49))

-- the rule before: the digits that count are the one byte "1"
abbrev pub one_by_digits : List ℕ → Bool
one_by_digits xs = same (counted xs) (bytes "1")

-- nothing changed: the two rules agree on every text
pub one_same : (xs : List ℕ) → is_one (number_of xs) ≡ one_by_digits xs
unfolding counted
one_same xs =
    let k = digits xs - leading xs in
    let l : k ≤ length (drop (leading xs) xs) = omega (arith, length-drop (leading xs) xs, run_fits (in_class Digit) xs) in
    let g : get_or (drop (leading xs) xs) 0 0 ≡ get_or xs (leading xs) 0 = get_or-drop (leading xs) xs 0 0 ∙ rw add-zero in
    one_number (decimal 0 xs) ∙ (one-is xs ∙ sym (one-alone k (drop (leading xs) xs) l ∙ rw g))

-- so digits that count, with the number 1, are the one byte "1"
pub one-digits : (xs : List ℕ) → number_of (counted xs) ≡ one → counted xs ≡ bytes "1"
one-digits xs e = same-eq (counted xs) (bytes "1") (sym (one_same xs) ∙ ap is_one (sym (number-counted xs) ∙ e))

-- ==== as the code finds it

-- of a digit run from b up to e the digits before the place i are summed up to n
pub record Summed (s : List ℕ) (b e i n : ℕ) : Type 0 where
  pub rest : e ≡ i + digits (drop i s)
  pub sum : decimal n (drop i s) ≡ decimal 0 (drop b s)

module _ (s : List ℕ) (b e : ℕ) (q : (e ≡ b + digits (drop b s)) × (e ≤ b + 6)) where
  pub summed-start : Summed s b e b 0
  summed-start = record { rest = q.0; sum = refl }

  module _ (i n : ℕ) (w : Summed s b e i n) where
    -- the sum so far is no more than the whole
    summed-small : n ≤ largest
    summed-small = omega (arith, decimal-grows n (drop i s), w.sum, six-small (drop b s) (omega (arith, q.0, q.1)))

    pub summed-end : e ≤ i → n ≡ decimal 0 (drop b s)
    summed-end h = sym (decimal-end n (drop i s) (omega (arith, w.rest))) ∙ w.sum

    module _ (h : i < e) where
      pub summed-inside : i < length s
      summed-inside = omega (arith, w.rest, run_fits (in_class Digit) (drop i s), length-drop i s)

      here : drop i s ≡ get_or s i 0 ∷ drop (i + 1) s
      here = drop-cons s i 0 summed-inside ∙ rw add-one

      pub summed-digit : in_class Digit (get_or s i 0) ≡ true
      summed-digit = go (in_class Digit (get_or s i 0)) refl
        where
          go : (t : Bool) → in_class Digit (get_or s i 0) ≡ t → in_class Digit (get_or s i 0) ≡ true
          go true d = d
          go false d = absurd (omega (arith, w.rest, ap digits here, run-stop (get_or s i 0) (drop (i + 1) s) (in_class Digit) d))

      pub summed-tens : n * 10 < 2 ^ 32
      summed-tens = omega (arith, summed-small)

      module _ (d : ℕ) (v : d ≡ get_or s i 0 - 48) where
        pub summed-fits : n * 10 + d < 2 ^ 32
        summed-fits = omega (arith, summed-small, digit-high (get_or s i 0) summed-digit)

        pub summed-on : Summed s b e (i + 1) (n * 10 + d)
        summed-on =
            let m : decimal n (drop i s) ≡ decimal (n * 10 + d) (drop (i + 1) s) = ap (decimal n) here ∙ (decimal-more (get_or s i 0) (drop (i + 1) s) n summed-digit ∙ rw v) in
            let r : digits (drop i s) ≡ suc (digits (drop (i + 1) s)) = ap digits here ∙ run_more (in_class Digit) (get_or s i 0) (drop (i + 1) s) summed-digit in
            record { rest = omega (arith, w.rest); sum = sym m ∙ w.sum }

module _ (s : List ℕ) (at e b : ℕ) (d : e ≡ at + digits (drop at s)) (p : b ≡ at + leading (drop at s)) where
  behind : drop b s ≡ drop (leading (drop at s)) (drop at s)
  behind = rw (p, drop-drop)

  pub counted-order : b ≤ e
  counted-order = omega (arith, leading_le (drop at s))

  pub counted-run : e ≡ b + digits (drop b s)
  counted-run = omega (arith, ap digits behind, counted-digits (drop at s), leading_le (drop at s))

  pub digits-large : 6 < e - b → ◌≡◌ {A = Digits} (record { start = b; end = e; number = Large }) (digits_at s at)
  unfolding digits_at
  digits-large h = rw (p, d) (ap (λ (v : VersionNumber). record { start = at + leading (drop at s); end = at + digits (drop at s); number = v }) (sym (large_is _ (counted-large (drop at s) (omega arith)))))

  pub digits-exact : e - b ≤ 6 → (n : ℕ) → n ≡ decimal 0 (drop b s) → ◌≡◌ {A = Digits} (record { start = b; end = e; number = Exact n }) (digits_at s at)
  unfolding digits_at
  digits-exact h n v =
      let k : n ≡ decimal 0 (drop at s) = v ∙ (ap (decimal 0) behind ∙ decimal-counted (drop at s)) in
      rw (p, d, k) (ap (λ (v : VersionNumber). record { start = at + leading (drop at s); end = at + digits (drop at s); number = v }) (sym (exact-is _ (counted-small (drop at s) (omega arith)))))
