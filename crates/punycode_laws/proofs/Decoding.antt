-- The numbers of the input, one digit after the other: the cases of the definition; a code point that is no scalar stays; where i is too
-- large the next code point is none; and how many code points there are.
use Prim.Native.Nat.{ℕ, suc, ◌+◌, ◌*◌, ◌%◌, ◌≤◌, ◌<◌}
use native.Mathlib.Omega.{arith}
use mathlib.Core.Path.{◌≡◌, refl, sym, ap, ◌∙◌}
use mathlib.Core.Bool.{Bool, true, false, ◌&&◌}
use mathlib.Core.List.{List, [], ◌∷◌, ◌++◌}
use mathlib.Core.Option.{Option, none, some}
use lib.Dec.{ltb, eqb}
use lib.ListN.{length, take, drop, take-append-drop, length-append}
use borrow.Author.Tests.{ltb-true, ltb-false, lt-ltb, le-ltb, eq-eqb, ne_eqb, eqb-true}
use Rattle.base_sequences.proofs.Booleans.{and_none}
use Rattle.punycode_rules.specs.Punycode.{State, insert, last, more, digit_of, threshold, numbers}
use Rattle.punycode_rules.specs.Unicode.{scalar, scalars}
use Rattle.punycode_rules.specs.Labels.{kept}
use Rattle.punycode_laws.proofs.Digits.{scalar-above}

-- ==== the cases of the definition

module _ (s : State) where
  pub numbers-end : s.k ≡ 36 → numbers s [] ≡ some s.output
  unfolding numbers
  numbers-end h = rw (numbers, eq-eqb s.k 36 h)

  pub numbers-cut : (s.k ≡ 36 → ⊥) → numbers s [] ≡ none
  unfolding numbers
  numbers-cut h = rw (numbers, ne_eqb s.k 36 h)

  module _ (x : ℕ) (xs : List ℕ) where
    pub numbers-none : 36 ≤ digit_of x → numbers s (x ∷ xs) ≡ none
    unfolding numbers
    numbers-none h = rw (numbers, le-ltb (digit_of x) 36 h)

    pub numbers-last : digit_of x < 36 → digit_of x < threshold s.k s.bias → numbers s (x ∷ xs) ≡ numbers (last s (digit_of x)) xs
    unfolding numbers
    numbers-last h t = rw (numbers, lt-ltb (digit_of x) 36 h, lt-ltb (digit_of x) (threshold s.k s.bias) t)

    pub numbers_more : digit_of x < 36 → threshold s.k s.bias ≤ digit_of x → numbers s (x ∷ xs) ≡ numbers (more s (digit_of x)) xs
    unfolding numbers
    numbers_more h t = rw (numbers, lt-ltb (digit_of x) 36 h, le-ltb (digit_of x) (threshold s.k s.bias) t)

    -- what holds in each case holds
    pub by_cases : (P : Option (List ℕ) → Type 0) → P none → P (numbers (last s (digit_of x)) xs)
        → (digit_of x < 36 → threshold s.k s.bias ≤ digit_of x → P (numbers (more s (digit_of x)) xs)) → P (numbers s (x ∷ xs))
    by_cases P a b c = first (ltb (digit_of x) 36) refl
      where
        second : digit_of x < 36 → (t : Bool) → ltb (digit_of x) (threshold s.k s.bias) ≡ t → P (numbers s (x ∷ xs))
        second h true e = rw (numbers-last h (ltb-true _ _ e)) b
        second h false e = rw (numbers_more h (ltb-false _ _ e)) (c h (ltb-false _ _ e))

        first : (t : Bool) → ltb (digit_of x) 36 ≡ t → P (numbers s (x ∷ xs))
        first true e = second (ltb-true _ _ e) (ltb (digit_of x) (threshold s.k s.bias)) refl
        first false e = rw (numbers-none (ltb-false _ _ e)) a

-- ==== scalars

pub scalars-append : (xs ys : List ℕ) → scalars (xs ++ ys) ≡ (scalars xs && scalars ys)
unfolding scalars
scalars-append [] ys = refl
scalars-append (x ∷ xs) ys = go (scalar x) (scalars-append xs ys)
  where
    go : (t : Bool) → scalars (xs ++ ys) ≡ (scalars xs && scalars ys) → (t && scalars (xs ++ ys)) ≡ ((t && scalars xs) && scalars ys)
    go true e = e
    go false e = refl

scalars-insert : (at x : ℕ) (xs : List ℕ) → scalars (insert at x xs) ≡ (scalar x && scalars xs)
unfolding scalars
scalars-insert at x xs =
    let e : scalars xs ≡ (scalars (take at xs) && scalars (drop at xs)) = ap scalars (sym (take-append-drop at xs)) ∙ scalars-append (take at xs) (drop at xs) in
    scalars-append (take at xs) (x ∷ drop at xs) ∙ rw e (swap (scalars (take at xs)) (scalar x) (scalars (drop at xs)))
  where
    swap : (a b c : Bool) → (a && (b && c)) ≡ (b && (a && c))
    swap true true c = refl
    swap true false c = refl
    swap false true c = refl
    swap false false c = refl

pub scalars-good : (at x : ℕ) (xs : List ℕ) → scalar x ≡ true → scalars xs ≡ true → scalars (insert at x xs) ≡ true
scalars-good at x xs a b = scalars-insert at x xs ∙ rw (a, b)

scalars-bad : (at x : ℕ) (xs : List ℕ) → scalars xs ≡ false → scalars (insert at x xs) ≡ false
scalars-bad at x xs b = scalars-insert at x xs ∙ rw b (and_none (scalar x))

scalars-other : (at x : ℕ) (xs : List ℕ) → scalar x ≡ false → scalars (insert at x xs) ≡ false
scalars-other at x xs b = scalars-insert at x xs ∙ rw b

pub kept-bad : (u : List ℕ) → scalars u ≡ false → kept (some u) ≡ none
unfolding kept
kept-bad u h = rw (kept, h)

pub kept-good : (u : List ℕ) → scalars u ≡ true → kept (some u) ≡ some u
unfolding kept
kept-good u h = rw (kept, h)

pub kept-none : kept none ≡ none
unfolding kept
kept-none = refl

-- a code point that is no scalar stays
bad-stays : (xs : List ℕ) (s : State) → scalars s.output ≡ false → kept (numbers s xs) ≡ none
bad-stays [] s h = go (eqb s.k 36) refl
  where
    go : (t : Bool) → eqb s.k 36 ≡ t → kept (numbers s []) ≡ none
    go true e = ap kept (numbers-end s (eqb-true _ _ e)) ∙ kept-bad s.output h
    go false e = ap kept (numbers-cut s (borrow.Author.Tests.eqb-false _ _ e)) ∙ kept-none
bad-stays (x ∷ xs) s h =
    by_cases s x xs (λ o. kept o ≡ none) kept-none
    (bad-stays xs (last s (digit_of x)) (scalars-bad ((s.i + digit_of x * s.w) % (length s.output + 1)) (last s (digit_of x)).n s.output h))
    (λ a b. bad-stays xs (more s (digit_of x)) h)

-- a digit that ends its number, where the code point is no scalar
pub last-bad : (xs : List ℕ) (s : State) (d : ℕ) → scalar (last s d).n ≡ false → kept (numbers (last s d) xs) ≡ none
last-bad xs s d h = bad-stays xs (last s d) (scalars-other ((s.i + d * s.w) % (length s.output + 1)) (last s d).n s.output h)

-- inside of a number, where i is so large that the code point will be above 10FFFF
large-fails : (xs : List ℕ) (s : State) → 36 < s.k → 1114112 * (length s.output + 1) ≤ s.i → kept (numbers s xs) ≡ none
large-fails [] s h l = ap kept (numbers-cut s (λ e. omega arith)) ∙ kept-none
large-fails (x ∷ xs) s h l =
    by_cases s x xs (λ o. kept o ≡ none) kept-none
    (last-bad xs s (digit_of x) (scalar-above _ (omega (arith, (native.Mathlib.Nat.le-div_iff_mul-le {k = length s.output + 1} {x = 1114112} {y = s.i + digit_of x * s.w} (omega arith)).1 (omega arith)))))
    (λ a b. large-fails xs (more s (digit_of x)) (omega arith) (omega arith))

-- the same from the digit on that makes it so large
pub digit-fails : (x : ℕ) (xs : List ℕ) (s : State) → 36 ≤ s.k → 1114112 * (length s.output + 1) ≤ s.i + digit_of x * s.w → kept (numbers s (x ∷ xs)) ≡ none
digit-fails x xs s h l =
    by_cases s x xs (λ o. kept o ≡ none) kept-none
    (last-bad xs s (digit_of x) (scalar-above _ (omega (arith, (native.Mathlib.Nat.le-div_iff_mul-le {k = length s.output + 1} {x = 1114112} {y = s.i + digit_of x * s.w} (omega arith)).1 (omega arith)))))
    (λ a b. large-fails xs (more s (digit_of x)) (omega arith) (omega arith))

-- ==== how many code points

pub length-insert : (at x : ℕ) (xs : List ℕ) → length (insert at x xs) ≡ suc (length xs)
length-insert at x xs = omega (arith, length-append (take at xs) (x ∷ drop at xs), length-append (take at xs) (drop at xs), ap length (take-append-drop at xs))

-- no fewer than there are, and a code point more takes a byte at least
pub record Counted (s : State) (xs : List ℕ) (o : Option (List ℕ)) : Type 0 where
  pub least : (u : List ℕ) → o ≡ some u → length s.output ≤ length u
  pub most : (u : List ℕ) → o ≡ some u → length u ≤ length s.output + length xs

counted_none : (s : State) (xs : List ℕ) → Counted s xs none
counted_none s xs =
    record {
      least = λ u e. absurd (let z : ◌≡◌ {A = ℕ} 0 1 = cc in omega arith);
      most = λ u e. absurd (let z : ◌≡◌ {A = ℕ} 0 1 = cc in omega arith);
    }

pub counted : (xs : List ℕ) (s : State) → Counted s xs (numbers s xs)
counted [] s = go (eqb s.k 36) refl
  where
    go : (t : Bool) → eqb s.k 36 ≡ t → Counted s [] (numbers s [])
    go true e =
        rw (numbers-end s (eqb-true _ _ e))
        (record {
          least = λ u e. (let z : s.output ≡ u = cc in omega (arith, ap length z));
          most = λ u e. (let z : s.output ≡ u = cc in omega (arith, ap length z));
        })
    go false e = rw (numbers-cut s (borrow.Author.Tests.eqb-false _ _ e)) (counted_none s [])
counted (x ∷ xs) s =
    let l = counted xs (last s (digit_of x)) in
    let m = counted xs (more s (digit_of x)) in
    let n = length-insert ((s.i + digit_of x * s.w) % (length s.output + 1)) (last s (digit_of x)).n s.output in
    by_cases s x xs (Counted s (x ∷ xs)) (counted_none s (x ∷ xs))
    (record { least = λ u e. omega (arith, l.least u e, n); most = λ u e. omega (arith, l.most u e, n) })
    (λ a b. record { least = λ u e. omega (arith, m.least u e); most = λ u e. omega (arith, m.most u e) })

pub kept-some : (o : Option (List ℕ)) (u : List ℕ) → kept o ≡ some u → o ≡ some u
unfolding kept
kept-some none u e = e
kept-some (some v) u e = go (scalars v) refl e
  where
    go : (t : Bool) → scalars v ≡ t → kept (some v) ≡ some u → some v ≡ some u
    go true h e = sym (kept-good v h) ∙ e
    go false h e = absurd (let n : none ≡ some u = sym (kept-bad v h) ∙ e in let z : ◌≡◌ {A = ℕ} 0 1 = cc in omega arith)
