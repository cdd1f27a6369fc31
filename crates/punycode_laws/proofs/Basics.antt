-- The basic code points, where they end, and what a label behind its prefix gives.
use Prim.Native.Nat.{ℕ, zero, suc, ◌+◌, ◌-◌, ◌≤◌, ◌<◌}
use native.Mathlib.Numerals.{add-one}
use native.Mathlib.Omega.{arith}
use mathlib.Core.Path.{◌≡◌, refl}
use mathlib.Core.Bool.{Bool, true, false}
use mathlib.Core.List.{List, [], ◌∷◌}
use mathlib.Core.Option.{none}
use lib.Dec.{eqb, ltb}
use lib.ListN.{length, take, drop}
use borrow.Author.Tests.{ltb-true}
use Rattle.base_sequences.proofs.Booleans.{and_left, and_right}
use Rattle.punycode_rules.specs.Punycode.{start, numbers, before_last, basic, consumed, punycode}
use Rattle.punycode_rules.specs.Unicode.{scalar, scalars}
use Rattle.punycode_rules.specs.Labels.{kept, decoded}
use Rattle.punycode_laws.proofs.Digits.{scalar-low}
use Rattle.punycode_laws.proofs.Decoding.{kept-none}

-- ==== the last hyphen

before-from : (xs : List ℕ) (found at : ℕ) → found ≤ at + length xs - 1 → before_last found at xs ≤ at + length xs - 1
unfolding before_last
before-from [] found at h = h
before-from (x ∷ xs) found at h = go (eqb x 45) refl (before-from xs at (suc at) (omega arith)) (before-from xs found (suc at) (omega arith))
  where
    go : (t : Bool) → eqb x 45 ≡ t → before_last at (suc at) xs ≤ suc at + length xs - 1 → before_last found (suc at) xs ≤ suc at + length xs - 1
        → before_last found at (x ∷ xs) ≤ at + length (x ∷ xs) - 1
    go true e a b = rw (before_last, e) (omega arith)
    go false e a b = rw (before_last, e) (omega arith)

-- the hyphen, where there is one, is inside
pub before-inside : (xs : List ℕ) → before_last 0 0 xs ≤ length xs - 1
before-inside xs = omega (arith, before-from xs 0 0 (omega arith))

-- ==== the basic code points

pub basic-scalars : (xs : List ℕ) → basic xs ≡ true → scalars xs ≡ true
unfolding basic scalars
basic-scalars [] h = refl
basic-scalars (x ∷ xs) h =
    let l : x < 128 = ltb-true x 128 (and_left (ltb x 128) (basic xs) h) in
    let e : true ≡ scalar x = scalar-low x (omega arith) in
    rw (← e, basic-scalars xs (and_right (ltb x 128) (basic xs) h))

-- ==== the whole

module _ (s : List ℕ) (b : ℕ) (q : b ≡ before_last 0 0 s) where
  pub decoded-yes : basic (take b s) ≡ true → decoded s ≡ kept (numbers (start (take b s)) (drop (consumed b) s))
  unfolding decoded punycode
  decoded-yes h = let g : basic (take (before_last 0 0 s) s) ≡ true = (rw q at h) in rw (q, decoded, punycode, g)

  pub decoded-no : basic (take b s) ≡ false → decoded s ≡ none
  unfolding decoded punycode
  decoded-no h = let g : basic (take (before_last 0 0 s) s) ≡ false = (rw q at h) in rw (decoded, punycode, g) kept-none

pub consumed-none : (b : ℕ) → b ≡ 0 → 0 ≡ consumed b
consumed-none b e = rw e

pub consumed-some : (b : ℕ) → (b ≡ 0 → ⊥) → b + 1 ≡ consumed b
consumed-some zero h = absurd (h refl)
consumed-some (suc b) h = add-one (suc b)
