-- Ranges, thresholds and scalars, by the tests that the code makes in turn.
use Prim.Native.Nat.{ℕ, ◌+◌, ◌-◌, ◌≤◌, ◌<◌}
use native.Mathlib.Omega.{arith}
use mathlib.Core.Path.{◌≡◌, refl, sym, ◌∙◌}
use mathlib.Core.Bool.{Bool, true, false}
use lib.Dec.{leb}
use borrow.Author.Tests.{leb-true, leb-false, le-leb, lt-leb, lt-ltb, le-ltb}
use Rattle.base_sequences.proofs.Booleans.{and_left, and_right}
use Rattle.base_readers.specs.Texts.{within}
use Rattle.punycode_rules.specs.Punycode.{threshold}
use Rattle.punycode_rules.specs.Unicode.{scalar}

pub within-inv : (a b x : ℕ) → within a b x ≡ true → (a ≤ x) × (x ≤ b)
unfolding within
within-inv a b x h = (leb-true a x (and_left (leb a x) (leb x b) h), leb-true x b (and_right (leb a x) (leb x b) h))

-- ==== thresholds

pub threshold-low : (k bias : ℕ) → k ≤ bias → 1 ≡ threshold k bias
unfolding threshold
threshold-low k bias h = rw (le-leb k bias h)

pub threshold-high : (k bias : ℕ) → bias < k → bias + 26 ≤ k → 26 ≡ threshold k bias
unfolding threshold
threshold-high k bias h g = rw (lt-leb k bias h, le-leb (bias + 26) k g)

pub threshold-between : (k bias : ℕ) → bias < k → k < bias + 26 → k - bias ≡ threshold k bias
unfolding threshold
threshold-between k bias h g = rw (lt-leb k bias h, lt-leb (bias + 26) k g)

pub threshold-bounds : (k bias : ℕ) → (1 ≤ threshold k bias) × (threshold k bias ≤ 26)
threshold-bounds k bias = first (leb k bias) refl
  where
    second : bias < k → (t : Bool) → leb (bias + 26) k ≡ t → (1 ≤ threshold k bias) × (threshold k bias ≤ 26)
    second h true e = (omega (arith, threshold-high k bias h (leb-true _ _ e)), omega (arith, threshold-high k bias h (leb-true _ _ e)))
    second h false e =
        let g : k < bias + 26 = leb-false _ _ e in
        (omega (arith, threshold-between k bias h g), omega (arith, threshold-between k bias h g))

    first : (t : Bool) → leb k bias ≡ t → (1 ≤ threshold k bias) × (threshold k bias ≤ 26)
    first true e = (omega (arith, threshold-low k bias (leb-true _ _ e)), omega (arith, threshold-low k bias (leb-true _ _ e)))
    first false e = second (leb-false _ _ e) (leb (bias + 26) k) refl

-- ==== scalars

pub scalar-low : (x : ℕ) → x < 55296 → true ≡ scalar x
unfolding scalar
scalar-low x h = rw (lt-ltb x 55296 h)

pub scalar-high : (x : ℕ) → 55296 ≤ x → (r : Bool) → r ≡ within 57344 1114111 x → r ≡ scalar x
unfolding scalar
scalar-high x h r e = rw (le-ltb x 55296 h) e

pub scalar-above : (x : ℕ) → 1114112 ≤ x → scalar x ≡ false
unfolding within
scalar-above x h = sym (scalar-high x (omega arith) false (rw (le-leb 57344 x (omega arith), lt-leb x 1114111 (omega arith))))

pub scalar_below : (x : ℕ) → scalar x ≡ true → x < 1114112
scalar_below x h = go (leb 1114112 x) refl
  where
    go : (t : Bool) → leb 1114112 x ≡ t → x < 1114112
    go true e = absurd (Rattle.base_sequences.proofs.Booleans.no_true (sym (scalar-above x (leb-true _ _ e)) ∙ h))
    go false e = leb-false _ _ e
