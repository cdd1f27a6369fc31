-- UTF-8: how long it is.
use Prim.Native.Nat.{ℕ, ◌+◌, ◌*◌, ◌≤◌, ◌<◌}
use native.Mathlib.Omega.{arith}
use mathlib.Core.Path.{◌≡◌, refl}
use mathlib.Core.Bool.{Bool, true, false}
use mathlib.Core.List.{List, [], ◌∷◌, ◌++◌}
use lib.Dec.{ltb}
use lib.ListN.{length, length-append}
use borrow.Author.Tests.{le-ltb, ltb-false}
use Rattle.base_sequences.proofs.Booleans.{and_left, and_right}
use Rattle.punycode_rules.specs.Unicode.{scalar, scalars, utf8, utf8s}
use Rattle.punycode_laws.proofs.Digits.{scalar_below}

-- one to four bytes
pub utf8-bounds : (x : ℕ) → (1 ≤ length (utf8 x)) × (length (utf8 x) ≤ 4)
unfolding utf8
utf8-bounds x = first (ltb x 128) refl
  where
    third : 128 ≤ x → 2048 ≤ x → (t : Bool) → ltb x 65536 ≡ t → (1 ≤ length (utf8 x)) × (length (utf8 x) ≤ 4)
    third a b true e = rw (utf8, le-ltb x 128 a, le-ltb x 2048 b, e) (omega arith, omega arith)
    third a b false e = rw (utf8, le-ltb x 128 a, le-ltb x 2048 b, e) (omega arith, omega arith)

    second : 128 ≤ x → (t : Bool) → ltb x 2048 ≡ t → (1 ≤ length (utf8 x)) × (length (utf8 x) ≤ 4)
    second a true e = rw (utf8, le-ltb x 128 a, e) (omega arith, omega arith)
    second a false e = third a (ltb-false _ _ e) (ltb x 65536) refl

    first : (t : Bool) → ltb x 128 ≡ t → (1 ≤ length (utf8 x)) × (length (utf8 x) ≤ 4)
    first true e = rw (utf8, e) (omega arith, omega arith)
    first false e = second (ltb-false _ _ e) (ltb x 2048) refl

pub utf8s-bounds : (u : List ℕ) → (length u ≤ length (utf8s u)) × (length (utf8s u) ≤ 4 * length u)
unfolding utf8s
utf8s-bounds [] = (omega arith, omega arith)
utf8s-bounds (x ∷ u) =
    let b = utf8-bounds x in
    let c = utf8s-bounds u in
    let e : length (utf8 x ++ utf8s u) ≡ length (utf8 x) + length (utf8s u) = length-append (utf8 x) (utf8s u) in
    rw e (omega arith, omega arith)

pub scalars-first : (x : ℕ) (xs : List ℕ) → scalars (x ∷ xs) ≡ true → (x < 1114112) × (scalars xs ≡ true)
unfolding scalars
scalars-first x xs h = (scalar_below x (and_left (scalar x) (scalars xs) h), and_right (scalar x) (scalars xs) h)
