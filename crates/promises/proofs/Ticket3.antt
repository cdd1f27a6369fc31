-- 02, ticket [3], "Version numbers as numbers": what is promised of the number of a digit run, and that nothing else changed.
use Prim.Native.Char.{code}
use Prim.Native.Nat.{ℕ, ◌≤◌, ◌<◌}
use native.Mathlib.Omega.{arith}
use mathlib.Core.Path.{◌≡◌, refl, ap}
use mathlib.Core.List.{List, ◌∷◌}
use lib.Dec.{lit≤, lit<}
use lib.ListN.{length, get_or, take}
use Rattle.base_readers.specs.Texts.{bytes, same}
use Rattle.lexis_rules.specs.declared.VersionNumber.TheVariants.{Exact, Large}
use Rattle.lexis_rules.specs.Pieces.{decimal}
use Rattle.lexis_rules.specs.Words.{counted}
use Rattle.lexis_rules.specs.Numbers.{largest, number_of as version_number, is_one}
use Rattle.lexis_laws.proofs.VersionNumbers as numbers
use Rattle.report_rules.specs.Newer.{Names, WithinLimit}
use Rattle.report_rules.proofs.Unfolding as body-opened
use Rattle.report_laws.proofs.Demand3 as demand3
use Rattle.promises.specs.Calls.{reports}

-- ==== It is to answer the number up to 999,999 and "large" above that

pub number-exact : (xs : List ℕ) → decimal 0 xs ≤ largest → version_number xs ≡ Exact (decimal 0 xs)
number-exact xs = numbers.exact-is (decimal 0 xs)

pub number-large : (xs : List ℕ) → largest < decimal 0 xs → version_number xs ≡ Large
number-large xs = numbers.large_is (decimal 0 xs)

numbers-example : (version_number (bytes "0999999") ≡ Exact 999999) × (version_number (bytes "1000000") ≡ Large)
unfolding body-opened.opened
numbers-example = (number-exact (bytes "0999999") (lit≤ tt), number-large (bytes "1000000") (lit< tt))

-- ==== leading zeros not counted

pub number-zero : (xs : List ℕ) → version_number (code "0" ∷ xs) ≡ version_number xs
number-zero = numbers.number-zero

-- the number is that of the digits that count, which the `v` line shows
pub number-counted : (xs : List ℕ) → version_number (counted xs) ≡ version_number xs
number-counted = numbers.number-counted

-- ==== Answers and reports in 01 stay the same

-- a version was 1 where the digits that count are the one byte "1"; it is 1 by its number exactly there, for every digit run, and a large
-- number is not 1
pub one_same : (xs : List ℕ) → is_one (version_number xs) ≡ same (counted xs) (bytes "1")
one_same = numbers.one_same

-- so demand 3 holds in its old words: header versions whose digits are not the one byte "1" (of method versions only the number is told)
pub newer-header-digits : (b c v : List ℕ) (n m : ℕ) → Names b v n → Names c v m → (v ≡ bytes "1" → ⊥) → take n b ≡ take m c → WithinLimit b → WithinLimit c
    → (old : List ℕ) → reports b old ≡ reports c old
newer-header-digits b c v n m B C ne s l k old = rw (demand3.newer-header-digits b c v n m B C ne s l k (length old))

-- a number that is large
header-example : (old : List ℕ) → reports (bytes "a 01000000;;") old ≡ reports (bytes "a 01000000 x") old
unfolding body-opened.opened
header-example =
    newer-header-digits (bytes "a 01000000;;") (bytes "a 01000000 x") (bytes "1000000") 10 10 (record { identifier = bytes "a"; reads = refl })
    (record { identifier = bytes "a"; reads = refl }) other refl (lit≤ tt) (lit≤ tt)
  where
    other : bytes "1000000" ≡ bytes "1" → ⊥
    other e = let z : ◌≡◌ {A = ℕ} 48 0 = ap (λ (l : List ℕ). get_or l 1 0) e in omega arith
