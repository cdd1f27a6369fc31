-- 02, ticket [3], "Version numbers as numbers": what a digit run tells.
use Rattle.std.specs.Prelude.{ℕ, Bool, true, false, List, eqb, leb}
use Rattle.lexis_rules.specs.declared.VersionNumber.{VersionNumber}
use Rattle.lexis_rules.specs.declared.VersionNumber.TheVariants.{Exact, Large}
use Rattle.lexis_rules.specs.Pieces.{decimal}

-- the largest number that is told
abbrev pub largest : ℕ
largest = 999999

-- It is to answer the number up to 999,999 and "large" above that
unfoldable pub or_large : ℕ → VersionNumber
or_large n = elim (leb n largest) [ true ↦ Exact n | false ↦ Large ]

-- the number of the digit run at the front, leading zeros not counted: they add nothing to it
abbrev pub number_of : List ℕ → VersionNumber
number_of xs = or_large (decimal 0 xs)

-- the number of a version that is absent
abbrev pub one : VersionNumber
one = Exact 1

-- whether the number is 1; a large one is not
abbrev pub is_one : VersionNumber → Bool
is_one (Exact n) = eqb n 1
is_one Large = false
