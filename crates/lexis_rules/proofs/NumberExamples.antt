-- 02, ticket [3]: what a digit run tells, at worked examples, computed.
use mathlib.Core.Path.{◌≡◌, refl}
use mathlib.Core.Bool.{true, false}
use mathlib.Core.List.{[], ◌∷◌}
use Rattle.base_readers.specs.Texts.{bytes}
use Rattle.base_readers.specs.Parsers.{nothing, got, after, ◌>>=◌, give, text}
use Rattle.base_readers.proofs.Cases.{case, Says}
use Rattle.lexis_rules.specs.declared.VersionNumber.TheVariants.{Exact, Large}
use Rattle.lexis_rules.specs.Words.{read_number}
use Rattle.lexis_rules.specs.Numbers.{number_of, one, is_one}
use Rattle.lexis_rules.proofs.Examples as pieces

unfoldable pub opened : Unit {0}
unfolding pieces.opened after ◌>>=◌ give text read_number
opened = tt

-- the number up to 999,999 and "large" above that, leading zeros not counted
version_numbers :
    Says number_of
    (case (bytes "0") (Exact 0)
    ∷ case (bytes "00") (Exact 0)
    ∷ case (bytes "1") (Exact 1)
    ∷ case (bytes "01") (Exact 1)
    ∷ case (bytes "0001;2") (Exact 1)
    ∷ case (bytes "10") (Exact 10)
    ∷ case (bytes "65537 ") (Exact 65537)
    ∷ case (bytes "999998") (Exact 999998)
    ∷ case (bytes "999999") (Exact 999999)
    ∷ case (bytes "0999999") (Exact 999999)
    ∷ case (bytes "00000000000000000000999999=") (Exact 999999)
    ∷ case (bytes "1000000") Large
    ∷ case (bytes "01000000") Large
    ∷ case (bytes "4294967297") Large
    ∷ case (bytes "18446744073709551617") Large
    ∷ case (bytes "x") (Exact 0)
    ∷ case [] (Exact 0)
    ∷ [])
unfolding opened
version_numbers = refl

-- a digit run is never empty
numbers_read :
    Says read_number
    (case (bytes "0012;") (got (Exact 12) 4)
    ∷ case (bytes "000") (got (Exact 0) 3)
    ∷ case (bytes "1000000=") (got Large 7)
    ∷ case (bytes "x1") nothing
    ∷ case [] nothing
    ∷ [])
unfolding opened
numbers_read = refl

-- 01, Identifier and header version: a number other than 1
ones :
    Says (λ xs. is_one (number_of xs))
    (case (bytes "1") true
    ∷ case (bytes "01") true
    ∷ case (bytes "0001;") true
    ∷ case (bytes "0") false
    ∷ case (bytes "000") false
    ∷ case (bytes "2") false
    ∷ case (bytes "10") false
    ∷ case (bytes "11") false
    ∷ case (bytes "999999") false
    ∷ case (bytes "1000000") false
    ∷ case (bytes "1000001") false
    ∷ case (bytes "18446744073709551617") false
    ∷ case (bytes "x") false
    ∷ [])
unfolding opened
ones = refl

-- 01, Identifier and header version: absent means 1; so it does for a method
absent : one ≡ number_of (bytes "1")
unfolding opened
absent = refl
