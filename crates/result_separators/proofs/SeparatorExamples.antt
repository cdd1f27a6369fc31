-- Separators at worked examples, computed.
use Prim.Native.Char.{code}
use mathlib.Core.Path.{refl}
use mathlib.Core.List.{[], ◌∷◌}
use Rattle.base_readers.specs.Texts.{bytes}
use Rattle.base_readers.proofs.Cases.{case, Says}
use Rattle.result_separators.specs.Separators.{separated, separated_from}
use Rattle.result_rules.proofs.Unfolding as definitions

unfoldable opened : Unit {0}
unfolding definitions.opened separated separated_from
opened = tt

separators :
    Says (separated (code "="))
    (case (bytes "=") 1
    ∷ case (bytes " (c) =\t\r\n x") 10
    ∷ case (bytes " (=) .") 0
    ∷ case (bytes " ") 0
    ∷ case (bytes "(c") 0
    ∷ case [] 0
    ∷ [])
unfolding opened
separators = refl

-- behind a part that ends at 0, asked at 1
separators_asked :
    Says (λ s. separated_from (code "=") s 0 1)
    (case (bytes " = x") 3
    ∷ case (bytes "a= x") 3
    ∷ case (bytes "  = x") 0
    ∷ case (bytes "=") 0
    ∷ case [] 0
    ∷ [])
unfolding opened
separators_asked = refl
