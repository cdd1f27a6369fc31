-- The report of a block of as many fields as there may be, and of one more, computed.
use Prim.Native.Nat.{ℕ}
use mathlib.Core.Path.{◌≡◌, refl}
use mathlib.Core.List.{List, [], ◌∷◌, ◌++◌, map}
use Rattle.base_readers.specs.Texts.{bytes}
use Rattle.block_laws.proofs.Limits.{short}
use Rattle.blockreport_rules.specs.declared.Detail.TheVariants.{Reported}
use Rattle.blockreport_rules.specs.BlockReport.{block_report}
use Rattle.blockreport_rules.proofs.Unfolding.{opened}
use Rattle.blockreport_rules.proofs.Examples.{says, refuses}

-- 4: the 513th field. The 512th is still told, with its number
most :
    map (λ (b : List ℕ). block_report Reported b [] 100) (short 513 ∷ short 512 ∷ (short 511 ++ bytes "Authentication-Results:\r\n") ∷ [])
    ≡ refuses 4 2048 ∷ says [] ∷ says (bytes "field\t512\tunreadable\t7\t0\n") ∷ []
unfolding opened
most = refl
