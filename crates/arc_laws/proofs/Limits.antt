-- The chain of a block of as many fields as there may be, and of one more, computed.
use mathlib.Core.Path.{◌≡◌, refl}
use mathlib.Core.List.{[], ◌∷◌, ◌++◌}
use Rattle.base_readers.specs.Texts.{bytes}
use Rattle.block_laws.proofs.Limits.{short}
use Rattle.arc_rules.proofs.Unfolding.{opened}
use Rattle.arc_rules.proofs.Samples.{judges, zeros, fails}

-- 4: the 513th field. The 512th is read and has its number
most : judges (short 513) ∷ judges (short 511 ++ bytes "ARC-Seal:\r\n") ∷ [] ≡ zeros 4 2048 ∷ fails 1 512 ∷ []
unfolding opened
most = refl
