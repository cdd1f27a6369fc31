-- Stripping a block of as many fields as there may be, and of one more, computed.
use Prim.Native.Nat.{ℕ}
use mathlib.Core.Path.{◌≡◌, refl}
use mathlib.Core.List.{List, [], ◌∷◌, map}
use Rattle.block_laws.proofs.Limits.{short}
use Rattle.strip_rules.specs.Strip.{strip}
use Rattle.strip_rules.proofs.Examples.{opened, refuses}

-- 4: the 513th field
most : map (λ (b : List ℕ). strip b [] 0) (short 513 ∷ short 512 ∷ []) ≡ refuses 4 2048 ∷ refuses 6 2048 ∷ []
unfolding opened
most = refl
