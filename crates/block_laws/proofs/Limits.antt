-- Blocks of as many fields as there may be, and of one more, computed.
use Prim.Native.Nat.{ℕ, zero, suc}
use mathlib.Core.Path.{◌≡◌, refl}
use mathlib.Core.List.{List, [], ◌∷◌, ◌++◌, map}
use lib.ListN.{length}
use Rattle.base_readers.specs.Texts.{bytes}
use Rattle.block_rules.specs.Fields.{fields}
use Rattle.block_rules.proofs.Examples.{opened}

-- so many fields of four bytes
abbrev pub short : ℕ → List ℕ
short zero = []
short (suc n) = bytes "A:\r\n" ++ short n

-- 4: the 513th field. The number, the place and how many fields there are before
most :
    map (λ (n : ℕ). (fields (short n)).number ∷ (fields (short n)).place ∷ length (fields (short n)).items ∷ []) (512 ∷ 513 ∷ [])
    ≡ (0 ∷ 0 ∷ 512 ∷ []) ∷ (4 ∷ 2048 ∷ 512 ∷ []) ∷ []
unfolding opened
most = refl
