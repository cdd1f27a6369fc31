-- The laws of space at a place of a slice, with premises as a need is handed them.
use Prim.Native.Nat.{ℕ, ◌+◌}
use native.Mathlib.Omega.{arith}
use mathlib.Core.Path.{◌≡◌, refl, sym, ◌∙◌}
use mathlib.Core.Bool.{Bool, false}
use mathlib.Core.List.{List}
use lib.ListN.{get_or, drop}
use Rattle.base_readers.specs.Texts.{one_of}
use Rattle.base_readers.specs.Readers.{choose}
use Rattle.base_readers.proofs.Readers.{many-none}
use Rattle.lexis_rules.specs.declared.Class.TheVariants.{Blank, Opening}
use Rattle.lexis_rules.specs.Bytes.{in_class}
use Rattle.lexis_rules.specs.Pieces.{item, comment, space}
use Rattle.lexis_laws.proofs.Locality.{part-shut}

pub space-shut : (s : List ℕ) (at : ℕ) (r : Bool) → r ≡ in_class Opening (get_or (drop at s) 0 0) → r ≡ false → at ≡ at + space (drop at s)
space-shut s at r h t = omega (arith, many-none (choose 40 (comment 16) (item Blank)) (drop at s) (part-shut (drop at s) (sym h ∙ t)))

-- the class of space has no "("
pub blank-no-open : in_class Blank 40 ≡ false
unfolding in_class one_of
blank-no-open = refl
