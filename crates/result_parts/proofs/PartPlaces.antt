-- Where the label of a property that the code finds stands: in order, inside the slice, and behind the place that was asked for, so that a
-- caller may cut its names out and gets on. From what each reader takes being there.
use Prim.Native.Nat.{ℕ, ◌≤◌, ◌<◌}
use mathlib.Core.Path.{◌≡◌, sym, subst}
use mathlib.Core.List.{List}
use lib.ListN.{length}
use Rattle.lexis_rules.specs.Pieces.{space, keyword}
use Rattle.std.specs.Prelude.{Option, Some, None}
use Rattle.result_parts.specs.declared.Label.{Label}
use Rattle.result_separators.specs.Separators.{separated}
use Rattle.result_parts.specs.Parts.{label_read, names_at, label_from, label_at}
use Rattle.result_separators.proofs.Separators.{all-behind, separated-fits, ends-inside}

-- a ptype from a up to e, a property from b up to f, and the value's place, found behind a place
pub record LabelPlaces (s : List ℕ) (at a e b f v : ℕ) : Type 0 where
  pub after : at < a
  pub ptype : a < e
  pub dot : e < b
  pub property : b < f
  pub equals : f < v
  pub inside : v ≤ length s

abbrev LabelStands : List ℕ → ℕ → Option Label → Type 0
LabelStands s at (Some l) = LabelPlaces s at l.type_start l.type_end l.name_start l.name_end l.value
LabelStands s at None = Unit

module _ (s : List ℕ) (at : ℕ) where
  label-stands : LabelStands s at (label_at s at)
  unfolding label_from names_at
  label-stands =
      all-behind (LabelStands s at) space s at None _ tt
      (λ a p i. all-behind (LabelStands s at) keyword s a None _ tt
      (λ e q j. all-behind (LabelStands s at) (separated 46) s e None _ tt
      (λ b r k. all-behind (LabelStands s at) keyword s b None _ tt
      (λ f t l. all-behind (LabelStands s at) (separated 61) s f None _ tt
      (λ v u m. record { after = i; ptype = j; dot = k; property = l; equals = m; inside = ends-inside (separated 61) (separated-fits 61) s f v u m })))))

  pub label-places : (a e b f v : ℕ) → label_read a e b f v ≡ label_at s at → LabelPlaces s at a e b f v
  label-places a e b f v h = subst (λ (m : Option Label). LabelStands s at m) (sym h) label-stands
