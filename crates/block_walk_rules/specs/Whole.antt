-- What a host meets that walks a whole block, as the theorems say it.
use Rattle.std.specs.Prelude.{ℕ, zero, suc, ◌+◌, ◌≤◌, ◌<◌, ◌≡◌, List, [], ◌∷◌, ◌++◌, length}
use Rattle.block_rules.specs.Fields.{Field, bytes_of}
use Rattle.block_walk_rules.specs.declared.Step.{Step}
use Rattle.block_walk_rules.specs.declared.Step.TheVariants as step
use Rattle.block_walk_rules.specs.Steps.{placed, step_from}

-- the steps from a place, each from the end of the field that the one before it gave, up to the last answer; n of them at most
unfoldable pub steps_from : ℕ → List ℕ → ℕ → List Step
steps_from zero block place = []
steps_from (suc n) block place =
    elim (step_from block place) [
      | step.Field start named bodied end ↦ step.Field start named bodied end ∷ steps_from n block end
      | step.Last number at ↦ step.Last number at ∷ []
    ]

-- fields that stand one after the other from `at` on, in order, and then the last answer
unfoldable pub in_order : ℕ → List Field → Step → List Step
in_order at [] last = last ∷ []
in_order at (f ∷ fs) last = placed at f ∷ in_order (at + length f.bytes) fs last

-- such fields all start before a place
abbrev pub AllBefore : ℕ → ℕ → List Field → Type 0
AllBefore place at [] = Unit {0}
AllBefore place at (f ∷ fs) = (at < place) × AllBefore place (at + length f.bytes) fs

-- an answer is the first of such fields that starts at a place or later, or else the last answer
pub data First (place at : ℕ) (fs : List Field) (last : Step) : Step → Type 0 where
  found : (before after : List Field) (f : Field) → fs ≡ before ++ (f ∷ after) → place ≤ at + length (bytes_of before) → AllBefore place at before
      → First place at fs last (placed (at + length (bytes_of before)) f)
  none : AllBefore place at fs → First place at fs last last
