-- A step of `next_field` is a step of the definition's walk over the fields, so that any loop over it meets the fields of the definition.
use Prim.Native.Nat.{ℕ}
use mathlib.Core.Path.{◌≡◌}
use mathlib.Core.List.{List}
use lib.ListN.{drop}
use Rattle.base_readers.specs.Walks.{ended}
use Rattle.block.specs.declared.Next.TheVariants as next
use Rattle.block.specs.Steps.{next_from}
use Rattle.block.proofs.Steps as steps
use Rattle.block.proofs.Steps.{rest_walk, Cut}

-- a field by its places is the first of what is left of the walk, and behind it stands the rest (`Cut`)
pub step_field : (s : List ℕ) (at count a n b e : ℕ) → next.Field a n b e ≡ next_from at count (drop at s) → Cut s at count a n b e
step_field = steps.step_field

-- the end is the end of the walk, with answer 0
pub step_end : (s : List ℕ) (at count : ℕ) → next.End ≡ next_from at count (drop at s) → rest_walk s at count ≡ ended 0 0
step_end = steps.step_end

-- a refusal is the walk's answer
pub step-refused : (s : List ℕ) (at count n p : ℕ) → next.Refused n p ≡ next_from at count (drop at s) → rest_walk s at count ≡ ended n p
step-refused = steps.step-refused
