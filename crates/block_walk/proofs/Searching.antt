-- The loop of `step_from`: before each turn, what the rest of the walk gives from the place on is what the whole walk gives. One law for
-- each way through the loop.
use Prim.Native.Nat.{ℕ, ◌+◌, ◌-◌, ◌≤◌, ◌<◌, zero-le}
use native.Mathlib.Omega.{arith}
use mathlib.Core.Path.{◌≡◌, sym, ◌∙◌}
use mathlib.Core.Bool.{Bool, true, false}
use mathlib.Core.List.{List}
use lib.Dec.{ltb}
use lib.ListN.{length, drop}
use Rattle.base_readers.specs.Walks.{Walked}
use Rattle.lexis_rules.specs.Limits.{byte_limit}
use Rattle.block.specs.declared.Next.TheVariants as next
use Rattle.block_rules.specs.Fields.{Field}
use Rattle.block.specs.Steps.{next_from}
use Rattle.block.proofs.Steps.{rest_walk, field_from, step_field, step_end, step-refused, part_bytes}
use Rattle.block_walk_rules.specs.declared.Step.{Step}
use Rattle.block_walk_rules.specs.declared.Step.TheVariants as step
use Rattle.block_walk_rules.specs.Steps.{last_of, first_from, step_from}
use Rattle.block_walk_rules.proofs.Firsts.{given-long, given-fields, first-none, first-here, first-later}

-- what a walk whose first field starts at `at` gives from a place on
abbrev pub from_walk : ℕ → ℕ → Walked Field → Step
from_walk place at w = first_from place at w.items (last_of w)

pub search-long : (block : List ℕ) (place : ℕ) (big : Bool) → big ≡ ltb byte_limit (length block) → big ≡ true → step.Last 1 0 ≡ step_from block place
search-long block place big b h = rw (given-long block (sym b ∙ h)) (sym (first-none place 0 (step.Last 1 0)))

-- where the loop stands at `at`, after so many fields: what is left of the walk gives the answer of the whole
pub record Searching (block : List ℕ) (place at count : ℕ) : Type 0 where
  pub same : from_walk place at (rest_walk block at count) ≡ step_from block place
  pub inside : at ≤ length block
  pub few : count ≤ at

pub search-start : (block : List ℕ) (place : ℕ) (big : Bool) → big ≡ ltb byte_limit (length block) → big ≡ false → Searching block place 0 0
search-start block place big b h = record { same = rw (given-fields block (sym b ∙ h)); inside = zero-le; few = zero-le }

module _ (block : List ℕ) (place at count : ℕ) (w : Searching block place at count) where
  pub search-end : next.End ≡ next_from at count (drop at block) → step.Last 0 0 ≡ step_from block place
  search-end e = sym (first-none place at (step.Last 0 0)) ∙ (rw (step_end block at count e) at w.same)

  pub search-refused : (n p : ℕ) → next.Refused n p ≡ next_from at count (drop at block) → step.Last n p ≡ step_from block place
  search-refused n p e = sym (first-none place at (step.Last n p)) ∙ (rw (step-refused block at count n p e) at w.same)

  module _ (a n b e : ℕ) (q : next.Field a n b e ≡ next_from at count (drop at block)) where
    abbrev after : Walked Field
    after = rest_walk block e (count + 1)

    field_end : at + length (field_from block a n b e).bytes ≡ e
    field_end =
        let c = step_field block at count a n b e q in
        rw (part_bytes block a n b e c.named c.labelled c.bodied c.inside) (omega (arith, c))

    pub search-found : place ≤ a → step.Field a n b e ≡ step_from block place
    search-found h =
        let c = step_field block at count a n b e q in
        let x : at + (n - a) ≡ n = omega (arith, c) in
        let y : at + (b - a) ≡ b = omega (arith, c) in
        let f = first-here place at (field_from block a n b e) after.items (last_of after) (omega (arith, c)) in
        let g : from_walk place at (rest_walk block at count) ≡ step.Field at n b e = rw c.more (f ∙ rw (x, y, field_end)) in
        rw c.start (sym g ∙ w.same)

    pub search-on : a < place → Searching block place e (count + 1)
    search-on h =
        let c = step_field block at count a n b e q in
        let f = first-later place at (field_from block a n b e) after.items (last_of after) (omega (arith, c)) in
        let g : from_walk place at (rest_walk block at count) ≡ from_walk place e after = rw c.more (f ∙ rw field_end) in
        record { same = sym g ∙ w.same; inside = c.inside; few = omega (arith, c, w.few) }
