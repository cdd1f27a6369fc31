-- What the code's answers say: one step of the walk over the fields, at places of the slice.
use Rattle.std.specs.Prelude.{ℕ, ◌+◌, true, false, List, [], ◌∷◌, get_or, drop}
use Rattle.base_readers.specs.Readers.{many}
use Rattle.base_readers.specs.Walks.{Met, item, refused}
use Rattle.lexis_rules.specs.declared.Class.TheVariants.{Blank}
use Rattle.lexis_rules.specs.Bytes.{in_class}
use Rattle.block.specs.declared.Walk.{Walk}
use Rattle.block.specs.declared.Next.{Next}
use Rattle.block.specs.declared.Next.TheVariants as next
use Rattle.block_rules.specs.Fields.{Field, line_text, folded, field_at}

-- ==== fields

-- a walk from the front, before its first field
abbrev pub fresh_walk : Walk
fresh_walk = record { at = 0; count = 0 }

-- a field by the places where it starts, its name ends, its body starts and it ends; or the refusal
abbrev pub next_of : ℕ → Met Field → Next
next_of at (item f n) = next.Field at (at + f.name) (at + f.body) (at + n)
next_of at (refused n p) = next.Refused n p

-- what stands at a place of a walk: nothing at the end
unfoldable pub next_from : ℕ → ℕ → List ℕ → Next
next_from at count [] = next.End
next_from at count (x ∷ xs) = next_of at (field_at at count (x ∷ xs))

abbrev pub next_at : List ℕ → Walk → Next
next_at s w = next_from w.at w.count (drop w.at s)

-- ==== the last part of a step, which only private functions say

-- the field at `at` whose name ends at n and whose label ends at b, where its further lines end at e
unfoldable pub finished_at : ℕ → ℕ → ℕ → List ℕ → ℕ → Next
finished_at at n b s e =
    elim (in_class Blank (get_or (drop e s) 0 0)) [
      | true ↦ next.Refused 2 (e + line_text (drop e s))
      | false ↦ next.Field at n b e
    ]

-- the same where its first line ends at l
unfoldable pub finished : ℕ → ℕ → ℕ → ℕ → List ℕ → Next
finished at l n b s = finished_at at n b s (l + many folded 0 (drop l s))
