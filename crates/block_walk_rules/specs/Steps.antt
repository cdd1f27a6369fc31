-- Document 01, "What the library is handed": what a reader that holds a block and its place gives.
use Rattle.std.specs.Prelude.{ℕ, ◌+◌, true, false, List, [], ◌∷◌, ltb, leb, length}
use Rattle.base_readers.specs.Walks.{Walked, ended}
use Rattle.lexis_rules.specs.Limits.{byte_limit}
use Rattle.block_rules.specs.Fields.{Field, fields}
use Rattle.block_walk_rules.specs.declared.Step.{Step}
use Rattle.block_walk_rules.specs.declared.Step.TheVariants as step

-- It answers 1 first, else gives each field ending before the line of a 2 to 4, then that answer; a sound block gives all its fields, then 0
unfoldable pub given : List ℕ → Walked Field
given block = elim (ltb byte_limit (length block)) [ true ↦ ended 1 0 | false ↦ fields block ]

-- that last answer
abbrev pub last_of : Walked Field → Step
last_of w = step.Last w.number w.place

-- a field that starts at a place, by the places where it starts, its name ends, its body starts, and it ends with its last CRLF
abbrev pub placed : ℕ → Field → Step
placed at f = step.Field at (at + f.name) (at + f.body) (at + length f.bytes)

-- the first of some fields, which stand one after the other from `at` on, that starts at a place or later, or else the last answer
unfoldable pub first_from : ℕ → ℕ → List Field → Step → Step
first_from place at [] last = last
first_from place at (f ∷ fs) last = elim (leb place at) [ true ↦ placed at f | false ↦ first_from place (at + length f.bytes) fs last ]

-- From any place, also one that a host made up, a step gives the first of these fields that starts there or later, or else that last answer
abbrev pub step_from : List ℕ → ℕ → Step
step_from block place = first_from place 0 (given block).items (last_of (given block))

-- the place past a field that was given; after the last answer there is no further one
abbrev pub past_of : ℕ → Step → ℕ
past_of place (step.Field start named bodied end) = end
past_of place (step.Last number at) = place

abbrev pub past_from : List ℕ → ℕ → ℕ
past_from block place = past_of place (step_from block place)
