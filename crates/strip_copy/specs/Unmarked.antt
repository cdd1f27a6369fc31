-- A list without those of its parts that have a mark.
use Rattle.std.specs.Prelude.{ℕ, true, false, List, [], ◌∷◌, ◌++◌, eqb, get_or, drop}
use Rattle.base_sequences.specs.Spans.{span}

-- the parts from a place on, up to each of the stops, whose mark is 0; what stands side by side, from `from` on, is one part
unfoldable pub unmarked : List ℕ → ℕ → ℕ → List ℕ → List ℕ → List ℕ
unmarked s from at [] marks = span s from at
unmarked s from at (e ∷ stops) marks =
    elim (eqb (get_or marks 0 0) 0) [
      | true ↦ unmarked s from e stops (drop 1 marks)
      | false ↦ span s from at ++ unmarked s e e stops (drop 1 marks)
    ]
