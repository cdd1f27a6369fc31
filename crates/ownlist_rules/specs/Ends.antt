-- Where the lines of our own list end, so that they are found once for a whole block.
use Rattle.std.specs.Prelude.{ℕ, suc, ◌+◌, List, [], ◌∷◌, length}
use Rattle.base_sequences.specs.Spans.{span}
use Rattle.base_readers.specs.Lines.{lines_of}

-- where texts end that stand one after the other from a place on, each with one byte behind it
unfoldable pub ends_from : ℕ → List (List ℕ) → List ℕ
ends_from at [] = []
ends_from at (l ∷ ls) = (at + length l) ∷ ends_from (suc (at + length l)) ls

-- the place of each line's end: of its LF, or the end of the bytes where the last line has none
abbrev pub ends_of : List ℕ → List ℕ
ends_of own = ends_from 0 (lines_of own)

-- bytes cut at places, any places, from a place on: what stands before each of them, without the byte that stands there
unfoldable pub cut_at : List ℕ → ℕ → List ℕ → List (List ℕ)
cut_at own at [] = []
cut_at own at (e ∷ es) = span own at e ∷ cut_at own (suc e) es
