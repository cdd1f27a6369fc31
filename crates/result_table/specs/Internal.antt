-- How the code keeps the table of methods, as its private function says it.
use Rattle.std.specs.Prelude.{ℕ, zero, suc, Bool, true, false, ◌&&◌, List, [], ◌∷◌, map, leb, length, take}
use Rattle.base_readers.specs.Texts.{same}
use Rattle.lexis_rules.specs.Bytes.{lower}

-- each row has its length beside it, and at least that many bytes
unfoldable pub fits : List ℕ → List (List ℕ) → Bool
fits [] [] = true
fits (l ∷ ls) [] = false
fits [] (w ∷ ws) = false
fits (l ∷ ls) (w ∷ ws) = leb l (length w) && fits ls ws

-- the names that rows hold: of each row as many bytes as its length says, in lower case
unfoldable pub names : List ℕ → List (List ℕ) → List (List ℕ)
names ls [] = []
names [] (w ∷ ws) = []
names (l ∷ ls) (w ∷ ws) = map lower (take l w) ∷ names ls ws

-- the number of a text among names, from 0; how many names there are if it is none of them
unfoldable pub number_of : List (List ℕ) → List ℕ → ℕ
number_of [] t = zero
number_of (w ∷ ws) t = elim (same w t) [ true ↦ zero | false ↦ suc (number_of ws t) ]
