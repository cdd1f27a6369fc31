-- The lines of bytes: texts parted or ended by LF.
use Prim.Native.Char.{code}
use Rattle.std.specs.Prelude.{ℕ, Bool, true, false, not, List, [], ◌∷◌, ◌++◌, eqb}
use Rattle.base_readers.specs.Readers.{Reader, run}

-- texts, each ended by LF
unfoldable pub lined : List (List ℕ) → List ℕ
lined [] = []
lined (t ∷ ts) = t ++ (code "\n" ∷ lined ts)

-- a byte in front of the first of some texts
abbrev pub on_first : ℕ → List (List ℕ) → List (List ℕ)
on_first x [] = (x ∷ []) ∷ []
on_first x (l ∷ ls) = (x ∷ l) ∷ ls

-- the lines of any bytes: what stands before each LF, and behind the last one if there is something
unfoldable pub lines_of : List ℕ → List (List ℕ)
lines_of [] = []
lines_of (x ∷ xs) = elim (eqb x (code "\n")) [ true ↦ [] ∷ lines_of xs | false ↦ on_first x (lines_of xs) ]

-- any byte but LF
unfoldable pub feedless : ℕ → Bool
feedless x = not (eqb x (code "\n"))

-- what stands before the next LF, or the end
abbrev pub until_feed : Reader
until_feed = run feedless
