-- Bytes and texts.
use Rattle.std.specs.Prelude.{ℕ, Bool, true, false, not, ◌&&◌, ◌||◌, List, [], ◌∷◌, leb, eqb}
use Prim.Native.Char.{code}
use Prim.Native.String.{String}

-- the bytes of a text of ASCII
abbrev pub bytes : String → List ℕ
bytes String.[] = []
bytes (String.◌∷◌ c s) = code c ∷ bytes s

-- a number from a to b
unfoldable pub within : ℕ → ℕ → ℕ → Bool
within a b x = leb a x && leb x b

-- one of the listed bytes
unfoldable pub one_of : List ℕ → ℕ → Bool
one_of [] x = false
one_of (a ∷ l) x = eqb x a || one_of l x

-- the bytes that are not of the class
abbrev pub outside : (ℕ → Bool) → ℕ → Bool
outside c x = not (c x)

-- two texts are the same
unfoldable pub same : List ℕ → List ℕ → Bool
same [] [] = true
same [] (y ∷ ys) = false
same (x ∷ xs) [] = false
same (x ∷ xs) (y ∷ ys) = eqb x y && same xs ys

-- a byte of the class comes next
unfoldable pub starts : (ℕ → Bool) → List ℕ → Bool
starts c [] = false
starts c (x ∷ xs) = c x

-- the end, or a byte of the class, comes next
unfoldable pub follows : (ℕ → Bool) → List ℕ → Bool
follows c [] = true
follows c (x ∷ xs) = c x
