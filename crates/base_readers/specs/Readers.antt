-- Readers. A reader says how many bytes of the front of a list it takes; 0 is nothing, for no reader takes an empty thing.
-- A byte is asked for by `get_or xs k 0`: past the end that is 0, which is in no class and is no separator, so nothing asks for a length.
use Rattle.std.specs.Prelude.{ℕ, zero, suc, ◌+◌, Bool, true, false, cond, List, [], ◌∷◌, eqb, get_or, drop, take}

abbrev pub Reader : Type 0
Reader = List ℕ → ℕ

-- the longest run of bytes of a class
unfoldable pub run : (ℕ → Bool) → Reader
run c [] = 0
run c (x ∷ xs) = elim (c x) [ true ↦ suc (run c xs) | false ↦ 0 ]

-- f over and over, as long as it takes something; k bytes of the list belong to what was taken last
unfoldable pub many : Reader → ℕ → Reader
many f k [] = k
many f (suc k) (x ∷ xs) = suc (many f k xs)
many f zero (x ∷ xs) = elim (f (x ∷ xs)) [ zero ↦ 0 | suc n ↦ suc (many f n xs) ]

-- f where the first byte is a, else g
unfoldable pub choose : ℕ → Reader → Reader → Reader
choose a f g xs = elim (eqb (get_or xs 0 0) a) [ true ↦ f xs | false ↦ g xs ]

-- the byte a, what f takes, and the byte z; nothing where one of the two bytes is not there
unfoldable pub between : ℕ → ℕ → Reader → Reader
between a z f xs =
    elim (eqb (get_or xs 0 0) a) [
      | true ↦ (let n = f (drop 1 xs) in cond (eqb (get_or xs (n + 1) 0) z) (n + 2) 0)
      | false ↦ 0
    ]

-- what f takes, if it passes the test; else nothing
unfoldable pub passing : (List ℕ → Bool) → Reader → Reader
passing t f xs = cond (t (take (f xs) xs)) (f xs) 0

-- the last byte of each thing that f takes, one after the other; k bytes of the list belong to what was taken last
unfoldable pub lasts : Reader → ℕ → List ℕ → List ℕ
lasts f k [] = []
lasts f (suc k) (x ∷ xs) = lasts f k xs
lasts f zero (x ∷ xs) = elim (f (x ∷ xs)) [ zero ↦ [] | suc n ↦ get_or (x ∷ xs) n 0 ∷ lasts f n xs ]
