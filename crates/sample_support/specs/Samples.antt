-- How the programs that run cases show bytes, and how they read their arguments.
use Prim.Native.Char.{code}
use Rattle.std.specs.Prelude.{ℕ, ◌+◌, ◌-◌, ◌*◌, ◌/◌, ◌%◌, ◌≤◌, min, ◌≡◌, Bool, true, false, cond, not, ◌&&◌, List, [], ◌∷◌, eqb, leb, length, take}
use Rattle.std.proofs.lemmas.List.Edits.{sets}
use Rattle.base_readers.specs.Texts.{within}

-- ==== decimal digits

-- the number that digits tell behind those of n; a byte counts by its distance from "0", one before it 0
unfoldable pub number : ℕ → List ℕ → ℕ
number n [] = n
number n (x ∷ xs) = number (n * 10 + (x - code "0")) xs

-- the values of the digits in front
unfoldable pub digits : List ℕ → List ℕ
digits [] = []
digits (x ∷ xs) = elim (within (code "0") (code "9") x) [ true ↦ (x - code "0") ∷ digits xs | false ↦ [] ]

-- ==== bytes as visible text

-- a lower-case hex digit
abbrev pub hex_digit : ℕ → ℕ
hex_digit n = cond (leb n 9) (code "0" + n) (code "a" + (n - 10))

-- bytes outside 33 to 126 and the percent sign are the others
unfoldable pub plain : ℕ → Bool
plain x = not (eqb x (code "%")) && within 33 126 x

-- the others become % and two hex digits
unfoldable pub shown : List ℕ → List ℕ
shown [] = []
shown (x ∷ xs) =
    elim (plain x) [
      | true ↦ x ∷ shown xs
      | false ↦ code "%" ∷ hex_digit (x / 16) ∷ hex_digit (x % 16) ∷ shown xs
    ]

-- ==== cases

-- how many cases of k arguments each there are among n words, of which the first is the name of the program
unfoldable pub cases : ℕ → ℕ → ℕ
cases n k = cond (eqb k 0) 0 ((n - 1) / k)

-- ==== lent buffers

-- n bytes stand in front of xs. The second part follows from the first; both are stated so that `&s[..n]` needs no proof file.
abbrev pub Front : ℕ → List ℕ → Type 0
Front n xs = (n ≤ length xs) × (n ≡ length (take n xs))

-- `text` is stored in `old` from `at` on, as far as there is room (`sets` stores nothing past the end): the buffer holds `new`, and
-- `next` is the place after what is stored
pub record Filled (old : List ℕ) (at : ℕ) (text new : List ℕ) (next : ℕ) : Type 0 where
  pub place : next ≡ min (at + length text) (length old)
  pub bytes : new ≡ sets old at text
