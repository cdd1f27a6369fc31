-- What the programs that run cases tell of bytes.
use Rattle.std.specs.Prelude.{ℕ, ◌+◌, ◌*◌, ◌%◌, cond, List, [], ◌∷◌, eqb}

-- RFC 1950, 2.2: s1 is the sum of all bytes, s2 is the sum of all s1 values, both modulo 65521; the checksum is s2 * 65536 + s1
unfoldable pub sums : ℕ → ℕ → List ℕ → ℕ
sums s1 s2 [] = s2 * 65536 + s1
sums s1 s2 (x ∷ xs) = sums ((s1 + x) % 65521) ((s2 + (s1 + x) % 65521) % 65521) xs

-- s1 is initialized to 1, s2 to zero
abbrev pub adler : List ℕ → ℕ
adler xs = sums 1 0 xs

-- how many bytes are not 170
unfoldable pub changed : List ℕ → ℕ
changed [] = 0
changed (x ∷ xs) = cond (eqb x 170) 0 1 + changed xs
