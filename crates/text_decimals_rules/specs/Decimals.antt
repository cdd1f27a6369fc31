-- Numbers in decimal digits, as the command writes them: no zero in front, and "0" for 0.
use Prim.Native.Char.{code}
use Rattle.std.specs.Prelude.{ℕ, zero, suc, ◌+◌, ◌*◌, ◌-◌, ◌/◌, ◌%◌, true, false, List, [], ◌∷◌, ◌++◌, ltb}

-- the digit of a number below ten
abbrev pub digit : ℕ → ℕ
digit n = code "0" + n

-- the digits of a number that has no more than so many behind the first: those of its tenth, and its last digit
unfoldable pub digits : ℕ → ℕ → List ℕ
digits zero n = digit n ∷ []
digits (suc k) n = elim (ltb n 10) [ true ↦ digit n ∷ [] | false ↦ digits k (n / 10) ++ (digit (n % 10) ∷ []) ]

-- a number in decimal digits: it has no more of them behind the first than itself
unfoldable pub decimal : ℕ → List ℕ
decimal n = digits n n

-- the number that digits tell, after those that told `n`
unfoldable pub told : ℕ → List ℕ → ℕ
told n [] = n
told n (x ∷ xs) = told (10 * n + (x - code "0")) xs
