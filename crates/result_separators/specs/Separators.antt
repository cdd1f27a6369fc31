-- A byte between parts of a result, with the space around it, and what is said of the place behind what was taken.
use Rattle.std.specs.Prelude.{ℕ, ◌+◌, true, false, List, eqb, drop}
use Rattle.base_readers.specs.Readers.{Reader}
use Rattle.lexis_rules.specs.Pieces.{space}
use Rattle.result_rules.specs.Results.{next}

-- ==== separators

-- a separator: space, the byte and space; nothing where the byte is not there
unfoldable pub separated : ℕ → Reader
separated c xs = elim (next c (drop (space xs) xs)) [ true ↦ space xs + 1 + space (drop (space xs + 1) xs) | false ↦ 0 ]

-- the place where the space behind a place ends
abbrev pub spaced : List ℕ → ℕ → ℕ
spaced s at = at + space (drop at s)

-- a separator behind a part that ends at `at`, looked for at the place a: where the space behind it ends, and `at` where there is none
unfoldable pub separated_from : ℕ → List ℕ → ℕ → ℕ → ℕ
separated_from c s at a = elim (next c (drop a s)) [ true ↦ spaced s (a + 1) | false ↦ at ]

-- ==== the place behind

-- what is said of the place e behind what was taken at a place; z where nothing was, so that both are the same
unfoldable pub past : {A : Type 0} → ℕ → ℕ → A → (ℕ → A) → A
past at e z k = elim (eqb e at) [ true ↦ z | false ↦ k e ]

-- the same of the place behind what a reader takes
abbrev pub behind : {A : Type 0} → Reader → List ℕ → ℕ → A → (ℕ → A) → A
behind f s at z k = past at (at + f (drop at s)) z k
