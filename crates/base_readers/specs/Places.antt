-- Readers and parsers at a place of a list, for code that walks it.
use Rattle.std.specs.Prelude.{ℕ, ◌+◌, ◌≡◌, List, [], drop}
use Rattle.base_readers.specs.Readers.{Reader}
use Rattle.base_readers.specs.Parsers.{Got, nothing, got, Parser, after, several}

-- where a reader that starts at a place ends
abbrev pub end_of : Reader → List ℕ → ℕ → ℕ
end_of f s at = at + f (drop at s)

-- p at a place, with the place where it ends
unfoldable pub from : {A : Type 0} → Parser A → List ℕ → ℕ → Got A
from p s at = after at (p (drop at s))

abbrev pub values : {A : Type 0} → Got (List A) → List A
values nothing = []
values (got l n) = l

abbrev pub ending : {A : Type 0} → Got (List A) → ℕ
ending nothing = 0
ending (got l n) = n

-- what a repetition reads at a place, and where it ends
unfoldable pub list_at : {A : Type 0} → Parser A → List ℕ → ℕ → List A
list_at p s at = values (from (several p 0) s at)

unfoldable pub end_at : {A : Type 0} → Parser A → List ℕ → ℕ → ℕ
end_at p s at = ending (from (several p 0) s at)

-- the invariant of a loop that started at `at` and stands at i: the reader ends from i on where it ends from `at` on
pub record Reaches (f : Reader) (s : List ℕ) (at i : ℕ) : Type 0 where
  pub same : i + f (drop i s) ≡ at + f (drop at s)
