-- What private functions say of a table whose names are in order: no public contract cites these.
use Rattle.std.specs.Prelude.{ℕ, suc, ◌+◌, ◌-◌, ◌≤◌, ◌≡◌, Bool, true, false, ◌&&◌, List, [], ◌∷◌, ◌++◌, length, take, drop, Option, Some, None}
use Rattle.base_readers.specs.Texts.{bytes, same}
use Rattle.std.specs.declared.cmp.Ordering.TheVariants.{Less, Equal, Greater}
use Rattle.std.specs.Ordering.{is_lt}
use Rattle.tag_names.specs.Names.{compared}
use Rattle.tag_content.specs.Tests.{kept}

-- each is before all that follow it
unfoldable pub before_all : List ℕ → List (List ℕ) → Bool
before_all k [] = true
before_all k (x ∷ xs) = is_lt (compared k x) && before_all k xs

unfoldable pub ordered : List (List ℕ) → Bool
ordered [] = true
ordered (k ∷ ks) = before_all k ks && ordered ks

-- the names of the first n entries of a table are in order
pub record Kept (s t : List ℕ) (n : ℕ) : Type 0 where
  pub fits : n ≤ length t
  pub order : ordered (kept s t n) ≡ true

-- where a name would stand among those from the i-th on; none where it is one of them
unfoldable pub slot_for : ℕ → List (List ℕ) → List ℕ → Option ℕ
slot_for i [] n = Some i
slot_for i (k ∷ ks) n = elim (compared k n) [ Less ↦ slot_for (suc i) ks n | Equal ↦ None | Greater ↦ Some i ]

-- i is taken from the start
abbrev pub slot_of : List (List ℕ) → List ℕ → Option ℕ
slot_of ks n = elim (same n (bytes "i")) [ true ↦ None | false ↦ slot_for 0 ks n ]

-- an entry put before another, of the first n
abbrev pub inserted_at : ℕ → ℕ → ℕ → List ℕ → List ℕ
inserted_at i n p t = take i t ++ (p ∷ (take (n - i) (drop i t) ++ drop (n + 1) t))
