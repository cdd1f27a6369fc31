-- One walk from the front, item by item, up to the end or the first refusal.
use Rattle.std.specs.Prelude.{ℕ, zero, suc, ◌-◌, List, [], ◌∷◌}

-- what stands at the front: an item and how many bytes it has, or a refusal with its number and place
pub data Met (A : Type 0) : Type 0 where
  item : A → ℕ → Met A
  refused : ℕ → ℕ → Met A

-- what a walk gives: the items, one after the other, and then an answer with its place (0 and 0 at the end)
pub record Walked (A : Type 0) : Type 0 where
  pub items : List A
  pub number : ℕ
  pub place : ℕ

abbrev pub ended : {A : Type 0} → ℕ → ℕ → Walked A
ended n p = record { items = []; number = n; place = p }

abbrev pub before : {A : Type 0} → A → Walked A → Walked A
before a w = record { items = a ∷ w.items; number = w.number; place = w.place }

-- f says what stands at the front of a list that starts at a place, after so many items; k bytes of the list belong to the item taken last
unfoldable pub walk : {A : Type 0} → (ℕ → ℕ → List ℕ → Met A) → ℕ → ℕ → ℕ → List ℕ → Walked A
walk f at count k [] = ended 0 0
walk f at count (suc k) (x ∷ xs) = walk f (suc at) count k xs
walk f at count zero (x ∷ xs) =
    elim (f at count (x ∷ xs)) [
      | item a n ↦ before a (walk f (suc at) (suc count) (n - 1) xs)
      | refused n p ↦ ended n p
    ]
