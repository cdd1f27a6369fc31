-- Tables of worked examples: each pairs a text with what is said of it, and `Says` is proved by computing.
use Prim.Native.Nat.{ℕ, zero, suc}
use mathlib.Core.Path.{◌≡◌}
use mathlib.Core.List.{List, [], ◌∷◌, map}

-- a text, and what is said of it
pub record Case (A : Type 0) : Type 0 where
  pub of : List ℕ
  pub gives : A

abbrev pub case : {A : Type 0} → List ℕ → A → Case A
case t a = record { of = t; gives = a }

-- what f says of each text is what is stated
abbrev pub Says : {A : Type 0} → (List ℕ → A) → List (Case A) → Type 0
Says {A} f cases = map (λ (c : Case A). f c.of) cases ≡ map (λ (c : Case A). c.gives) cases

abbrev pub copies : ℕ → ℕ → List ℕ
copies zero x = []
copies (suc n) x = x ∷ copies n x
