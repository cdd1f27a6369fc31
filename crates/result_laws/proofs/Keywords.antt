-- A text whose first byte is another one, but for ASCII case, is another text: what a reader may ask before it reads a whole keyword.
use Prim.Native.Nat.{ℕ, zero, suc}
use mathlib.Core.Path.{◌≡◌, refl}
use mathlib.Core.Bool.{false}
use mathlib.Core.List.{List, [], ◌∷◌}
use lib.ListN.{get_or, take}
use borrow.Author.Tests.{ne_eqb}
use Rattle.base_readers.specs.Texts.{same}
use Rattle.lexis_rules.specs.Bytes.{lower, alike}

pub alike-first : (n : ℕ) (xs : List ℕ) (y : ℕ) (ys : List ℕ) → (lower (get_or xs 0 0) ≡ lower y → ⊥) → alike (take n xs) (y ∷ ys) ≡ false
unfolding alike same
alike-first zero xs y ys ne = refl
alike-first (suc n) [] y ys ne = refl
alike-first (suc n) (x ∷ xs) y ys ne = rw (ne_eqb (lower x) (lower y) ne)
