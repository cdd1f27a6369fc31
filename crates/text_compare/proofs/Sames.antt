-- Two runs of bytes are the same where the library's `==` says so.
use Prim.Native.Nat.{ℕ, ◌-◌}
use native.Mathlib.Omega.{arith}
use mathlib.Core.Path.{◌≡◌, refl, ◌∙◌}
use mathlib.Core.Bool.{Bool}
use mathlib.Core.List.{List, [], ◌∷◌}
use lib.Dec.{eqb}
use lib.ListN.{length, take, drop}
use lib.Pointwise.{pointwise}
use Rattle.base_readers.specs.Texts.{same}
use Rattle.std.proofs.lemmas.List.{take_all}

pub same-pointwise : (a b : List ℕ) → pointwise eqb a b ≡ same a b
unfolding same
same-pointwise [] [] = refl
same-pointwise [] (y ∷ ys) = refl
same-pointwise (x ∷ xs) [] = refl
same-pointwise (x ∷ xs) (y ∷ ys) = rw (same-pointwise xs ys)

-- what the library's `==` tells of two parts of texts that are the whole texts
pub same-of : {r : Bool} {xs ys l m : List ℕ} → r ≡ pointwise eqb xs ys → xs ≡ l → ys ≡ m → r ≡ same l m
same-of {xs = xs} {ys} h p q = h ∙ same-pointwise xs ys ∙ rw (p, q)

-- the part of a text from a place on is the whole text where that place is 0: so `first_byte_unseen` is refused for its 1 alone
pub from-front : (i : ℕ) (l : List ℕ) → i ≡ 0 → take (length l - i) (drop i l) ≡ l
from-front i l p = rw p (take_all _ l (omega arith))
