-- Parts of lists.
use Prim.Native.Nat.{ℕ, zero, suc, ◌-◌, ◌<◌}
use native.Mathlib.Nat.{le_of_suc-le-suc, not-suc-le-zero}
use native.Mathlib.Omega.{arith}
use mathlib.Core.Path.{◌≡◌, refl, sym, ap, ◌∙◌}
use mathlib.Core.List.{List, [], ◌∷◌, ◌++◌, append_assoc}
use lib.ListN.{length, get_or, take, drop, take-append-drop, get_or-append}
use lib.Seq.{take-nil}

module _ {A : Type 0} where
  pub empty-is : (l : List A) → length l ≡ 0 → l ≡ []
  empty-is [] e = refl
  empty-is (x ∷ l) e = absurd (omega arith)

  -- a list cut at m, with something behind it
  pub cut : (m : ℕ) (l t : List A) → take m l ++ (drop m l ++ t) ≡ l ++ t
  cut m l t = sym (append_assoc (take m l) (drop m l) t) ∙ ap (λ (k : List A). k ++ t) (take-append-drop m l)

  pub drop-take : (k n : ℕ) (l : List A) → drop k (take n l) ≡ take (n - k) (drop k l)
  drop-take zero n l = let e : n - 0 ≡ n = omega arith in rw e
  drop-take (suc k) zero l = let e : 0 - suc k ≡ 0 = omega arith in rw e
  drop-take (suc k) (suc n) [] = sym (take-nil (suc n - suc k))
  drop-take (suc k) (suc n) (x ∷ l) = let e : suc n - suc k ≡ n - k = omega arith in drop-take k n l ∙ rw e

  -- an element of p is the same whatever follows p
  pub get_or-either : (p x y : List A) (k : ℕ) (d : A) → k < length p → get_or (p ++ y) k d ≡ get_or (p ++ x) k d
  get_or-either p x y k d h = get_or-append p y d k h ∙ sym (get_or-append p x d k h)

  pub get_or-behind : (p x y : List A) (k : ℕ) (d : A) → k < length p → get_or (drop k p ++ y) 0 d ≡ get_or (p ++ x) k d
  get_or-behind [] x y k d h = absurd (not-suc-le-zero h)
  get_or-behind (b ∷ p) x y zero d h = refl
  get_or-behind (b ∷ p) x y (suc k) d h = get_or-behind p x y k d (le_of_suc-le-suc h)
