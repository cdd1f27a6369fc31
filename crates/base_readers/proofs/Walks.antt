-- A walk goes on with each item and ends at a refusal or at the end, by induction on the bytes of an item.
use Prim.Native.Nat.{ℕ, zero, suc, ◌+◌, ◌-◌, ◌<◌}
use native.Mathlib.Nat.{add-zero, add-suc, suc-add}
use native.Mathlib.Omega.{arith}
use mathlib.Core.Path.{◌≡◌, refl, sym, ap, ◌∙◌}
use mathlib.Core.List.{List, [], ◌∷◌}
use lib.ListN.{length, drop}
use Rattle.base_readers.specs.Walks.{Met, item, refused, ended, before, walk}

module _ {A : Type 0} (f : ℕ → ℕ → List ℕ → Met A) where
  -- past the bytes of the item taken last
  pub walk-skip : (at count k : ℕ) (xs : List ℕ) → walk f at count k xs ≡ walk f (at + k) count 0 (drop k xs)
  unfolding walk
  walk-skip at count zero [] = refl
  walk-skip at count (suc k) [] = refl
  walk-skip at count zero (x ∷ xs) = ap (λ (a : ℕ). walk f a count 0 (x ∷ xs)) (sym (add-zero at))
  walk-skip at count (suc k) (x ∷ xs) = walk-skip (suc at) count k xs ∙ rw (add-suc, suc-add)

  pub walk-item : (at count : ℕ) (xs : List ℕ) (a : A) (n : ℕ) → 0 < length xs → 0 < n → f at count xs ≡ item a n
      → walk f at count 0 xs ≡ before a (walk f (at + n) (suc count) 0 (drop n xs))
  unfolding walk
  walk-item at count [] a n h z e = absurd (let l : 0 < 0 = h in omega arith)
  walk-item at count (x ∷ xs) a zero h z e = absurd (let l : 0 < 0 = z in omega arith)
  walk-item at count (x ∷ xs) a (suc n) h z e =
      let o : suc n - 1 ≡ n = omega arith in
      let p : suc at + n ≡ at + suc n = omega arith in
      rw (walk, e, o, walk-skip (suc at) (suc count) n xs, p)

  pub walk-stop : (at count : ℕ) (xs : List ℕ) (n p : ℕ) → 0 < length xs → f at count xs ≡ refused n p → walk f at count 0 xs ≡ ended n p
  unfolding walk
  walk-stop at count [] n p h e = absurd (let l : 0 < 0 = h in omega arith)
  walk-stop at count (x ∷ xs) n p h e = rw (walk, e)

  pub walk_end : (at count : ℕ) → walk f at count 0 [] ≡ ended 0 0
  unfolding walk
  walk_end at count = refl
