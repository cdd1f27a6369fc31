-- A rule that holds at every entry of a table, or at every number below a bound, because one test that antt computes holds at all of
-- them.
use Prim.Native.Nat.{ℕ, zero, suc, ◌+◌, ◌-◌, ◌≤◌, ◌<◌}
use native.Mathlib.Nat.{add-zero, zero-add, add-suc, suc-add, le_of_suc-le-suc, not-suc-le-zero}
use native.Mathlib.Omega.{arith}
use mathlib.Core.Path.{◌≡◌, sym, ◌∙◌, subst}
use mathlib.Core.Bool.{Bool, true, false, ◌&&◌, beq}
use mathlib.Core.List.{List, [], ◌∷◌}
use lib.Dec.{T}
use lib.ListN.{length, get_or}
use Rattle.base_sequences.proofs.Booleans.{T-left, T-right, beq-eq}

-- ==== rows of a table

module _ {A : Type 0} (f : ℕ → A → Bool) (d : A) where
  -- the test passes at each row and its place, counted from i
  abbrev pub every : ℕ → List A → Bool
  every i [] = true
  every i (x ∷ xs) = f i x && every (suc i) xs

  every-from : (xs : List A) (i : ℕ) → T (every i xs) → (k : ℕ) → k < length xs → T (f (i + k) (get_or xs k d))
  every-from [] i t k h = absurd (not-suc-le-zero h)
  every-from (x ∷ xs) i t zero h = subst (λ (m : ℕ). T (f m x)) (sym (add-zero i)) (T-left (f i x) (every (suc i) xs) t)
  every-from (x ∷ xs) i t (suc k) h =
      subst (λ (m : ℕ). T (f m (get_or xs k d))) (suc-add i k ∙ sym (add-suc i k))
      (every-from xs (suc i) (T-right (f i x) (every (suc i) xs) t) k (le_of_suc-le-suc h))

  pub row_at : (xs : List A) → T (every 0 xs) → (k : ℕ) → k < length xs → T (f k (get_or xs k d))
  row_at xs t k h = subst (λ (m : ℕ). T (f m (get_or xs k d))) (zero-add k) (every-from xs 0 t k h)

-- ==== numbers below a bound

-- the test at i, i + 1, .., n of them
abbrev pub tested : (ℕ → Bool) → ℕ → ℕ → Bool
tested p i zero = true
tested p i (suc n) = elim (p i) [ true ↦ tested p (suc i) n | false ↦ false ]

pub tested-from : (p : ℕ → Bool) (n i k : ℕ) → T (tested p i n) → k < n → T (p (i + k))
tested-from p zero i k t h = absurd (not-suc-le-zero h)
tested-from p (suc n) i zero t h = rw add-zero (first (p i) (tested p (suc i) n) t)
  where
    first : (a b : Bool) → T (elim a [ true ↦ b | false ↦ false ]) → T a
    first true b t = tt
    first false b t = t
tested-from p (suc n) i (suc k) t h = rw (add-suc, ← suc-add) (tested-from p n (suc i) k (rest (p i) (tested p (suc i) n) t) (le_of_suc-le-suc h))
  where
    rest : (a b : Bool) → T (elim a [ true ↦ b | false ↦ false ]) → T b
    rest true b t = t
    rest false b t = absurd t

pub tested_at : (p : ℕ → Bool) (n k : ℕ) → T (tested p 0 n) → k < n → T (p k)
tested_at p n k t h = subst (λ (m : ℕ). T (p m)) (zero-add k) (tested-from p n 0 k t h)

-- two tests that agree at each number below n
pub agree : (f g : ℕ → Bool) (n k : ℕ) → k < n → T (tested (λ b. beq (f b) (g b)) 0 n) → f k ≡ g k
agree f g n k h t = beq-eq (f k) (g k) (tested_at (λ b. beq (f b) (g b)) n k t h)

-- a test that has one answer at each of the n numbers from i on
pub agree-from : (r : Bool) (g : ℕ → Bool) (i n k : ℕ) → i ≤ k → k < i + n → T (tested (λ b. beq r (g b)) i n) → r ≡ g k
agree-from r g i n k l h t =
    let e : i + (k - i) ≡ k = omega arith in
    beq-eq r (g k) (rw e at (tested-from (λ b. beq r (g b)) n i (k - i) t (omega arith)))
