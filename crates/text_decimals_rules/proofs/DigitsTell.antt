-- A number in decimal digits: the digits tell it, no zero stands in front, and how many there are at most.
use Prim.Native.Nat.{ℕ, zero, suc, ◌+◌, ◌*◌, ◌-◌, ◌/◌, ◌%◌, ◌≤◌, ◌<◌, ◌^◌}
use native.Mathlib.Nat.{pow-suc}
use native.Mathlib.Omega.{arith}
use mathlib.Core.Path.{◌≡◌, refl, ap, ◌∙◌}
use mathlib.Core.Bool.{Bool, true, false}
use mathlib.Core.List.{List, [], ◌∷◌, ◌++◌}
use lib.Dec.{ltb}
use lib.ListN.{length, get_or, length-append, get_or-append}
use borrow.Author.Tests.{ltb-true, ltb-false}
use Rattle.text_decimals_rules.specs.Decimals.{digit, decimal, told}
use Rattle.text_decimals_rules.proofs.Digits.{decimal-one, decimal-more}

-- by the two cases of a number: below ten, and else by its tenth
by-tenths : (P : ℕ → Type 0) → ((n : ℕ) → n < 10 → P n) → ((n : ℕ) → 10 ≤ n → P (n / 10) → P n) → (n : ℕ) → P n
by-tenths P one more n = within n n (omega arith)
  where
    within : (k n : ℕ) → n ≤ k → P n
    within zero n h = one n (omega arith)
    within (suc k) n h = go (ltb n 10) refl (λ m a. within k m a)
      where
        go : (t : Bool) → ltb n 10 ≡ t → ((m : ℕ) → m ≤ k → P m) → P n
        go true e ih = one n (ltb-true n 10 e)
        go false e ih = let l : 10 ≤ n = ltb-false n 10 e in more n l (ih (n / 10) (omega arith))

told-append : (n : ℕ) (xs ys : List ℕ) → told n (xs ++ ys) ≡ told (told n xs) ys
unfolding told
told-append n [] ys = refl
told-append n (x ∷ xs) ys = told-append (10 * n + (x - 48)) xs ys

-- the digits tell the number
pub decimal-told : (n : ℕ) → told 0 (decimal n) ≡ n
unfolding told
decimal-told = by-tenths (λ n. told 0 (decimal n) ≡ n) one more
  where
    one : (n : ℕ) → n < 10 → told 0 (decimal n) ≡ n
    one n h = ap (told 0) (decimal-one n h) ∙ omega arith

    last : (n m : ℕ) → m ≡ n / 10 → told m (digit (n % 10) ∷ []) ≡ n
    last n m e = omega arith

    more : (n : ℕ) → 10 ≤ n → told 0 (decimal (n / 10)) ≡ n / 10 → told 0 (decimal n) ≡ n
    more n h ih = ap (told 0) (decimal-more n h) ∙ (told-append 0 (decimal (n / 10)) (digit (n % 10) ∷ []) ∙ last n (told 0 (decimal (n / 10))) ih)

-- there is one at least
pub decimal-some : (n : ℕ) → 1 ≤ length (decimal n)
decimal-some = by-tenths (λ n. 1 ≤ length (decimal n)) (λ n h. omega (arith, ap length (decimal-one n h)))
    (λ n h ih. omega (arith, ap length (decimal-more n h), length-append (decimal (n / 10)) (digit (n % 10) ∷ [])))

-- the first is not zero, but for 0 itself
pub decimal-front : (n : ℕ) → 1 ≤ n → digit 1 ≤ get_or (decimal n) 0 0
decimal-front = by-tenths (λ n. 1 ≤ n → digit 1 ≤ get_or (decimal n) 0 0) (λ n h p. omega (arith, ap (λ (l : List ℕ). get_or l 0 0) (decimal-one n h)))
    (λ n h ih p. (let m = ih (omega arith) in
    omega (arith, ap (λ (l : List ℕ). get_or l 0 0) (decimal-more n h), get_or-append (decimal (n / 10)) (digit (n % 10) ∷ []) 0 0 (decimal-some (n / 10)))))

-- a number below a power of ten has no more digits than that power has zeros
pub decimal-length : (k n : ℕ) → n < 10 ^ suc k → length (decimal n) ≤ suc k
decimal-length zero n h = omega (arith, ap length (decimal-one n h))
decimal-length (suc k) n h = go (ltb n 10) refl (λ m a. decimal-length k m a)
  where
    go : (t : Bool) → ltb n 10 ≡ t → ((m : ℕ) → m < 10 ^ suc k → length (decimal m) ≤ suc k) → length (decimal n) ≤ suc (suc k)
    go true e ih = omega (arith, ap length (decimal-one n (ltb-true n 10 e)))
    go false e ih =
        let l : 10 ≤ n = ltb-false n 10 e in
        let p : 10 ^ suc (suc k) ≡ 10 ^ suc k * 10 = pow-suc 10 (suc k) in
        let i : length (decimal (n / 10)) ≤ suc k = ih (n / 10) (omega arith) in
        omega (arith, ap length (decimal-more n l), length-append (decimal (n / 10)) (digit (n % 10) ∷ []))
