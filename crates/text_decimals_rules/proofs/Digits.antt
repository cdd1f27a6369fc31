-- The digits of a number one at a time: one digit below ten, and else those of its tenth and its last.
use Prim.Native.Nat.{ℕ, zero, suc, ◌/◌, ◌%◌, ◌≤◌, ◌<◌}
use native.Mathlib.Omega.{arith}
use mathlib.Core.Path.{◌≡◌, refl, sym, ap, ◌∙◌}
use mathlib.Core.Bool.{Bool, true, false}
use mathlib.Core.List.{List, [], ◌∷◌, ◌++◌}
use lib.Dec.{ltb}
use borrow.Author.Tests.{lt-ltb, le-ltb, ltb-true, ltb-false}
use Rattle.text_decimals_rules.specs.Decimals.{digit, digits, decimal}

-- ==== where there are digits enough, how many is all one

low : (k n : ℕ) → n < 10 → digits k n ≡ digit n ∷ []
unfolding digits
low zero n h = refl
low (suc k) n h = rw (lt-ltb n 10 h, digits)

high : (k n : ℕ) → 10 ≤ n → digits (suc k) n ≡ digits k (n / 10) ++ (digit (n % 10) ∷ [])
unfolding digits
high k n h = rw (le-ltb n 10 h, digits)

same : (k j n : ℕ) → n ≤ k → n ≤ j → digits k n ≡ digits j n
same zero j n h i = low zero n (omega arith) ∙ sym (low j n (omega arith))
same (suc k) zero n h i = low (suc k) n (omega arith) ∙ sym (low zero n (omega arith))
same (suc k) (suc j) n h i = go (ltb n 10) refl (λ m a b. same k j m a b)
  where
    go : (t : Bool) → ltb n 10 ≡ t → ((m : ℕ) → m ≤ k → m ≤ j → digits k m ≡ digits j m) → digits (suc k) n ≡ digits (suc j) n
    go true e ih = low (suc k) n (ltb-true n 10 e) ∙ sym (low (suc j) n (ltb-true n 10 e))
    go false e ih =
        let l : 10 ≤ n = ltb-false n 10 e in
        high k n l ∙ (ap (λ (d : List ℕ). d ++ (digit (n % 10) ∷ [])) (ih (n / 10) (omega arith) (omega arith)) ∙ sym (high j n l))

-- ==== the two cases

pub decimal-one : (n : ℕ) → n < 10 → decimal n ≡ digit n ∷ []
unfolding decimal
decimal-one n h = low n n h

pub decimal-more : (n : ℕ) → 10 ≤ n → decimal n ≡ decimal (n / 10) ++ (digit (n % 10) ∷ [])
unfolding decimal
decimal-more zero h = absurd (omega arith)
decimal-more (suc k) h = high k (suc k) h ∙ ap (λ (d : List ℕ). d ++ (digit (suc k % 10) ∷ [])) (same k (suc k / 10) (suc k / 10) (omega arith) (omega arith))
