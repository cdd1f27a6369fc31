-- The bytes of a number in decimal digits are none below the digit 0: so no tab and no LF is among them.
use Prim.Native.Nat.{ℕ, zero, suc, ◌+◌, ◌/◌, ◌%◌, ◌≤◌, ◌<◌}
use native.Mathlib.Omega.{arith}
use mathlib.Core.Path.{◌≡◌, refl}
use mathlib.Core.Bool.{Bool, true, false}
use mathlib.Core.List.{List, [], ◌∷◌, ◌++◌}
use lib.Dec.{ltb, eqb}
use borrow.Author.Tests.{ne_eqb}
use Rattle.base_readers.specs.Texts.{one_of}
use Rattle.text_decimals_rules.specs.Decimals.{digit, digits, decimal}

-- bytes from the digit 0 up
pub data Digits : List ℕ → Type 0 where
  none : Digits []
  more : {x : ℕ} {xs : List ℕ} → 48 ≤ x → Digits xs → Digits (x ∷ xs)

digits_append : {xs ys : List ℕ} → Digits xs → Digits ys → Digits (xs ++ ys)
digits_append none b = b
digits_append (more h a) b = more h (digits_append a b)

one : (n : ℕ) → Digits (digit n ∷ [])
one n = let h : 48 ≤ 48 + n = omega arith in more h none

digits_are : (k n : ℕ) → Digits (digits k n)
unfolding digits
digits_are zero n = one n
digits_are (suc k) n = go (ltb n 10) refl (digits_are k (n / 10))
  where
    go : (t : Bool) → ltb n 10 ≡ t → Digits (digits k (n / 10)) → Digits (digits (suc k) n)
    go true e ih = rw (digits, e) (one n)
    go false e ih = rw (digits, e) (digits_append ih (one (n % 10)))

pub decimal-digits : (n : ℕ) → Digits (decimal n)
unfolding decimal
decimal-digits n = digits_are n n

-- a byte below the digit 0, such as tab (9) and LF (10), stands among digits and what follows them only where it stands in what follows
pub digits-lack : (b : ℕ) → b < 48 → {xs : List ℕ} (rest : List ℕ) → Digits xs → one_of (xs ++ rest) b ≡ one_of rest b
unfolding one_of
digits-lack b l rest none = refl
digits-lack b l rest (more {x} {xs} h d) = let e : eqb b x ≡ false = ne_eqb b x (λ z. omega arith) in rw e (digits-lack b l rest d)
