-- How the code keeps a class says which bytes are of it, by induction on the binary digits.
use Prim.Native.Nat.{ℕ, zero, suc, ◌+◌, ◌-◌, ◌*◌, ◌/◌, ◌%◌, ◌^◌, ◌≤◌, ◌<◌, zero-le, suc-le-suc}
use native.Mathlib.Nat.{add-zero, add-suc, suc-add, not-suc-le-zero, le_of_suc-le-suc, pow-suc, mul_comm, div-one, div-div-eq-div-mul, add-mul-div_left, add-mul-mod_self_left, mod-eq_of_lt}
use native.Mathlib.Omega.{arith}
use mathlib.Core.Path.{◌≡◌, refl, sym, ap, ◌∙◌}
use mathlib.Core.Bool.{Bool, true, false, cond}
use lib.Dec.{ltb, eqb}
use borrow.Author.Tests.{ltb-true, ltb-false, lt-ltb, le-ltb}
use Rattle.lexis_rules.specs.declared.Class.{Class}
use Rattle.lexis_classes.specs.declared.classes.Rows.{Rows}
use Rattle.lexis_rules.specs.Bytes.{in_class}
use Rattle.lexis_classes.specs.Internal.{bit, bits_of, rows_of, word_of}

-- the lowest binary digit, and the others
lowest : (t : Bool) (r : ℕ) → eqb ((bit t + 2 * r) % 2) 1 ≡ t
lowest true r = rw (add-mul-mod_self_left 1 2 r)
lowest false r = rw (add-mul-mod_self_left 0 2 r)

others : (t : Bool) (r : ℕ) → (bit t + 2 * r) / 2 ≡ r
others true r = add-mul-div_left 1 r (suc-le-suc zero-le) ∙ omega arith
others false r = add-mul-div_left 0 r (suc-le-suc zero-le) ∙ omega arith

-- the binary digit of a byte says whether it is of the class
pub bit_at : (c : ℕ → Bool) (n i k : ℕ) → k < n → eqb (bits_of c i n / 2 ^ k % 2) 1 ≡ c (i + k)
unfolding bits_of
bit_at c zero i k h = absurd (not-suc-le-zero h)
bit_at c (suc n) i zero h = rw (div-one, add-zero) (lowest (c i) (bits_of c (suc i) n))
bit_at c (suc n) i (suc k) h =
    let r = bits_of c (suc i) n in
    let e : 2 ^ suc k ≡ 2 * 2 ^ k = pow-suc 2 k ∙ mul_comm (2 ^ k) 2 in
    let d : (bit (c i) + 2 * r) / 2 ^ suc k ≡ r / 2 ^ k = rw (e, ← div-div-eq-div-mul (bit (c i) + 2 * r) 2 (2 ^ k), others (c i) r) in
    rw d (bit_at c n (suc i) k (le_of_suc-le-suc h) ∙ rw (add-suc, suc-add))

-- the binary digit of a byte in its word
digit-in : (c : ℕ → Bool) (b k : ℕ) → 64 * k ≤ b → b < 64 * k + 64 → eqb (bits_of c (64 * k) 64 / 2 ^ (b % 64) % 2) 1 ≡ c b
digit-in c b k l h =
    let x = b - 64 * k in
    let i : x + 64 * k ≡ b = omega arith in
    let j : 64 * k + x ≡ b = omega arith in
    let s : x < 64 = omega arith in
    let m : b % 64 ≡ x = ap (λ (n : ℕ). n % 64) (sym i) ∙ (add-mul-mod_self_left x 64 k ∙ mod-eq_of_lt s) in
    rw m (bit_at c 64 (64 * k) x s ∙ rw j)

-- the word that the code picks has the byte's digit
pub class-bit : (c : Class) (b w : ℕ) (r : Rows) → r ≡ rows_of c → w ≡ word_of r b → b < 256 → eqb (w / 2 ^ (b % 64) % 2) 1 ≡ in_class c b
class-bit c b w r e q h = rw (q, e) (first (ltb b 64) refl)
  where
    In : ℕ → Type 0
    In v = eqb (v / 2 ^ (b % 64) % 2) 1 ≡ in_class c b

    row : ℕ → ℕ
    row i = bits_of (in_class c) i 64

    third : (t : Bool) → 128 ≤ b → ltb b 192 ≡ t → In (cond t (row 128) (row 192))
    third true l u = digit-in (in_class c) b 2 l (ltb-true b 192 u)
    third false l u = digit-in (in_class c) b 3 (ltb-false b 192 u) h

    second : (t : Bool) → 64 ≤ b → ltb b 128 ≡ t → In (cond t (row 64) (cond (ltb b 192) (row 128) (row 192)))
    second true l u = digit-in (in_class c) b 1 l (ltb-true b 128 u)
    second false l u = third (ltb b 192) (ltb-false b 128 u) refl

    first : (t : Bool) → ltb b 64 ≡ t → In (cond t (row 0) (cond (ltb b 128) (row 64) (cond (ltb b 192) (row 128) (row 192))))
    first true u = digit-in (in_class c) b 0 zero-le (ltb-true b 64 u)
    first false u = second (ltb b 128) (ltb-false b 64 u) refl

-- by the tests of the code
module _ (r : Rows) (b : ℕ) where
  pub word_first : b < 64 → r.0 ≡ word_of r b
  word_first h = rw (lt-ltb b 64 h)

  module _ (l : 64 ≤ b) where
    pub word-second : b < 128 → r.1 ≡ word_of r b
    word-second h = rw (le-ltb b 64 l, lt-ltb b 128 h)

    module _ (m : 128 ≤ b) where
      pub word-third : b < 192 → r.2 ≡ word_of r b
      word-third h = rw (le-ltb b 64 l, le-ltb b 128 m, lt-ltb b 192 h)

      pub word-fourth : 192 ≤ b → r.3 ≡ word_of r b
      word-fourth h = rw (le-ltb b 64 l, le-ltb b 128 m, le-ltb b 192 h)
