-- The escape of a text: byte by byte, and of two texts one after the other; texts stored one after the other.
use Prim.Native.Nat.{ℕ, ◌+◌, ◌-◌, ◌/◌, ◌%◌, ◌≤◌, ◌<◌, ◌^◌}
use native.Mathlib.Omega.{arith}
use mathlib.Core.Path.{◌≡◌, refl, sym, ◌∙◌}
use mathlib.Core.Bool.{Bool, true, false, not}
use mathlib.Core.List.{List, [], ◌∷◌, ◌++◌, append_assoc}
use lib.Dec.{eqb}
use lib.ListN.{length}
use borrow.Author.Tests.{le-leb, lt-leb}
use Rattle.base_sequences.specs.Stored.{Clipped}
use Rattle.base_sequences.proofs.Clips.{clipped-long, clipped-then}
use Rattle.base_readers.specs.Texts.{within}
use Rattle.lexis_rules.specs.Bytes.{in_class}
use Rattle.report_rules.specs.Report.{hex_digit, plain, escape}

-- ==== texts stored one after the other

pub clipped-two : {o₀ o₁ o₂ x y : List ℕ} {to i j : ℕ} → length o₀ < 2 ^ 64 → Clipped o₀ to x o₁ i → Clipped o₁ i y o₂ j → Clipped o₀ to (x ++ y) o₂ j
clipped-two h u v = clipped-then (omega arith) u v

pub clipped-three : {o₀ o₁ o₂ o₃ x y z : List ℕ} {to i j k : ℕ} → length o₀ < 2 ^ 64
    → Clipped o₀ to x o₁ i → Clipped o₁ i y o₂ j → Clipped o₂ j z o₃ k → Clipped o₀ to (x ++ (y ++ z)) o₃ k
clipped-three h u v w = clipped-two h u (clipped-two (omega (arith, h, clipped-long u)) v w)

pub clipped-four : {o₀ o₁ o₂ o₃ o₄ x y z t : List ℕ} {to i j k l : ℕ} → length o₀ < 2 ^ 64 → Clipped o₀ to x o₁ i → Clipped o₁ i y o₂ j
    → Clipped o₂ j z o₃ k → Clipped o₃ k t o₄ l → Clipped o₀ to (x ++ (y ++ (z ++ t))) o₄ l
clipped-four h u v w p = clipped-two h u (clipped-three (omega (arith, h, clipped-long u)) v w p)

-- ==== one byte, and texts one after the other

-- by the tests of the code
module _ (b : ℕ) where
  pub plain-low : b < 33 → false ≡ plain b
  unfolding plain in_class within
  plain-low h = rw (lt-leb 33 b h)

  module _ (l : 33 ≤ b) where
    pub plain-high : 126 < b → false ≡ plain b
    unfolding plain in_class within
    plain-high h = rw (le-leb 33 b l, lt-leb b 126 h)

    pub plain-visible : b ≤ 126 → not (eqb b 37) ≡ plain b
    unfolding plain in_class within
    plain-visible h = rw (le-leb 33 b l, le-leb b 126 h)

-- hex digits below ten, and from ten on
pub digit_low : (n : ℕ) → n < 10 → 48 + n ≡ hex_digit n
digit_low n h = let o : n ≤ 9 = omega arith in rw (le-leb n 9 o)

pub digit-high : (n : ℕ) → 10 ≤ n → 65 + (n - 10) ≡ hex_digit n
digit-high n h = let o : 9 < n = omega arith in rw (lt-leb n 9 o)

-- a byte in front: itself, or the percent sign and two digits
pub escape-plain : (x : ℕ) (xs : List ℕ) → plain x ≡ true → escape (x ∷ xs) ≡ x ∷ escape xs
unfolding escape
escape-plain x xs e = rw (escape, e)

escape-other : (x : ℕ) (xs : List ℕ) → plain x ≡ false → escape (x ∷ xs) ≡ 37 ∷ hex_digit (x / 16) ∷ hex_digit (x % 16) ∷ escape xs
unfolding escape
escape-other x xs e = rw (escape, e)

pub escape-none : escape [] ≡ []
unfolding escape
escape-none = refl

pub escape-cons : (x : ℕ) (xs : List ℕ) → escape (x ∷ xs) ≡ escape (x ∷ []) ++ escape xs
unfolding escape
escape-cons x xs = go (plain x) refl
  where
    go : (b : Bool) → plain x ≡ b → escape (x ∷ xs) ≡ escape (x ∷ []) ++ escape xs
    go true e = rw (escape-plain x xs e, escape-plain x [] e)
    go false e = rw (escape-other x xs e, escape-other x [] e)

pub escape-append : (xs ys : List ℕ) → escape (xs ++ ys) ≡ escape xs ++ escape ys
unfolding escape
escape-append [] ys = refl
escape-append (x ∷ xs) ys =
    escape-cons x (xs ++ ys) ∙ rw (escape-cons x xs, escape-append xs ys) (sym (append_assoc (escape (x ∷ [])) (escape xs) (escape ys)))

pub escape-sign : (xs : List ℕ) → escape (64 ∷ xs) ≡ 64 ∷ escape xs
unfolding plain in_class within
escape-sign xs = escape-plain 64 xs refl

-- a byte that stands for itself is written, or the percent sign and two digits
module _ (b : ℕ) (r : Bool) (e : r ≡ plain b) (to : ℕ) (o₀ o₁ : List ℕ) (n : ℕ) where
  pub plain-put : r ≡ true → Clipped o₀ to (b ∷ []) o₁ n → Clipped o₀ to (escape (b ∷ [])) o₁ n
  plain-put t w = rw (escape-plain b [] (sym e ∙ t), escape-none) w

  pub other-put : r ≡ false → b < 256 → length o₀ < 2 ^ 64 → Clipped o₀ to (37 ∷ []) o₁ n → (x : ℕ) → x ≡ hex_digit (b / 16 % 16) → (o₂ : List ℕ) (m : ℕ)
      → Clipped o₁ n (x ∷ []) o₂ m → (y : ℕ) → y ≡ hex_digit (b % 16) → (o₃ : List ℕ) (k : ℕ) → Clipped o₂ m (y ∷ []) o₃ k
      → Clipped o₀ to (escape (b ∷ [])) o₃ k
  other-put f l h u x p o₂ m v y q o₃ k w =
      let d : b / 16 % 16 ≡ b / 16 = omega arith in
      rw (escape-other b [] (sym e ∙ f), escape-none, ← d, ← p, ← q) (clipped-three h u v w)
