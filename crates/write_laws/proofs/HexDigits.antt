-- The number of an upper-case hex digit, by the tests of the code that reads one.
use Prim.Native.Nat.{ℕ, ◌+◌, ◌-◌, ◌≤◌, ◌<◌}
use native.Mathlib.Omega.{arith}
use mathlib.Core.Path.{◌≡◌, refl, ◌∙◌}
use mathlib.Core.Bool.{Bool, true, false, cond, ◌&&◌, ◌||◌}
use lib.Dec.{leb}
use borrow.Author.Tests.{le-leb, lt-leb, leb-true}
use Rattle.base_sequences.proofs.Booleans.{and_left, and_right, and_none}
use Rattle.base_readers.specs.Texts.{within}
use Rattle.write_rules.specs.Entries.{is_hex, hex_value, hex_or}

pub hex-below : (b : ℕ) → b < 48 → 16 ≡ hex_or b
unfolding hex_or is_hex within
hex-below b h = let o : b < 65 = omega arith in rw (lt-leb 48 b h, lt-leb 65 b o)

pub hex-digit : (b : ℕ) → 48 ≤ b → b ≤ 57 → b - 48 ≡ hex_or b
unfolding hex_or is_hex within hex_value
hex-digit b h k = rw (le-leb 48 b h, le-leb b 57 k)

pub hex-between : (b : ℕ) → 57 < b → b < 65 → 16 ≡ hex_or b
unfolding hex_or is_hex within
hex-between b h k = rw (lt-leb b 57 h, lt-leb 65 b k, and_none (leb 48 b))

pub hex-letter : (b : ℕ) → 57 < b → 65 ≤ b → b ≤ 70 → b - 55 ≡ hex_or b
unfolding hex_or is_hex within hex_value
hex-letter b h k l = let e : b - 55 ≡ b - 65 + 10 = omega arith in rw (lt-leb b 57 h, le-leb 65 b k, le-leb b 70 l, and_none (leb 48 b)) e

pub hex-above : (b : ℕ) → 57 < b → 70 < b → 16 ≡ hex_or b
unfolding hex_or is_hex within
hex-above b h k = rw (lt-leb b 57 h, lt-leb b 70 k, and_none (leb 48 b), and_none (leb 65 b))

-- a digit is below 16
pub hex-small : (b : ℕ) → is_hex b ≡ true → hex_value b < 16
unfolding is_hex within hex_value
hex-small b e = go (leb b 57) refl
  where
    pick : (a c : Bool) → (a && false || c) ≡ true → c ≡ true
    pick true c e = e
    pick false c e = e

    go : (t : Bool) → leb b 57 ≡ t → cond (leb b 57) (b - 48) (b - 65 + 10) < 16
    go true q = rw q (omega (arith, leb-true b 57 q))
    go false q =
        let f : (leb 65 b && leb b 70) ≡ true = pick (leb 48 b) (leb 65 b && leb b 70) (rw q at e) in
        rw q (omega (arith, leb-true 65 b (and_left (leb 65 b) (leb b 70) f), leb-true b 70 (and_right (leb 65 b) (leb b 70) f)))

module _ (b h : ℕ) (e : h ≡ hex_or b) where
  pub hex-not : 15 < h → is_hex b ≡ false
  unfolding hex_or
  hex-not l = go (is_hex b) refl
    where
      go : (t : Bool) → is_hex b ≡ t → is_hex b ≡ false
      go true q = absurd (let z : h ≡ hex_value b = e ∙ rw q in omega (arith, hex-small b q))
      go false q = q

  -- what is below 16 is a digit's number
  pub hex-yes : h ≤ 15 → (is_hex b ≡ true) × (h ≡ hex_value b)
  unfolding hex_or
  hex-yes l = go (is_hex b) refl
    where
      go : (t : Bool) → is_hex b ≡ t → (is_hex b ≡ true) × (h ≡ hex_value b)
      go true q = (q, e ∙ rw q)
      go false q = absurd (let z : h ≡ 16 = e ∙ rw q in omega arith)
