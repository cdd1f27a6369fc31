-- The adaptation of the bias: the turns that the definition is given are enough, and how large the bias becomes.
use Prim.Native.Nat.{ℕ, zero, suc, ◌+◌, ◌*◌, ◌/◌, ◌≤◌, ◌<◌}
use native.Mathlib.Nat.{div-le_of_le-mul, div-le_self}
use native.Mathlib.Omega.{arith}
use mathlib.Core.Path.{◌≡◌, refl, sym, ◌∙◌}
use mathlib.Core.Bool.{Bool, true, false}
use lib.Dec.{ltb}
use borrow.Author.Tests.{ltb-true, lt-ltb, le-ltb}
use Rattle.punycode_rules.specs.Punycode.{scaled, adapt}

-- as many turns as delta are as good as more
scaled-enough : (f d k : ℕ) → d ≤ f → (g : ℕ) → d ≤ g → scaled f k d ≡ scaled g k d
unfolding scaled
scaled-enough zero d k h zero l = refl
scaled-enough zero d k h (suc g) l = rw (scaled, le-ltb 455 d (omega arith))
scaled-enough (suc f) d k h zero l = rw (scaled, le-ltb 455 d (omega arith))
scaled-enough (suc f) d k h (suc g) l = go (ltb 455 d) refl (scaled-enough f (d / 35) (k + 36))
  where
    go : (t : Bool) → ltb 455 d ≡ t → (d / 35 ≤ f → (g : ℕ) → d / 35 ≤ g → scaled f (k + 36) (d / 35) ≡ scaled g (k + 36) (d / 35)) → scaled (suc f) k d ≡ scaled (suc g) k d
    go true t ih = let q : 455 < d = ltb-true _ _ t in rw (scaled, t) (ih (omega arith) g (omega arith))
    go false t ih = rw (scaled, t)

-- RFC 3492, section 6.1: a turn of the loop, and its end
pub adapt-turn : (d k : ℕ) → 455 < d → scaled d k d ≡ scaled (d / 35) (k + 36) (d / 35)
unfolding scaled
adapt-turn zero k h = absurd (omega arith)
adapt-turn (suc d) k h = rw (scaled, lt-ltb 455 (suc d) h) (scaled-enough d (suc d / 35) (k + 36) (omega arith) (suc d / 35) (omega arith))

pub adapt-end : (d k : ℕ) → d ≤ 455 → scaled d k d ≡ k + 36 * d / (d + 38)
unfolding scaled
adapt-end zero k h = refl
adapt-end (suc d) k h = rw (scaled, le-ltb 455 (suc d) h)

pub share : (d : ℕ) → 36 * d / (d + 38) ≤ 36
share d = div-le_of_le-mul (d + 38) (omega arith)

scaled-bound : (f d k : ℕ) → scaled f k d ≤ k + 36 * f + 36
unfolding scaled
scaled-bound zero d k = omega (arith, share d)
scaled-bound (suc f) d k = go (ltb 455 d) refl (scaled-bound f (d / 35) (k + 36))
  where
    go : (t : Bool) → ltb 455 d ≡ t → scaled f (k + 36) (d / 35) ≤ k + 36 + 36 * f + 36 → scaled (suc f) k d ≤ k + 36 * suc f + 36
    go true t ih = rw (scaled, t) (omega arith)
    go false t ih = rw (scaled, t) (omega (arith, share d))

-- ==== the loop of the code

pub record Turns (delta d k : ℕ) : Type 0 where
  pub same : scaled d k d ≡ scaled delta 0 delta
  pub bound : k + 36 * d ≤ 36 * delta

pub turns-start : (delta : ℕ) → Turns delta delta 0
turns-start delta = record { same = refl; bound = omega arith }

pub turns-on : (delta d k : ℕ) → Turns delta d k → 455 < d → Turns delta (d / 35) (k + 36)
turns-on delta d k t h = record { same = sym (adapt-turn d k h) ∙ t.same; bound = omega (arith, t.bound) }

pub turns-end : (delta d k : ℕ) → Turns delta d k → d ≤ 455 → k + 36 * d / (d + 38) ≡ scaled delta 0 delta
turns-end delta d k t h = sym (adapt-end d k h) ∙ t.same

-- ==== the whole

pub adapt-first : (delta points : ℕ) → scaled (delta / 700 + delta / 700 / points) 0 (delta / 700 + delta / 700 / points) ≡ adapt delta points true
unfolding adapt
adapt-first delta points = refl

pub adapt-later : (delta points : ℕ) → scaled (delta / 2 + delta / 2 / points) 0 (delta / 2 + delta / 2 / points) ≡ adapt delta points false
unfolding adapt
adapt-later delta points = refl

pub adapt-bound : (delta points : ℕ) (first : Bool) → adapt delta points first ≤ 72 * delta + 36
unfolding adapt
adapt-bound delta points first = go first
  where
    part : (d : ℕ) → d ≤ delta → scaled (d + d / points) 0 (d + d / points) ≤ 72 * delta + 36
    part d h = omega (arith, scaled-bound (d + d / points) (d + d / points) 0, div-le_self d points)

    go : (t : Bool) → adapt delta points t ≤ 72 * delta + 36
    go true = part (delta / 700) (omega arith)
    go false = part (delta / 2) (omega arith)
