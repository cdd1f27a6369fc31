-- Tests and their facts.
use Prim.Native.Nat.{ℕ, ◌≤◌}
use native.Mathlib.Omega.{arith}
use mathlib.Core.Path.{◌≡◌, refl, sym, ap, ◌∙◌}
use mathlib.Core.Bool.{Bool, true, false, not, cond, ◌&&◌, ◌||◌, beq}
use lib.Dec.{T}

pub no_true : false ≡ true → ⊥
no_true e = let o : ◌≡◌ {A = ℕ} 0 1 = ap (λ (b : Bool). cond b 1 0) e in omega arith

-- a test that is both
pub both : (b : Bool) → b ≡ false → b ≡ true → ⊥
both b f t = no_true (sym f ∙ t)

pub and_left : (a b : Bool) → (a && b) ≡ true → a ≡ true
and_left true b e = refl
and_left false b e = absurd (no_true e)

pub and_right : (a b : Bool) → (a && b) ≡ true → b ≡ true
and_right true b e = e
and_right false b e = absurd (no_true e)

pub and_none : (a : Bool) → (a && false) ≡ false
and_none true = refl
and_none false = refl

pub or_left : (a b : Bool) → a ≡ true → (a || b) ≡ true
or_left a b e = rw e

pub or_right : (a b : Bool) → b ≡ true → (a || b) ≡ true
or_right true b e = refl
or_right false b e = e

pub neither_left : (a b : Bool) → (a || b) ≡ false → a ≡ false
neither_left true b e = absurd (no_true (sym e))
neither_left false b e = refl

pub neither_right : (a b : Bool) → (a || b) ≡ false → b ≡ false
neither_right true b e = absurd (no_true (sym e))
neither_right false b e = e

pub or-none : (a : Bool) → (a || false) ≡ a
or-none true = refl
or-none false = refl

-- the converse of the kit's `not-true` and `not-false`
pub true-not : (a : Bool) → a ≡ false → not a ≡ true
true-not a e = rw e

pub false-not : (a : Bool) → a ≡ true → not a ≡ false
false-not a e = rw e

-- a choice is at most what each side is at most
pub cond-le : (t : Bool) (a b m : ℕ) → (t ≡ true → a ≤ m) → b ≤ m → cond t a b ≤ m
cond-le true a b m f g = f refl
cond-le false a b m f g = g

pub beq-eq : (a b : Bool) → T (beq a b) → a ≡ b
beq-eq true true t = refl
beq-eq true false t = absurd t
beq-eq false true t = absurd t
beq-eq false false t = refl

pub T-left : (a b : Bool) → T (a && b) → T a
T-left true b t = tt
T-left false b t = t

pub T-right : (a b : Bool) → T (a && b) → T b
T-right true b t = t
T-right false b t = absurd t
