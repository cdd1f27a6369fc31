-- Tests joined by "or", and the bytes of lists that are joined, cut, or have one more.
use Prim.Native.Nat.{ℕ}
use mathlib.Core.Path.{◌≡◌, refl, sym, ap, ◌∙◌}
use mathlib.Core.Bool.{Bool, true, false, ◌&&◌, ◌||◌}
use mathlib.Core.List.{List, [], ◌∷◌, ◌++◌}
use mathlib.Core.Option.{none, some}
use native.Mathlib.Omega.{arith}
use lib.Dec.{eqb, ltb}
use lib.ListN.{take, drop, take-append-drop}
use borrow.Author.Tests.{ne_eqb}
use Rattle.base_sequences.proofs.Booleans.{no_true}
use Rattle.base_readers.specs.Texts.{one_of}
use Rattle.punycode_rules.specs.Punycode.{insert, basic}

pub absurd-some : {P : Type 0} (u : List ℕ) → none ≡ some u → P
absurd-some u e = absurd (let z : ◌≡◌ {A = ℕ} 0 1 = cc in omega arith)

pub or-false-left : (a b : Bool) → (a || b) ≡ false → a ≡ false
or-false-left true b e = absurd (no_true (sym e))
or-false-left false b e = refl

pub or-false-right : (a b : Bool) → (a || b) ≡ false → b ≡ false
or-false-right true b e = absurd (no_true (sym e))
or-false-right false b e = e

pub or-both : (a b : Bool) → a ≡ false → b ≡ false → (a || b) ≡ false
or-both a b e f = rw (e, f)

pub and-false-right : (a b : Bool) → (a && b) ≡ false → a ≡ true → b ≡ false
and-false-right true b e h = e
and-false-right false b e h = absurd (no_true h)

pub and-false-left : (a b : Bool) → (a && b) ≡ false → b ≡ true → a ≡ false
and-false-left true b e h = absurd (no_true (sym e ∙ h))
and-false-left false b e h = refl

-- ==== a byte that does not stand in a list

pub one-append : (a b : List ℕ) (c : ℕ) → one_of (a ++ b) c ≡ (one_of a c || one_of b c)
unfolding one_of
one-append [] b c = refl
one-append (x ∷ a) b c = go (eqb c x) (one-append a b c)
  where
    go : (t : Bool) → one_of (a ++ b) c ≡ (one_of a c || one_of b c) → (t || one_of (a ++ b) c) ≡ ((t || one_of a c) || one_of b c)
    go true e = refl
    go false e = e

module _ (c : ℕ) where
  pub lacks-append : (a b : List ℕ) → one_of a c ≡ false → one_of b c ≡ false → one_of (a ++ b) c ≡ false
  lacks-append a b h g = one-append a b c ∙ or-both (one_of a c) (one_of b c) h g

  module _ (n : ℕ) (a : List ℕ) (h : one_of a c ≡ false) where
    parts : (one_of (take n a) c || one_of (drop n a) c) ≡ false
    parts = sym (one-append (take n a) (drop n a) c) ∙ (ap (λ (l : List ℕ). one_of l c) (take-append-drop n a) ∙ h)

    pub lacks-take : one_of (take n a) c ≡ false
    lacks-take = or-false-left (one_of (take n a) c) (one_of (drop n a) c) parts

    pub lacks-drop : one_of (drop n a) c ≡ false
    lacks-drop = or-false-right (one_of (take n a) c) (one_of (drop n a) c) parts

  pub lacks-cons : (x : ℕ) (a : List ℕ) → eqb c x ≡ false → one_of a c ≡ false → one_of (x ∷ a) c ≡ false
  unfolding one_of
  lacks-cons x a h g = or-both (eqb c x) (one_of a c) h g

  pub lacks-first : (x : ℕ) (a : List ℕ) → one_of (x ∷ a) c ≡ false → eqb c x ≡ false
  unfolding one_of
  lacks-first x a h = or-false-left (eqb c x) (one_of a c) h

  pub lacks_rest : (x : ℕ) (a : List ℕ) → one_of (x ∷ a) c ≡ false → one_of a c ≡ false
  unfolding one_of
  lacks_rest x a h = or-false-right (eqb c x) (one_of a c) h

  pub lacks-insert : (at x : ℕ) (a : List ℕ) → (c ≡ x → ⊥) → one_of a c ≡ false → one_of (insert at x a) c ≡ false
  lacks-insert at x a n h = lacks-append (take at a) (x ∷ drop at a) (lacks-take at a h) (lacks-cons x (drop at a) (ne_eqb c x n) (lacks-drop at a h))

-- ==== lists of ASCII

pub basic-append : (a b : List ℕ) → basic (a ++ b) ≡ (basic a && basic b)
unfolding basic
basic-append [] b = refl
basic-append (x ∷ a) b = go (ltb x 128) (basic-append a b)
  where
    go : (t : Bool) → basic (a ++ b) ≡ (basic a && basic b) → (t && basic (a ++ b)) ≡ ((t && basic a) && basic b)
    go true e = e
    go false e = refl

-- a list that is not of ASCII, and whose front is, has a rest that is not
pub basic-behind : (n : ℕ) (a : List ℕ) → basic a ≡ false → basic (take n a) ≡ true → basic (drop n a) ≡ false
basic-behind n a h g = and-false-right (basic (take n a)) (basic (drop n a)) (sym (basic-append (take n a) (drop n a)) ∙ (ap basic (take-append-drop n a) ∙ h)) g
