-- The order of names: `compared` says `Equal` of equal names only and is an order. By induction on the names, case by case on the first
-- bytes.
use Prim.Native.Nat.{ℕ, ◌≤◌, ◌<◌}
use native.Mathlib.Omega.{arith}
use mathlib.Core.Path.{◌≡◌, refl, sym, ap, ◌∙◌}
use mathlib.Core.Bool.{Bool, true, false}
use mathlib.Core.List.{List, [], ◌∷◌}
use borrow.Author.Tests.{ltb-true, ltb-false, lt-ltb, le-ltb, eqb-true, eq-eqb, ne_eqb}
use lib.Dec.{eqb, ltb}
use Rattle.base_sequences.proofs.Booleans.{no_true, and_left, and_right}
use Rattle.base_readers.specs.Texts.{same}
use Rattle.std.specs.declared.cmp.Ordering.{Ordering}
use Rattle.std.specs.declared.cmp.Ordering.TheVariants.{Less, Equal, Greater}
use Rattle.std.specs.Ordering.{is_lt, is_eq, ordering_reverse}
use Rattle.tag_names.specs.Names.{compared}

-- ==== two names

-- how two bytes stand to each other
data Sides (x y : ℕ) : Type 0 where
  less : x < y → Sides x y
  equal : x ≡ y → Sides x y
  more : y < x → Sides x y

sides : (x y : ℕ) → Sides x y
sides x y = go (ltb x y) refl (ltb y x) refl
  where
    go : (a : Bool) → ltb x y ≡ a → (b : Bool) → ltb y x ≡ b → Sides x y
    go true e b f = less (ltb-true x y e)
    go false e true f = more (ltb-true y x f)
    go false e false f = let l = ltb-false x y e in let m = ltb-false y x f in equal (omega (arith, l, m))

module _ (x y : ℕ) (xs ys : List ℕ) where
  first-less : x < y → compared (x ∷ xs) (y ∷ ys) ≡ Less
  unfolding compared
  first-less h = rw (compared, lt-ltb x y h)

  first_more : y < x → compared (x ∷ xs) (y ∷ ys) ≡ Greater
  unfolding compared
  first_more h = let l : y ≤ x = omega arith in rw (compared, le-ltb x y l, lt-ltb y x h)

  first-equal : x ≡ y → compared (x ∷ xs) (y ∷ ys) ≡ compared xs ys
  unfolding compared
  first-equal e = let l : y ≤ x = omega arith in let m : x ≤ y = omega arith in rw (compared, le-ltb x y l, le-ltb y x m)

-- two names are the same exactly where they are said to be
pub same-compared : (a b : List ℕ) → same a b ≡ is_eq (compared a b)
unfolding same compared
same-compared [] [] = refl
same-compared [] (y ∷ ys) = refl
same-compared (x ∷ xs) [] = refl
same-compared (x ∷ xs) (y ∷ ys) = go (sides x y) (same-compared xs ys)
  where
    go : Sides x y → same xs ys ≡ is_eq (compared xs ys) → same (x ∷ xs) (y ∷ ys) ≡ is_eq (compared (x ∷ xs) (y ∷ ys))
    go (less h) ih = let n : eqb x y ≡ false = ne_eqb x y (λ e. omega arith) in rw (first-less x y xs ys h, n)
    go (equal e) ih = rw (first-equal x y xs ys e, eq-eqb x y e) ih
    go (more h) ih = let n : eqb x y ≡ false = ne_eqb x y (λ e. omega arith) in rw (first_more x y xs ys h, n)

pub compared-flip : (a b : List ℕ) → compared b a ≡ ordering_reverse (compared a b)
unfolding compared
compared-flip [] [] = refl
compared-flip [] (y ∷ ys) = refl
compared-flip (x ∷ xs) [] = refl
compared-flip (x ∷ xs) (y ∷ ys) = go (sides x y) (compared-flip xs ys)
  where
    go : Sides x y → compared ys xs ≡ ordering_reverse (compared xs ys) → compared (y ∷ ys) (x ∷ xs) ≡ ordering_reverse (compared (x ∷ xs) (y ∷ ys))
    go (less h) ih = rw (first-less x y xs ys h, first_more y x ys xs h)
    go (equal e) ih = rw (first-equal x y xs ys e, first-equal y x ys xs (sym e)) ih
    go (more h) ih = rw (first_more x y xs ys h, first-less y x ys xs h)

pub same-is : (a b : List ℕ) → same a b ≡ true → a ≡ b
unfolding same
same-is [] [] e = refl
same-is [] (y ∷ ys) e = absurd (no_true e)
same-is (x ∷ xs) [] e = absurd (no_true e)
same-is (x ∷ xs) (y ∷ ys) e =
    let h : x ≡ y = eqb-true x y (and_left (eqb x y) (same xs ys) e) in
    let t : xs ≡ ys = same-is xs ys (and_right (eqb x y) (same xs ys) e) in
    rw (h, t)

pub same-flip : (a b : List ℕ) → same a b ≡ same b a
same-flip a b = same-compared a b ∙ (go (compared a b) ∙ ap is_eq (sym (compared-flip a b))) ∙ sym (same-compared b a)
  where
    go : (o : Ordering) → is_eq o ≡ is_eq (ordering_reverse o)
    go Less = refl
    go Equal = refl
    go Greater = refl

pub compared_same : (a b : List ℕ) → compared a b ≡ Equal → a ≡ b
compared_same a b e = same-is a b (same-compared a b ∙ ap is_eq e)

not-before : Equal ≡ Less → ⊥
not-before e = no_true (ap is_lt e)

after-before : Greater ≡ Less → ⊥
after-before e = no_true (ap is_lt e)

pub compared-trans : (a b c : List ℕ) → compared a b ≡ Less → compared b c ≡ Less → compared a c ≡ Less
unfolding compared
compared-trans [] [] c e f = absurd (not-before e)
compared-trans [] (y ∷ ys) [] e f = absurd (after-before f)
compared-trans [] (y ∷ ys) (z ∷ zs) e f = refl
compared-trans (x ∷ xs) [] c e f = absurd (after-before e)
compared-trans (x ∷ xs) (y ∷ ys) [] e f = absurd (after-before f)
compared-trans (x ∷ xs) (y ∷ ys) (z ∷ zs) e f = go (sides x y) (sides y z) (compared-trans xs ys zs)
  where
    go : Sides x y → Sides y z → (compared xs ys ≡ Less → compared ys zs ≡ Less → compared xs zs ≡ Less) → compared (x ∷ xs) (z ∷ zs) ≡ Less
    go (more h) q ih = absurd (after-before (sym (first_more x y xs ys h) ∙ e))
    go (less h) (more k) ih = absurd (after-before (sym (first_more y z ys zs k) ∙ f))
    go (less h) (less k) ih = first-less x z xs zs (omega arith)
    go (less h) (equal k) ih = first-less x z xs zs (omega arith)
    go (equal h) (more k) ih = absurd (after-before (sym (first_more y z ys zs k) ∙ f))
    go (equal h) (less k) ih = first-less x z xs zs (omega arith)
    go (equal h) (equal k) ih = first-equal x z xs zs (h ∙ k) ∙ ih (sym (first-equal x y xs ys h) ∙ e) (sym (first-equal y z ys zs k) ∙ f)
