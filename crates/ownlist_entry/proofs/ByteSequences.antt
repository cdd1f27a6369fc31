-- Sequences of UTF-8 and visible bytes, by the tests that the code makes in turn.
use Prim.Native.Nat.{ℕ, ◌≤◌, ◌<◌}
use mathlib.Core.Path.{◌≡◌, refl, sym}
use mathlib.Core.Bool.{Bool, true, false, cond, ◌&&◌, ◌||◌}
use mathlib.Core.List.{List}
use lib.Dec.{leb, ltb}
use lib.ListN.{get_or}
use borrow.Author.Tests.{le-leb, lt-leb, eq-eqb, ne_eqb, ltb-false}
use Rattle.base_sequences.proofs.Booleans.{no_true}
use Rattle.base_readers.specs.Texts.{within}
use Rattle.lexis_rules.specs.declared.Class.TheVariants.{Visible}
use Rattle.lexis_rules.specs.Bytes.{in_class}
use Rattle.ownlist_rules.specs.Utf8.{lead, second, further, sequence}

pub from-below : (a b x : ℕ) → x < a → false ≡ within a b x
unfolding within
from-below a b x h = rw (lt-leb a x h)

pub from-above : (a b x : ℕ) → a ≤ x → leb x b ≡ within a b x
unfolding within
from-above a b x h = rw (le-leb a x h)

module _ (a : ℕ) (p : Bool) (e : p ≡ within 194 223 a) where
  pub lead-two : p ≡ true → 2 ≡ lead a
  unfolding lead
  lead-two t = rw (← e, t)

  module _ (t : p ≡ false) (q : Bool) (f : q ≡ within 224 239 a) where
    pub lead-three : q ≡ true → 3 ≡ lead a
    unfolding lead
    lead-three u = rw (← e, t, ← f, u)

    module _ (u : q ≡ false) (r : Bool) (g : r ≡ within 240 244 a) where
      pub lead-four : r ≡ true → 4 ≡ lead a
      unfolding lead
      lead-four v = rw (← e, t, ← f, u, ← g, v)

      pub lead-none : r ≡ false → 0 ≡ lead a
      unfolding lead
      lead-none v = rw (← e, t, ← f, u, ← g, v)

module _ (a b : ℕ) (r : Bool) where
  pub second-1 : a ≡ 224 → r ≡ within 160 191 b → r ≡ second a b
  unfolding second
  second-1 h e = rw (second, eq-eqb a 224 h) e

  module _ (n : a ≡ 224 → ⊥) where
    pub second-2 : a ≡ 237 → r ≡ within 128 159 b → r ≡ second a b
    unfolding second
    second-2 h e = rw (second, ne_eqb a 224 n, eq-eqb a 237 h) e

    module _ (m : a ≡ 237 → ⊥) where
      pub second-3 : a ≡ 240 → r ≡ within 144 191 b → r ≡ second a b
      unfolding second
      second-3 h e = rw (second, ne_eqb a 224 n, ne_eqb a 237 m, eq-eqb a 240 h) e

      module _ (l : a ≡ 240 → ⊥) where
        pub second-4 : a ≡ 244 → r ≡ within 128 143 b → r ≡ second a b
        unfolding second
        second-4 h e = rw (second, ne_eqb a 224 n, ne_eqb a 237 m, ne_eqb a 240 l, eq-eqb a 244 h) e

        pub second-5 : (a ≡ 244 → ⊥) → r ≡ within 128 191 b → r ≡ second a b
        unfolding second
        second-5 h e = rw (second, ne_eqb a 224 n, ne_eqb a 237 m, ne_eqb a 240 l, ne_eqb a 244 h) e

pub further-none : (n k : ℕ) (t : Bool) → n ≤ k → true ≡ (leb n k || t)
further-none n k t h = rw (le-leb n k h)

pub further-some : (n k : ℕ) (t r : Bool) → k < n → r ≡ t → r ≡ (leb n k || t)
further-some n k t r h e = rw (lt-leb n k h) e

module _ (xs : List ℕ) (a : ℕ) (o : a ≡ get_or xs 0 0) (n : ℕ) (e : n ≡ lead a) where
  pub sequence-none : n ≡ 0 → 0 ≡ sequence xs
  unfolding sequence
  sequence-none z = rw (← o, ← e, z) (go (second a (get_or xs 1 0) && further 0 xs))
    where
      go : (t : Bool) → ◌≡◌ {A = ℕ} 0 (cond t 0 0)
      go true = refl
      go false = refl

  module _ (p : Bool) (f : p ≡ second a (get_or xs 1 0)) where
    pub sequence-1 : p ≡ false → 0 ≡ sequence xs
    unfolding sequence
    sequence-1 t = rw (← o, ← e, ← f, t)

    module _ (t : p ≡ true) (q : Bool) (g : q ≡ (leb n 2 || within 128 191 (get_or xs 2 0))) where
      pub sequence-2 : q ≡ false → 0 ≡ sequence xs
      unfolding sequence further
      sequence-2 u = rw (← o, ← e, ← f, t, ← g, u)

      module _ (u : q ≡ true) (r : Bool) (h : r ≡ (leb n 3 || within 128 191 (get_or xs 3 0))) where
        pub sequence-3 : r ≡ false → 0 ≡ sequence xs
        unfolding sequence further
        sequence-3 v = rw (← o, ← e, ← f, t, ← g, u, ← h, v)

        pub sequence-4 : r ≡ true → n ≡ sequence xs
        unfolding sequence further
        sequence-4 v = rw (← o, ← e, ← f, t, ← g, u, ← h, v)

-- a byte that passes both tests is visible
pub smooth-visible : (b : ℕ) → (ltb b 33 || ltb 126 b) ≡ false → in_class Visible b ≡ true
unfolding in_class within
smooth-visible b e = go (ltb b 33) (ltb 126 b) refl refl e
  where
    go : (p q : Bool) → ltb b 33 ≡ p → ltb 126 b ≡ q → (p || q) ≡ false → (leb 33 b && leb b 126) ≡ true
    go true q h g z = absurd (no_true (sym z))
    go false true h g z = absurd (no_true (sym z))
    go false false h g z = rw (le-leb 33 b (ltb-false b 33 h), le-leb b 126 (ltb-false 126 b g))
