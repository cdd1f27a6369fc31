-- One item, by the tests that the code makes in turn. Each law follows one way through the code.
use Prim.Native.Nat.{ℕ}
use mathlib.Core.Path.{◌≡◌, ap, ◌∙◌}
use mathlib.Core.Bool.{Bool, true, false, ◌&&◌}
use mathlib.Core.List.{List}
use lib.Dec.{eqb}
use lib.ListN.{get_or}
use Rattle.lexis_rules.specs.declared.Class.{Class}
use Rattle.lexis_rules.specs.declared.Class.TheVariants.{Blank, Escaped}
use Rattle.lexis_rules.specs.Bytes.{in_class}
use Rattle.lexis_rules.specs.Pieces.{pair, fold, escapes, item}

-- the byte at a place is of a class where the byte that was read there is
pub class-there : (c : Class) (b x : ℕ) (r : Bool) → b ≡ x → r ≡ in_class c b → r ≡ in_class c x
class-there c b x r e q = q ∙ ap (in_class c) e

module _ (c : Class) (xs : List ℕ) (r : Bool) (e : r ≡ escapes c) where
  pub pair-never : r ≡ false → false ≡ (escapes c && pair xs)
  pair-never t = rw (← e, t)

  module _ (t : r ≡ true) (q : Bool) (f : q ≡ eqb (get_or xs 0 0) 92) where
    pub pair-not : q ≡ false → false ≡ (escapes c && pair xs)
    unfolding pair
    pair-not u = rw (← e, t, ← f, u)

    pub pair_is : q ≡ true → (a : Bool) → a ≡ in_class Escaped (get_or xs 1 0) → a ≡ (escapes c && pair xs)
    unfolding pair
    pair_is u a g = rw (← e, t, ← f, u) g

module _ (xs : List ℕ) (r : Bool) (e : r ≡ eqb (get_or xs 0 0) 13) where
  pub fold-no-return : r ≡ false → false ≡ fold xs
  unfolding fold
  fold-no-return t = rw (← e, t)

  module _ (t : r ≡ true) (q : Bool) (f : q ≡ eqb (get_or xs 1 0) 10) where
    pub fold-no-feed : q ≡ false → false ≡ fold xs
    unfolding fold
    fold-no-feed u = rw (← e, t, ← f, u)

    pub fold_is : q ≡ true → (a : Bool) → a ≡ in_class Blank (get_or xs 2 0) → a ≡ fold xs
    unfolding fold
    fold_is u a g = rw (← e, t, ← f, u) g

module _ (c : Class) (xs : List ℕ) (r : Bool) (e : r ≡ in_class c (get_or xs 0 0)) where
  pub item-byte : r ≡ true → 1 ≡ item c xs
  unfolding item
  item-byte t = rw (← e, t)

  module _ (t : r ≡ false) (q : Bool) (f : q ≡ (escapes c && pair xs)) where
    pub item-pair : q ≡ true → 2 ≡ item c xs
    unfolding item
    item-pair u = rw (← e, t, ← f, u)

    module _ (u : q ≡ false) (a : Bool) (g : a ≡ fold xs) where
      pub item-fold : a ≡ true → 3 ≡ item c xs
      unfolding item
      item-fold v = rw (← e, t, ← f, u, ← g, v)

      pub item-none : a ≡ false → 0 ≡ item c xs
      unfolding item
      item-none v = rw (← e, t, ← f, u, ← g, v)
