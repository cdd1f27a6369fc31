-- What a block gives, and the first of some fields that starts at a place or later: one law for each case of the definitions, and fields
-- that are passed because they start before the place.
use Prim.Native.Nat.{ℕ, ◌+◌, ◌≤◌, ◌<◌}
use native.Mathlib.Nat.{add-zero, zero-add, add_assoc}
use native.Mathlib.Omega.{arith}
use mathlib.Core.Path.{◌≡◌, refl, ap, ◌∙◌}
use mathlib.Core.Bool.{Bool, true, false}
use mathlib.Core.List.{List, [], ◌∷◌, ◌++◌}
use borrow.Author.Tests.{le-leb, lt-leb, leb-true, leb-false}
use lib.Dec.{ltb, leb}
use lib.ListN.{length, length-append}
use Rattle.base_readers.specs.Walks.{ended}
use Rattle.lexis_rules.specs.Limits.{byte_limit}
use Rattle.block_rules.specs.Fields.{Field, fields, bytes_of}
use Rattle.block_walk_rules.specs.declared.Step.{Step}
use Rattle.block_walk_rules.specs.Steps.{given, placed, first_from}
use Rattle.block_walk_rules.specs.Whole.{AllBefore, First, found, none}

module _ (block : List ℕ) where
  pub given-long : ltb byte_limit (length block) ≡ true → given block ≡ ended 1 0
  unfolding given
  given-long h = rw (given, h)

  pub given-fields : ltb byte_limit (length block) ≡ false → given block ≡ fields block
  unfolding given
  given-fields h = rw (given, h)

pub first-none : (place at : ℕ) (last : Step) → first_from place at [] last ≡ last
unfolding first_from
first-none place at last = refl

module _ (place at : ℕ) (f : Field) (fs : List Field) (last : Step) where
  pub first-here : place ≤ at → first_from place at (f ∷ fs) last ≡ placed at f
  unfolding first_from
  first-here h = rw (first_from, le-leb place at h)

  pub first-later : at < place → first_from place at (f ∷ fs) last ≡ first_from place (at + length f.bytes) fs last
  unfolding first_from
  first-later h = rw (first_from, lt-leb place at h)

-- fields that start before the place are passed
first_past : (place at : ℕ) (xs ys : List Field) (last : Step) → AllBefore place at xs
    → first_from place at (xs ++ ys) last ≡ first_from place (at + length (bytes_of xs)) ys last
unfolding bytes_of
first_past place at [] ys last h = rw (add-zero at)
first_past place at (x ∷ xs) ys last h =
    first-later place at x (xs ++ ys) last h.0
    ∙ (first_past place (at + length x.bytes) xs ys last h.1 ∙ rw (length-append x.bytes (bytes_of xs), add_assoc at (length x.bytes) (length (bytes_of xs))))

pub first-behind : (place : ℕ) (xs ys : List Field) (last : Step) → AllBefore place 0 xs
    → first_from place 0 (xs ++ ys) last ≡ first_from place (length (bytes_of xs)) ys last
first-behind place xs ys last h = first_past place 0 xs ys last h ∙ rw (zero-add (length (bytes_of xs)))

-- it is what its name says
pub first-is : (place at : ℕ) (fs : List Field) (last : Step) → First place at fs last (first_from place at fs last)
unfolding bytes_of
first-is place at [] last = rw (first-none place at last) (none tt)
first-is place at (f ∷ fs) last = go (leb place at) refl (first-is place (at + length f.bytes) fs last)
  where
    -- a field further on stands behind one more
    more : (r : Step) → at < place → First place (at + length f.bytes) fs last r → First place at (f ∷ fs) last r
    more r h (found before after g e k b) =
        let a : at + length f.bytes + length (bytes_of before) ≡ at + length (f.bytes ++ bytes_of before) = omega (arith, length-append f.bytes (bytes_of before)) in
        rw a (found (f ∷ before) after g (ap (◌∷◌ f) e) (rw (← a) k) (h, b))
    more r h (none b) = none (h, b)

    go : (t : Bool) → leb place at ≡ t → First place (at + length f.bytes) fs last (first_from place (at + length f.bytes) fs last)
        → First place at (f ∷ fs) last (first_from place at (f ∷ fs) last)
    go true q ih =
        let h = leb-true place at q in
        let p : First place at (f ∷ fs) last (placed (at + 0) f) = found [] fs f refl (omega arith) tt in
        rw (first-here place at f fs last h) (rw (add-zero at) at p)
    go false q ih = let h = leb-false place at q in rw (first-later place at f fs last h) (more (first_from place (at + length f.bytes) fs last) h ih)
