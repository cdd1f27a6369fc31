-- Texts that are stored where there is room for all of them.
use Prim.Native.Nat.{ℕ, ◌+◌, ◌≤◌, ◌<◌, min}
use native.Mathlib.Omega.{arith}
use mathlib.Core.Path.{◌≡◌, refl, sym, ap, ◌∙◌}
use mathlib.Core.Bool.{Bool, true, false}
use mathlib.Core.List.{List, []}
use borrow.Author.Tests.{le-leb, lt-leb, leb-true, leb-false}
use lib.Dec.{leb}
use lib.ListN.{length}
use lib.Seq.{sets, length-sets}
use Rattle.base_sequences.specs.Stored.{cap}
use Rattle.base_sequences.proofs.Splices.{sets-out}
use Rattle.blockreport_fields.specs.Addends.{if_room}

module _ (old : List ℕ) (to : ℕ) (text : List ℕ) where
  pub room-enough : to + length text ≤ length old → if_room old to text ≡ sets old to text
  unfolding if_room
  room-enough h = let t = le-leb (to + length text) (length old) h in rw (if_room, t)

  pub room-short : length old < to + length text → if_room old to text ≡ old
  unfolding if_room
  room-short h = let t = lt-leb (to + length text) (length old) h in rw (if_room, t)

  -- from the end on nothing is stored
  pub room_out : length old ≤ to → if_room old to text ≡ old
  room_out h = go (leb (to + length text) (length old)) refl
    where
      go : (b : Bool) → leb (to + length text) (length old) ≡ b → if_room old to text ≡ old
      go true e = room-enough (leb-true _ _ e) ∙ sets-out old to text h
      go false e = room-short (leb-false _ _ e)

  pub room-long : length (if_room old to text) ≡ length old
  room-long = go (leb (to + length text) (length old)) refl
    where
      go : (b : Bool) → leb (to + length text) (length old) ≡ b → length (if_room old to text) ≡ length old
      go true e = ap length (room-enough (leb-true _ _ e)) ∙ length-sets old to text
      go false e = ap length (room-short (leb-false _ _ e))

-- a text without bytes
pub room-none : (old : List ℕ) (to : ℕ) → if_room old to [] ≡ old
room-none old to = go (leb (to + 0) (length old)) refl
  where
    go : (b : Bool) → leb (to + 0) (length old) ≡ b → if_room old to [] ≡ old
    go true e = room-enough old to [] (leb-true _ _ e)
    go false e = room-short old to [] (leb-false _ _ e)

-- no room is left at the largest place
pub sets-past : (old : List ℕ) (i j : ℕ) (text : List ℕ) → length old ≤ cap → j ≡ min i cap → sets old j text ≡ sets old i text
sets-past old i j text h e = go (leb i cap) refl
  where
    go : (b : Bool) → leb i cap ≡ b → sets old j text ≡ sets old i text
    go true a = let q : j ≡ i = omega (arith, leb-true i cap a) in rw q
    go false a = sets-out old j text (omega (arith, leb-false i cap a)) ∙ sym (sets-out old i text (omega (arith, leb-false i cap a)))

pub room-past : (old : List ℕ) (i j : ℕ) (text : List ℕ) → length old ≤ cap → j ≡ min i cap → if_room old j text ≡ if_room old i text
room-past old i j text h e = go (leb i cap) refl
  where
    go : (b : Bool) → leb i cap ≡ b → if_room old j text ≡ if_room old i text
    go true a = let q : j ≡ i = omega (arith, leb-true i cap a) in rw q
    go false a = room_out old j text (omega (arith, leb-false i cap a)) ∙ sym (room_out old i text (omega (arith, leb-false i cap a)))
