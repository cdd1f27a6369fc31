-- The loop that collects the tags of a list with their names in order: a slot says whether a name is held, and a name that is put in at its slot is
-- held with the others.
use Prim.Native.Nat.{ℕ, ◌+◌, ◌%◌, ◌≤◌, ◌<◌, zero-le}
use native.Mathlib.Omega.{arith}
use mathlib.Core.Path.{◌≡◌, refl, sym, ◌∙◌}
use mathlib.Core.Bool.{Bool, true, false, ◌&&◌}
use mathlib.Core.List.{List}
use lib.Dec.{leb}
use lib.ListN.{length}
use Rattle.base_sequences.proofs.Booleans.{or_right}
use Rattle.base_readers.specs.Texts.{bytes, same}
use Rattle.base_readers.specs.Places.{end_at}
use Rattle.tag.specs.declared.Tag as told
use Rattle.std.specs.Prelude.{Result}
use Rattle.tag_content.specs.declared.Sound.{Sound}
use Rattle.tag_content.specs.declared.Unread.{Unread}
use Rattle.std.specs.Prelude.{Option, Some, None}
use Rattle.lexis_rules.specs.Limits.{byte_limit}
use Rattle.tag_rules.specs.Tags.{tag}
use Rattle.tag_rules.specs.Needed.{sound}
use Rattle.tag.specs.Tags.{TagFound}
use Rattle.base_sequences.specs.Spans.{span}
use Rattle.tag_names.specs.Names.{holds}
use Rattle.tag_content.specs.Lists.{tags_at}
use Rattle.tag_content.specs.Tests.{kept, is_held, cv_after, ended_at, CollectedIf}
use Rattle.tag_content.proofs.TagsRead.{ReadSoFar, found_name, read_none, read_twice, read-full, read-on, read-end}
use Rattle.tag_list_ordered.specs.Internal.{ordered, Kept, slot_for, slot_of, inserted_at}
use Rattle.tag_list_ordered.proofs.Slots.{taken-held, free-held, free-within, no-free}
use Rattle.tag_list_ordered.proofs.Halving.{kept-length, kept-holds, kept_more, inserted-long}

-- ==== what a slot says

module _ (ks : List (List ℕ)) (n : List ℕ) where
  slot-free : (r : ℕ) → Some r ≡ slot_of ks n → (same n (bytes "i") ≡ false) × (slot_for 0 ks n ≡ Some r)
  slot-free r e = go (same n (bytes "i")) refl
    where
      go : (b : Bool) → same n (bytes "i") ≡ b → (same n (bytes "i") ≡ false) × (slot_for 0 ks n ≡ Some r)
      go true q = let w : Some r ≡ None = rw (slot_of, q) at e in absurd (no-free w)
      go false q = (q, sym (rw (slot_of, q) at e))

  slot-taken : None ≡ slot_of ks n → is_held ks n ≡ true
  slot-taken e = go (same n (bytes "i")) refl
    where
      go : (b : Bool) → same n (bytes "i") ≡ b → is_held ks n ≡ true
      go true q = rw q
      go false q = or_right (same n (bytes "i")) (holds ks n) (taken-held 0 ks n (sym (rw (slot_of, q) at e)))

-- ==== the loop

-- the tags read so far have their names in the table
pub record Collecting (s : List ℕ) (at : ℕ) (t₀ t : List ℕ) (i count cv : ℕ) : Type 0 where
  pub read : ReadSoFar s at (kept s t count) i count cv
  pub table : Kept s t count
  pub long : length t ≡ length t₀

pub collecting-start : (s : List ℕ) (at : ℕ) (t : List ℕ) → Collecting s at t t at 0 0
unfolding ordered
collecting-start s at t = record { read = read_none s at; table = record { fits = zero-le; order = refl }; long = refl }

module _ (s : List ℕ) (at : ℕ) (t₀ t : List ℕ) (i count cv : ℕ) (c : Collecting s at t₀ t i count cv) where
  module _ (g : told.Tag) (f : TagFound s i (Some g)) where
    -- its name is taken: the list is not sound
    pub collecting-twice : (o : Option ℕ) → o ≡ slot_of (kept s t count) (span s g.start g.name_end) → o ≡ None → (sound (tags_at s at) && leb (length s) (end_at tag s at)) ≡ false
    collecting-twice o u r = read_twice s at (kept s t count) i count cv c.read g f (slot-taken (kept s t count) (span s g.start g.name_end) (sym r ∙ u))

    -- no room is left: the list has more tags than the table has entries
    pub collecting-full : length t ≤ count → length t₀ < length (tags_at s at)
    collecting-full h = read-full s at (kept s t count) i count cv c.read g f (length t₀) (omega (arith, c.long))

    module _ (o : Option ℕ) (u : o ≡ slot_of (kept s t count) (span s g.start g.name_end)) (r : ℕ) (q : o ≡ Some r) where
      z : (same (span s g.start g.name_end) (bytes "i") ≡ false) × (slot_for 0 (kept s t count) (span s g.start g.name_end) ≡ Some r)
      z = slot-free (kept s t count) (span s g.start g.name_end) r (sym q ∙ u)

      pub collecting-slot : r ≤ count
      collecting-slot = omega (arith, free-within 0 (kept s t count) (span s g.start g.name_end) r z.1, kept-length s t count c.table.fits)

      pub collecting-on : (p : ℕ) (t' : List ℕ) (cv' : ℕ) → length s ≤ byte_limit → count < length t → p ≡ g.start % 65536 → t' ≡ inserted_at r count p t → cv' ≡ cv_after cv (span s g.start g.name_end) (span s g.value_start g.value_end)
          → Collecting s at t₀ t' g.end (count + 1) cv'
      collecting-on p t' cv' m h j k y = rw (k, j, entry) on
        where
          entry : g.start % 65536 ≡ g.start
          entry = omega (arith, f.stands)

          new : is_held (kept s t count) (span s g.start g.name_end) ≡ false
          new = rw z.0 (free-held 0 (kept s t count) (span s g.start g.name_end) r c.table.order z.1)

          on : Collecting s at t₀ (inserted_at r count g.start t) g.end (count + 1) cv'
          on =
              record {
                read =
                    read-on s at (kept s t count) i count cv c.read g f new
                    (kept s (inserted_at r count g.start t) (count + 1))
                    (kept-holds s t count r g.start collecting-slot h)
                    cv'
                    y;
                table = kept_more s t count r g.start collecting-slot h c.table (rw (found_name s i g f) at z.1);
                long = inserted-long s t count r g.start collecting-slot h ∙ c.long;
              }

  -- no tag is left
  pub collecting-end : (F : Type 0) (r : Result Sound Unread) → TagFound s i None → r ≡ ended_at s i count cv → CollectedIf F s at t r
  collecting-end F r f q = read-end s at (kept s t count) i count cv c.read F t c.table.fits refl r f q
