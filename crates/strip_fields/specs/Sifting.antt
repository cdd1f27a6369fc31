-- What a walk over a block finds and keeps.
use Rattle.std.specs.Prelude.{ℕ, ◌+◌, ◌≡◌, Bool, true, false, List, [], ◌∷◌, length}
use Rattle.std.proofs.lemmas.List.Edits.{sets}
use Rattle.base_readers.specs.Walks.{Walked}
use Rattle.block_rules.specs.Fields.{Field, bytes_of}
use Rattle.ownlist_rules.specs.declared.Own.{Own}
use Rattle.ownlist_rules.specs.declared.Own.TheVariants as own
use Rattle.strip_rules.specs.Strip.{removed_of}
use Rattle.strip_steps_rules.specs.Steps.{marks_of}
use Rattle.strip_fields.specs.declared.Sifted.{Sifted}

-- number and place of the walk, how many fields it came by, and of those that go the bytes and how many they are
abbrev pub sifted_of : (List ℕ → Bool) → Walked Field → Sifted
sifted_of listed w =
    record {
      number = w.number;
      place = w.place;
      count = length w.items;
      removed = length (bytes_of (removed_of listed w.items));
      fields = length (removed_of listed w.items);
    }

-- where fields end that stand one after the other from a place on
unfoldable pub stops_of : ℕ → List Field → List ℕ
stops_of at [] = []
stops_of at (f ∷ fs) = (at + length f.bytes) ∷ stops_of (at + length f.bytes) fs

-- by a walk: what is answered, and what is kept of marks and stops in the front of two lent buffers, as far as each reaches
pub record Sifts (listed : List ℕ → Bool) (w : Walked Field) (marks₀ stops₀ marks stops : List ℕ) (r : Sifted) : Type 0 where
  pub is : r ≡ sifted_of listed w
  pub marked : marks ≡ sets marks₀ 0 (marks_of listed w.items)
  pub stopped : stops ≡ sets stops₀ 0 (stops_of 0 w.items)

-- ==== what private functions say

-- an identifier of ours, or an unreadable one
abbrev pub is_disowned : Own → Bool
is_disowned own.Ours = true
is_disowned own.Others = false
is_disowned own.Unreadable = true
