-- What is known of a tag list whose names are in a table, each by the place of its first byte: while its tags are read, and when they have been.
use Rattle.std.specs.Prelude.{ℕ, ◌≤◌, ◌≡◌, Bool, true, false, cond, ◌&&◌, ◌||◌, List, map, leb, length, take, Result, Ok, Err}
use Rattle.std.proofs.Math.Option.{none, some}
use Rattle.base_readers.specs.Texts.{bytes, same}
use Rattle.base_readers.specs.Places.{end_at}
use Rattle.tag_content.specs.declared.Sound.{Sound}
use Rattle.tag_content.specs.declared.Unread.{Unread}
use Rattle.tag_content.specs.declared.Unread.TheVariants.{Unreadable, Full}
use Rattle.tag_rules.specs.Tags.{trimmed, tag, named, value_named}
use Rattle.tag_rules.specs.Needed.{chain_value, sound, signature_tags}
use Rattle.tag_names.specs.Names.{name_at, same_at, holds, all_at, seal_at}
use Rattle.tag_content.specs.Lists.{tags_at, listed_at}

-- the names that the first n entries of a table stand for
abbrev pub kept : List ℕ → List ℕ → ℕ → List (List ℕ)
kept s t n = map (name_at s) (take n t)

-- i counts as one of the names
abbrev pub is_held : List (List ℕ) → List ℕ → Bool
is_held ks n = same n (bytes "i") || holds ks n

-- ==== tags

-- the chain value of a tag named cv, else the one before
abbrev pub cv_after : ℕ → List ℕ → List ℕ → ℕ
cv_after c n v = cond (same_at n 0 (bytes "cv")) (chain_value (trimmed v)) c

abbrev pub ended_at : List ℕ → ℕ → ℕ → ℕ → Result Sound Unread
ended_at s at n c = elim (leb (length s) at) [ true ↦ Ok (record { count = n; cv = c }) | false ↦ Err Unreadable ]

-- a table has the names of a sound list that ends with the body
pub record SoundAt (s : List ℕ) (at : ℕ) (t : List ℕ) (n c : ℕ) : Type 0 where
  pub fine : sound (tags_at s at) ≡ true
  pub ends : length s ≤ end_at tag s at
  pub fits : n ≤ length t
  pub names : (m : List ℕ) → holds (kept s t n) m ≡ named (tags_at s at) m
  pub cv : c ≡ chain_value (value_named (bytes "cv") (tags_at s at))

-- what was collected, where F is what a full table says
abbrev pub CollectedIf : Type 0 → List ℕ → ℕ → List ℕ → Result Sound Unread → Type 0
CollectedIf F s at t (Ok k) = SoundAt s at t k.count k.cv
CollectedIf F s at t (Err Unreadable) = (sound (tags_at s at) && leb (length s) (end_at tag s at)) ≡ false
CollectedIf F s at t (Err Full) = F

-- ==== tag lists

abbrev pub attempt_if : Bool → ℕ → Result ℕ Unread
attempt_if true c = Ok c
attempt_if false c = Err Unreadable

-- by the names at the places, and the chain value
abbrev pub told_at : Bool → List ℕ → List ℕ → ℕ → Result ℕ Unread
told_at true s ps c = attempt_if (seal_at s ps c) c
told_at false s ps c = attempt_if (all_at s ps signature_tags) 0

-- what an attempt says, where F is what a full table says
abbrev pub AttemptIf : Type 0 → Bool → List ℕ → ℕ → Result ℕ Unread → Type 0
AttemptIf F seal s at (Ok c) = some c ≡ listed_at seal s at
AttemptIf F seal s at (Err Unreadable) = none ≡ listed_at seal s at
AttemptIf F seal s at (Err Full) = F
