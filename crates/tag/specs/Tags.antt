-- What the code's answers say: a tag by its places.
use Prim.Native.Char.{code}
use Rattle.std.specs.Prelude.{ℕ, ◌+◌, ◌≤◌, ◌<◌, ◌≡◌, true, false, List, eqb, leb, length, get_or, drop, Option, Some, None}
use Rattle.base_sequences.specs.Spans.{span}
use Rattle.base_readers.specs.Texts.{starts}
use Rattle.base_readers.specs.Readers.{run}
use Rattle.base_readers.specs.Parsers.{Got, nothing, got}
use Rattle.base_readers.specs.Places.{from}
use Rattle.tag.specs.declared.Tag as found
use Rattle.lexis_rules.specs.Pieces.{bare_space}
use Rattle.tag_rules.specs.Tags.{in_tag_name, tag_name, tag_value, trimmed, Tag, tag}

-- ==== a tag at a place

-- a tag by its places
abbrev pub tag_of : ℕ → ℕ → ℕ → ℕ → ℕ → Option found.Tag
tag_of a e v w x = Some (record { start = a; name_end = e; value_start = v; value_end = w; end = x })

-- a tag whose name and value were found ends with the body or with ";"
unfoldable pub closed_at : List ℕ → ℕ → ℕ → ℕ → ℕ → Option found.Tag
closed_at s a e v w =
    elim (leb (length s) w) [
      | true ↦ tag_of a e v w w
      | false ↦ (elim (starts (λ b. eqb b (code ";")) (drop w s)) [ true ↦ tag_of a e v w (w + 1) | false ↦ None ])
    ]

-- the tag whose name stands from a up to e, with a "=" at b
unfoldable pub valued_at : List ℕ → ℕ → ℕ → ℕ → Option found.Tag
valued_at s a e b =
    elim (eqb (get_or (drop b s) 0 0) (code "=")) [
      | true ↦ closed_at s a e (b + 1) (b + 1 + tag_value (drop (b + 1) s))
      | false ↦ None
    ]

-- the tag whose name stands from a up to e; nothing where it is empty
unfoldable pub named_at : List ℕ → ℕ → ℕ → Option found.Tag
named_at s a e = elim (eqb e a) [ true ↦ None | false ↦ valued_at s a e (e + bare_space (drop e s)) ]

-- the tag whose name starts at a
abbrev pub tag_from : List ℕ → ℕ → Option found.Tag
tag_from s a = named_at s a (a + tag_name (drop a s))

-- the tag behind the space at a place
abbrev pub tag_at : List ℕ → ℕ → Option found.Tag
tag_at s at = tag_from s (at + bare_space (drop at s))

-- ==== what holds of it (`tag-found` in proofs/TagParts.antt)

-- a tag that was found, and the place after it
abbrev pub tag_got : List ℕ → Option found.Tag → Got Tag
tag_got s (Some t) = got (record { name = span s t.start t.name_end; value = trimmed (span s t.value_start t.value_end) }) t.end
tag_got s None = nothing

-- its parts in order
pub record TagPlaces (s : List ℕ) (at a e v w x : ℕ) : Type 0 where
  pub after : at ≤ a
  pub name : a < e
  pub named : e ≡ a + run in_tag_name (drop a s)
  pub equals : e < v
  pub value : v ≤ w
  pub end : w ≤ x
  pub inside : x ≤ length s

abbrev pub TagStands : List ℕ → ℕ → Option found.Tag → Type 0
TagStands s at (Some t) = TagPlaces s at t.start t.name_end t.value_start t.value_end t.end
TagStands s at None = Unit

pub record TagFound (s : List ℕ) (at : ℕ) (r : Option found.Tag) : Type 0 where
  pub reads : tag_got s r ≡ from tag s at
  pub stands : TagStands s at r
