-- What a tag list from a place of a body on says: that of a signature or a seal.
use Rattle.std.specs.Prelude.{ℕ, Bool, true, false, List, ltb, length}
use Rattle.std.proofs.Math.Option.{Option, none, some}
use Rattle.base_readers.specs.Texts.{bytes}
use Rattle.base_readers.specs.Parsers.{nothing, got}
use Rattle.base_readers.specs.Places.{from, list_at}
use Rattle.lexis_rules.specs.Limits.{byte_limit}
use Rattle.tag_rules.specs.Tags.{Tag, tag, tags, value_named}
use Rattle.tag_rules.specs.Needed.{chain_value, is_signature, is_seal}

-- the tags from a place on
abbrev pub tags_at : List ℕ → ℕ → List Tag
tags_at s at = list_at tag s at

-- what a tag list says: a seal's chain value, 0 for a signature
abbrev pub list_test : Bool → List Tag → Option ℕ
list_test true ts = elim (is_seal ts) [ true ↦ some (chain_value (value_named (bytes "cv") ts)) | false ↦ none ]
list_test false ts = elim (is_signature ts) [ true ↦ some 0 | false ↦ none ]

unfoldable pub list_said : Bool → List ℕ → ℕ → Option ℕ
list_said seal s at = elim (from tags s at) [ nothing ↦ none | got ts n ↦ list_test seal ts ]

-- the same, in a body within the limit; a longer one has no list that is read
unfoldable pub listed_at : Bool → List ℕ → ℕ → Option ℕ
listed_at seal s at = elim (ltb byte_limit (length s)) [ true ↦ none | false ↦ list_said seal s at ]
