-- What the theorems on identifiers speak of: document 01's rule as it was before 02, ticket [2], and which labels are the same by that ticket.
use Rattle.std.specs.Prelude.{ℕ, ◌≡◌, true, List, [], ◌∷◌, map, drop}
use Rattle.std.proofs.Math.Option.{none, some}
use Rattle.base_readers.specs.Parsers.{Parser, ◌>>=◌, ◌>>◌, give, ahead, text}
use Rattle.lexis_rules.specs.declared.Class.TheVariants.{Delimiter}
use Rattle.lexis_rules.specs.Bytes.{in_class, lower, alike}
use Rattle.lexis_rules.specs.Pieces.{value}
use Rattle.lexis_rules.specs.Words.{value_text, skip}
use Rattle.punycode_rules.specs.Unicode.{utf8s}
use Rattle.punycode_rules.specs.Labels.{decoded, prefixed}

-- 01, Identifier and header version: Space, then a value. It is readable when that succeeds and the next thing is the end or one of space, tab,
-- CR, "(" or ";"
unfoldable pub plain_identifier : Parser (List ℕ)
plain_identifier = do
  skip
  v ← text value
  ahead (in_class Delimiter)
  give (value_text v)

-- 02, ticket [2]: a label that starts with xn--, in either case, and decodes to these code points by Punycode
abbrev pub Decodes : List ℕ → List ℕ → Type 0
Decodes l u = (prefixed l ≡ true) × (decoded (drop 4 l) ≡ some u)

-- any other: it starts with something else, or doesn't decode, or decodes to a surrogate or to a number above 10FFFF hex
abbrev pub Stands : List ℕ → Type 0
Stands l = prefixed l ≡ true → decoded (drop 4 l) ≡ none

-- labels that are the same: both are compared as they stand, but for ASCII case; or both decode, to the same code points but for ASCII case;
-- or one does, and the other is those code points in UTF-8, but for ASCII case
pub data SameLabel (l m : List ℕ) : Type 0 where
  standing : Stands l → Stands m → alike l m ≡ true → SameLabel l m
  decoding : (u v : List ℕ) → Decodes l u → Decodes m v → map lower u ≡ map lower v → SameLabel l m
  first : (u v : List ℕ) → Decodes l u → Stands m → m ≡ utf8s v → map lower u ≡ map lower v → SameLabel l m
  second : (u v : List ℕ) → Stands l → l ≡ utf8s u → Decodes m v → map lower u ≡ map lower v → SameLabel l m

-- as many labels, and each pair the same
pub data SameLabels : List (List ℕ) → List (List ℕ) → Type 0 where
  end : SameLabels [] []
  pair : {l m : List ℕ} {ls ms : List (List ℕ)} → SameLabel l m → SameLabels ls ms → SameLabels (l ∷ ls) (m ∷ ms)
