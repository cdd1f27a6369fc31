-- The texts of the small pieces, and the pieces as parsers that yield them.
use Prim.Native.Char.{code}
use Rattle.std.specs.Prelude.{ℕ, ◌-◌, true, false, List, map, eqb, get_or, take, drop}
use Rattle.base_readers.specs.Texts.{same}
use Rattle.base_readers.specs.Readers.{lasts}
use Rattle.base_readers.specs.Parsers.{Parser, ◌>>=◌, give, when, skipping, text, pass}
use Rattle.lexis_rules.specs.declared.Class.TheVariants.{Quoted}
use Rattle.lexis_rules.specs.declared.VersionNumber.{VersionNumber}
use Rattle.lexis_rules.specs.Bytes.{lower}
use Rattle.lexis_rules.specs.Pieces.{item, space, value, keyword, digits, leading}
use Rattle.lexis_rules.specs.Numbers.{number_of}

-- 01, Small pieces: the text of the quoted string at the front drops the quotes, the escaping backslashes and the CRLFs: of each item
-- the last byte stays. (The closing quote is no item, so the text ends there.)
unfoldable pub quoted_text : List ℕ → List ℕ
quoted_text xs = lasts (item Quoted) 0 (drop 1 xs)

-- the text of the value that xs is
unfoldable pub value_text : List ℕ → List ℕ
value_text xs = elim (eqb (get_or xs 0 0) (code "\"")) [ true ↦ quoted_text xs | false ↦ xs ]

-- 01, Small pieces: keywords are reported in lower case
abbrev pub keyword_text : List ℕ → List ℕ
keyword_text xs = map lower xs

-- the digits of a run without those that don't count: 0 if all are zeros
unfoldable pub counted : List ℕ → List ℕ
counted xs = take (digits xs - leading xs) (drop (leading xs) xs)

-- ==== parsers

-- space, where it is allowed
abbrev pub skip : Parser Unit
skip = skipping space

-- space that isn't empty
abbrev pub gap : Parser Unit
gap = pass space

unfoldable pub read_value : Parser (List ℕ)
read_value = do
  v ← text value
  give (value_text v)

unfoldable pub read_keyword : Parser (List ℕ)
read_keyword = do
  k ← text keyword
  give (keyword_text k)

-- the keyword w, which is in lower case
unfoldable pub read_word : List ℕ → Parser Unit
read_word w = do
  k ← read_keyword
  when (same k w)

-- a digit run, as its digits that count
unfoldable pub read_digits : Parser (List ℕ)
read_digits = do
  d ← text digits
  give (counted d)

-- a digit run, as its number
unfoldable pub read_number : Parser VersionNumber
read_number = do
  d ← text digits
  give (number_of d)
