-- Document 01, "Identifier and header version": the identifier (RFC 8601, 2.2: authserv-id); 02, ticket [2]: with international labels.
use Prim.Native.Char.{code}
use Rattle.std.specs.Prelude.{ℕ, Bool, ◌||◌, List, leb}
use Rattle.base_readers.specs.Readers.{Reader, run, choose}
use Rattle.base_readers.specs.Parsers.{Parser, ◌>>=◌, ◌>>◌, give, ahead, text}
use Rattle.lexis_rules.specs.declared.Class.TheVariants.{Token, Delimiter}
use Rattle.lexis_rules.specs.Bytes.{in_class, alike}
use Rattle.lexis_rules.specs.Pieces.{quoted}
use Rattle.lexis_rules.specs.Words.{value_text, skip}
use Rattle.punycode_rules.specs.Labels.{spelling}

-- 02, ticket [2]: the identifier's token, and no other, may hold bytes from 128 up
unfoldable pub identifier_byte : ℕ → Bool
identifier_byte x = in_class Token x || leb 128 x

abbrev pub identifier_token : Reader
identifier_token = run identifier_byte

-- its value: a quoted string or such a token
abbrev pub identifier_value : Reader
identifier_value = choose (code "\"") quoted identifier_token

-- Space, then a value. It is readable when that succeeds and the next thing is the end or one of space, tab, CR, "(" or ";"
unfoldable pub identifier : Parser (List ℕ)
identifier = do
  skip
  v ← text identifier_value
  ahead (in_class Delimiter)
  give (value_text v)

-- Two identifiers are equal when their texts are equal but for ASCII case; 02, ticket [2]: after A-labels became U-labels (RFC 8601, section 5)
unfoldable pub same_identifier : List ℕ → List ℕ → Bool
same_identifier a b = alike (spelling a) (spelling b)
