-- Document 01, "Identifier and header version" and "Results": a whole field body, and what it says.
use Prim.Native.Char.{code}
use Rattle.std.specs.Prelude.{ℕ, true, false, List, [], ◌∷◌, drop}
use Rattle.base_readers.specs.Texts.{bytes, follows}
use Rattle.base_readers.specs.Parsers.{nothing, got, Parser, ◌>>=◌, ◌>>◌, give, end, optional, several}
use Rattle.lexis_rules.specs.declared.Class.TheVariants.{Delimiter}
use Rattle.lexis_rules.specs.Bytes.{in_class}
use Rattle.lexis_rules.specs.Words.{skip, read_word}
use Rattle.lexis_rules.specs.Numbers.{number_of, is_one}
use Rattle.identifier_rules.specs.Identifier.{identifier}
use Rattle.identifier_rules.specs.Version.{stated, header_version}
use Rattle.result_rules.specs.Results.{Result, separator, result}

-- ==== what a body says

-- what stands before the results: the identifier's text, and the header version's digits without leading zeros, 1 if absent
pub record Head : Type 0 where
  pub identifier : List ℕ
  pub version : List ℕ

pub data Reading : Type 0 where
  -- the identifier can't be read
  unreadable : Reading
  -- the body is not well-formed
  malformed : Reading
  -- the header version is not 1
  newer : Head → Reading
  -- the word none (RFC 8601: no-result), under this identifier
  no_result : List ℕ → Reading
  -- one or more results, under this identifier
  results : List ℕ → List Result → Reading

-- ==== parts

-- Absent means 1
unfoldable pub head : Parser Head
head = do
  i ← identifier
  v ← optional stated
  give (record { identifier = i; version = header_version v })

-- a result, with the space that is allowed before it
unfoldable pub resinfo : Parser Result
resinfo = do
  skip
  result

-- results, with space allowed between parts, and the end
unfoldable pub resinfos : Parser (List Result)
resinfos = do
  rs ← several resinfo 0
  skip
  end
  give rs

-- ";" and the word none, .. and the end
unfoldable pub word_none : Parser Unit
word_none = do
  separator (code ";")
  read_word (bytes "none")
  skip
  end

-- ==== the whole body

-- Then either ";" and the word none, or one or more results. The word none with "=" or "/" after it is a method, so results come first
unfoldable pub payload : List ℕ → List ℕ → Reading
payload i xs =
    elim (resinfos xs) [
      | nothing ↦ (elim (word_none xs) [ nothing ↦ malformed | got _ _ ↦ no_result i ])
      | got rs _ ↦ (elim rs [ [] ↦ malformed | r ∷ rs ↦ results i (r ∷ rs) ])
    ]

-- the end or one of the same five bytes must follow, else 9. A number other than 1 answers 8: it is the number of the digits that decides
unfoldable pub headed : Head → List ℕ → Reading
headed h xs =
    elim (follows (in_class Delimiter) xs) [
      | false ↦ malformed
      | true ↦ (elim (is_one (number_of h.version)) [ true ↦ payload h.identifier xs | false ↦ newer h ])
    ]

-- Where the identifier can't be read, nothing further is tried
unfoldable pub reading : List ℕ → Reading
reading xs = elim (head xs) [ nothing ↦ unreadable | got h n ↦ headed h (drop n xs) ]
