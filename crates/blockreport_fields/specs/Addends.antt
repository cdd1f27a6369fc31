-- What a field adds to the report of a block, for bodies of any length, and what writing it leaves in a buffer of any length.
use Rattle.std.specs.Prelude.{ℕ, ◌+◌, min, true, false, List, [], leb, length}
use Rattle.std.proofs.lemmas.List.Edits.{sets}
use Rattle.base_sequences.specs.Stored.{cap}
use Rattle.base_readers.specs.Texts.{bytes}
use Rattle.base_readers.specs.Parsers.{Got}
use Rattle.lexis_rules.specs.Bytes.{alike}
use Rattle.ownlist_rules.specs.declared.Own.{Own}
use Rattle.identifier_rules.specs.Identifier.{identifier}
use Rattle.report_rules.specs.Report.{report}
use Rattle.blockreport_rules.specs.declared.Detail.{Detail}
use Rattle.blockreport_rules.specs.FieldLines.{field_line}
use Rattle.blockreport_rules.specs.BlockReport.{detail_line}

-- a line, the report that follows it, and the line of its identifier, where that is told
pub record Addend : Type 0 where
  pub line : List ℕ
  pub text : List ℕ
  pub id : List ℕ

-- the line of the n-th field, the report of its body and what the detail adds, by what its report answers with the largest room. 01, Answer numbers: for a
-- body over 65,536 bytes the number is 1, no result is ignored and there is no report
unfoldable pub body_addend : Detail → ℕ → Own → List ℕ → Addend
body_addend detail n whose body =
    record {
      line = field_line n whose (report body cap).number (report body cap).ignored;
      text = (report body cap).written;
      id = detail_line detail (report body cap).number (identifier body);
    }

-- each field named Authentication-Results, in any case, and no other. Whose an identifier is `whose` says
unfoldable pub field_addend : Detail → (Got (List ℕ) → Own) → ℕ → List ℕ → List ℕ → Addend
field_addend detail whose n name body =
    elim (alike name (bytes "Authentication-Results")) [
      | true ↦ body_addend detail n (whose (identifier body)) body
      | false ↦ record { line = []; text = []; id = [] }
    ]

-- the place after it, written from a place on: at most the largest one
abbrev pub place_after : Addend → ℕ → ℕ
place_after a to = min (to + (length a.line + (length a.text + length a.id))) cap

-- a text from a place on where there is room for all of it, and else nothing
unfoldable pub if_room : List ℕ → ℕ → List ℕ → List ℕ
if_room old to text = elim (leb (to + length text) (length old)) [ true ↦ sets old to text | false ↦ old ]

-- the line as far as there is room (`sets` stores nothing past the end), then the report where there is room for all of it, and then the identifier's line
-- as far as there is room
unfoldable pub buffer_after : Addend → List ℕ → ℕ → List ℕ
buffer_after a old to = sets (if_room (sets old to a.line) (to + length a.line) a.text) (to + (length a.line + length a.text)) a.id
