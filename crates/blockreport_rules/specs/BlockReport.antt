-- The report of a header block: what each field adds, and the answers in order.
use Rattle.std.specs.Prelude.{ℕ, suc, true, false, List, [], ◌∷◌, ◌++◌, eqb, length}
use Rattle.base_readers.specs.Texts.{bytes}
use Rattle.base_readers.specs.Parsers.{Got}
use Rattle.lexis_rules.specs.Bytes.{alike}
use Rattle.block_rules.specs.Fields.{Field, name_of, body_of}
use Rattle.ownlist_rules.specs.declared.Own.{Own}
use Rattle.identifier_rules.specs.Identifier.{identifier}
use Rattle.ownlist_rules.specs.Listed.{own_of}
use Rattle.ownlist_rules.specs.Calls.{by_list, by_fields, or_short}
use Rattle.report_rules.specs.Body.{reading}
use Rattle.report_rules.specs.ByCase.{number_of, text_of, count_of}
use Rattle.blockreport_rules.specs.declared.Detail.{Detail}
use Rattle.blockreport_rules.specs.declared.Detail.TheVariants.{Reported, Identified}
use Rattle.blockreport_rules.specs.FieldLines.{field_line, identifier_line}

-- ==== what a field adds

-- of a field with this number what its report lacks, where it is asked for: at 9 the line of the identifier that was read
unfoldable pub detail_line : Detail → ℕ → Got (List ℕ) → List ℕ
detail_line Reported number read = []
detail_line Identified number read = elim (eqb number 9) [ true ↦ identifier_line read | false ↦ [] ]

-- the n-th field's line, and then the report of its body: no lines where that answers 7 or 9, two where it answers 8. Then what the detail adds
unfoldable pub body_lines : Detail → ℕ → Own → List ℕ → List ℕ
body_lines detail n whose body =
    field_line n whose (number_of (reading body)) (count_of (reading body))
    ++ (text_of (reading body) ++ detail_line detail (number_of (reading body)) (identifier body))

-- each field named Authentication-Results, in any case, and no other. Whose an identifier is `whose` says
unfoldable pub addition : Detail → (Got (List ℕ) → Own) → ℕ → List ℕ → List ℕ → List ℕ
addition detail whose n name body =
    elim (alike name (bytes "Authentication-Results")) [ true ↦ body_lines detail n (whose (identifier body)) body | false ↦ [] ]

-- what fields add, one after the other, of which the first is the n-th of the block: all fields count
unfoldable pub additions : Detail → (Got (List ℕ) → Own) → ℕ → List Field → List ℕ
additions detail whose n [] = []
additions detail whose n (f ∷ fs) = addition detail whose n (name_of f) (body_of f) ++ additions detail whose (suc n) fs

-- ==== the answer

-- an answer, and what is written
pub record Answer : Type 0 where
  pub number : ℕ
  pub place : ℕ
  pub written : List ℕ

-- 01, Answer numbers: refusals write nothing
abbrev pub refuse : ℕ → ℕ → Answer
refuse n p = record { number = n; place = p; written = [] }

-- 6: lent output shorter than the whole output; its place is the bytes needed
unfoldable pub fitted : List ℕ → ℕ → Answer
fitted text room = or_short refuse room (length text) (record { number = 0; place = 0; written = text })

-- 2 to 4, then 6. The fields are numbered from 1
unfoldable pub report_fields : Detail → List ℕ → (Got (List ℕ) → Own) → ℕ → Answer
report_fields detail block whose room = by_fields refuse block (λ fs. fitted (additions detail whose 1 fs) room)

-- 1, then 5, then 2 to 4, then 6, as for stripping. An identifier is our own when it equals a list entry
unfoldable pub block_report : Detail → List ℕ → List ℕ → ℕ → Answer
block_report detail block list room = by_list refuse block list (λ own. report_fields detail block (own_of own) room)
