-- The lines that a report of a block has for a field beside the report of its body.
use Rattle.std.specs.Prelude.{ℕ, List, [], ◌∷◌}
use Rattle.base_readers.specs.Texts.{bytes}
use Rattle.base_readers.specs.Parsers.{Got, nothing, got}
use Rattle.text_decimals_rules.specs.Decimals.{decimal}
use Rattle.ownlist_rules.specs.declared.Own.{Own}
use Rattle.ownlist_rules.specs.declared.Own.TheVariants.{Ours, Others, Unreadable}
use Rattle.report_rules.specs.Report.{line, id_line}

-- whose the identifier of a field is, as a word
unfoldable pub word_of : Own → List ℕ
word_of Ours = bytes "own"
word_of Others = bytes "other"
word_of Unreadable = bytes "unreadable"

-- `field`, the number of the field, whose its identifier is, the number of its answer, and how many of its results are ignored
unfoldable pub field_line : ℕ → Own → ℕ → ℕ → List ℕ
field_line n whose number ignored = line (bytes "field" ∷ decimal n ∷ word_of whose ∷ decimal number ∷ decimal ignored ∷ [])

-- `id` and the identifier's text, as in a report, where one was read
unfoldable pub identifier_line : Got (List ℕ) → List ℕ
identifier_line nothing = []
identifier_line (got i n) = id_line i
