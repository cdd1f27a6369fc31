-- Document 01, "How strong the contracts have to be": what demand 3 speaks of.
use Rattle.std.specs.Prelude.{ℕ, suc, ◌≤◌, ◌≡◌, Bool, true, false, List, [], length}
use Rattle.base_readers.specs.Parsers.{got, Parser, ◌>>=◌, ◌>>◌, give, ahead}
use Rattle.lexis_rules.specs.Limits.{byte_limit}
use Rattle.lexis_rules.specs.declared.Class.TheVariants.{Delimiter}
use Rattle.lexis_rules.specs.Bytes.{in_class}
use Rattle.identifier_rules.specs.Identifier.{identifier}
use Rattle.identifier_rules.specs.Version.{stated}
use Rattle.result_rules.specs.Results.{Result, result}
use Rattle.report_rules.specs.Body.{Head, Reading, unreadable, malformed, newer, no_result, results, reading}
use Rattle.report_rules.specs.Report.{Answer}

-- It names a header version when a readable identifier, non-empty space, a digit run, and the end or one of the five bytes follow one
-- another
unfoldable pub naming : Parser Head
naming = do
  i ← identifier
  v ← stated
  ahead (in_class Delimiter)
  give (record { identifier = i; version = v })

-- the body names the header version v, whose number ends at the place n
pub record Names (body v : List ℕ) (n : ℕ) : Type 0 where
  pub identifier : List ℕ
  pub reads : naming body ≡ got (record { identifier = identifier; version = v }) n

-- a field within the size limit
abbrev pub WithinLimit : List ℕ → Type 0
WithinLimit body = length body ≤ byte_limit

-- It is a well-formed version 1 field when the rules above read it, first byte to last, as a readable identifier, header version 1 or
-- absent, and results or the word none
abbrev pub well_formed : Reading → Bool
well_formed unreadable = false
well_formed malformed = false
well_formed (newer h) = false
well_formed (no_result i) = true
well_formed (results i rs) = true

abbrev pub WellFormed : List ℕ → Type 0
WellFormed body = well_formed (reading body) ≡ true

-- the results of a body; the word none has none
abbrev pub results_of : Reading → List Result
results_of unreadable = []
results_of malformed = []
results_of (newer h) = []
results_of (no_result i) = []
results_of (results i rs) = rs

-- A well-formed result runs from its ";" to the last byte of its last part
abbrev pub IsResult : List ℕ → Result → Type 0
IsResult w r = result w ≡ got r (length w)

-- Answers and reports are the same when number, place returned and bytes written are
pub record Same (x y : Answer) : Type 0 where
  pub number : x.number ≡ y.number
  pub place : x.place ≡ y.place
  pub written : x.written ≡ y.written

-- x is the same as y, and where y is a report (it fits), x counts one ignored result more
pub record OneMore (x y : Answer) : Type 0 where
  pub same : Same x y
  pub counted : y.number ≡ 0 → x.ignored ≡ suc y.ignored
