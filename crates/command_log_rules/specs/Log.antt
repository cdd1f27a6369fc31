-- 02, ticket [7]: some hosts want to log before they delete. What the command says on standard error before it strips: one line for each field that goes.
use Rattle.std.specs.Prelude.{ℕ, suc, cond, List, [], ◌∷◌, ◌++◌, eqb, get_or, take}
use Rattle.base_readers.specs.Texts.{bytes}
use Rattle.text_decimals_rules.specs.Decimals.{decimal}
use Rattle.block_rules.specs.Fields.{Field}
use Rattle.ownlist_rules.specs.Calls.{by_list, by_fields}
use Rattle.strip_steps_rules.specs.Terms.{marks_for}
use Rattle.report_rules.specs.Report.{escape}

-- so many bytes of a field are shown at most
abbrev pub shown : ℕ
shown = 64

-- the line of the field with this number, from 1, among all fields of the block: its first bytes, coded as in a report
unfoldable pub goes_line : ℕ → List ℕ → List ℕ
goes_line n field = bytes "orbendash: goes: " ++ (decimal n ++ (bytes ": " ++ (escape (take shown field) ++ bytes "\n")))

-- the same by its mark: nothing of a field that stays
unfoldable pub line_by : ℕ → ℕ → List ℕ → List ℕ
line_by mark n field = cond (eqb mark 1) (goes_line n field) []

-- the lines of fields, behind so many others; the mark of each stands where it stands itself
unfoldable pub lines_by : List ℕ → ℕ → List Field → List ℕ
lines_by marks count [] = []
lines_by marks count (f ∷ fs) = line_by (get_or marks count 0) (suc count) f.bytes ++ lines_by marks (suc count) fs

-- nothing where stripping refuses the block or the list: then no field goes
abbrev pub nothing : ℕ → ℕ → List ℕ
nothing number place = []

unfoldable pub log_of : List ℕ → List ℕ → List ℕ
log_of block list = by_list nothing block list (λ own. by_fields nothing block (λ fs. lines_by (marks_for block list) 0 fs))
