-- What a call tells of a body that was read: number, bytes and count of each case, where there is room.
use Rattle.std.specs.Prelude.{ℕ, Bool, true, false, List, [], ◌++◌}
use Rattle.report_rules.specs.Body.{Reading, unreadable, malformed, newer, no_result, results}
use Rattle.report_rules.specs.Report.{Answer, id_line, version_line, none_line, lines, ignored_of}

-- 01, Answer numbers: 7 identifier unreadable, 9 body not well-formed, 8 header version not 1, 0 done
abbrev pub number_of : Reading → ℕ
number_of unreadable = 7
number_of malformed = 9
number_of (newer h) = 8
number_of (no_result i) = 0
number_of (results i rs) = 0

-- what it writes
abbrev pub text_of : Reading → List ℕ
text_of unreadable = []
text_of malformed = []
text_of (newer h) = id_line h.identifier ++ version_line h.version
text_of (no_result i) = id_line i ++ none_line
text_of (results i rs) = id_line i ++ lines rs

-- and how many results are ignored
abbrev pub count_of : Reading → ℕ
count_of unreadable = 0
count_of malformed = 0
count_of (newer h) = 0
count_of (no_result i) = 0
count_of (results i rs) = ignored_of rs

-- a body that can be read has a report, of its results or of its newer version
abbrev pub has_report : Reading → Bool
has_report unreadable = false
has_report malformed = false
has_report (newer h) = true
has_report (no_result i) = true
has_report (results i rs) = true

-- what is told where there is room
abbrev pub told : Reading → Answer
told x = record { number = number_of x; place = 0; ignored = count_of x; written = text_of x }
