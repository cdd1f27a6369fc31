-- What the code's answers say and what they leave in the lent buffer.
use Rattle.std.specs.Prelude.{ℕ, List, ◌++◌, length, drop}
use Rattle.report_rules.specs.Report.{Answer}
use Rattle.report_rules.specs.declared.Reported.{Reported}

-- number, place and counts; of the bytes written, how many there are
abbrev pub answer_of : Answer → Reported
answer_of a = record { number = a.number; place = a.place; written = length a.written; ignored = a.ignored }

-- 01, Answer numbers: on every answer, bytes past those written stay unchanged
abbrev pub leaves : Answer → List ℕ → List ℕ
leaves a old = a.written ++ drop (length a.written) old
