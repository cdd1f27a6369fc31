-- The calls of the library as their contracts give them: what a call answers, and what then stands in the buffer that was lent to it, which holds
-- `old` before.
use Rattle.std.specs.Prelude.{ℕ, zero, suc, List, length, take}
use Rattle.strip_rules.specs.declared.Stripped.{Stripped}
use Rattle.strip_rules.specs.Strip.{strip}
use Rattle.strip_rules.specs.Answers as strip-answers
use Rattle.strip_steps_rules.specs.declared.Marked.{Marked}
use Rattle.strip_steps_rules.specs.Steps.{mark, copy}
use Rattle.strip_steps_rules.specs.Answers as mark-answers
use Rattle.report_rules.specs.declared.Reported.{Reported}
use Rattle.report_rules.specs.Report.{report}
use Rattle.report_rules.specs.Answers as report-answers
use Rattle.write_rules.specs.declared.Written.{Written}
use Rattle.write_rules.specs.Compose.{compose}
use Rattle.write_rules.specs.Answers as write-answers
use Rattle.arc_rules.specs.declared.Judged.{Judged}
use Rattle.arc_rules.specs.Chain.{judge}
use Rattle.arc_rules.specs.Answers as judge-answers
use Rattle.block_walk_rules.specs.declared.Step.{Step}
use Rattle.block_walk_rules.specs.Steps.{step_from}
use Rattle.blockreport_rules.specs.declared.Detail.{Detail}
use Rattle.blockreport_rules.specs.declared.BlockReported.{BlockReported}
use Rattle.blockreport_rules.specs.BlockReport.{block_report}
use Rattle.blockreport_rules.specs.Answers as block-answers
use Rattle.host_whose_struct.specs.declared.WhoseFace.{WhoseFace}
use Rattle.host_whose_struct.specs.Whose.{whose}

-- `strip::mark(block, list, out)`, the first step of stripping (02, ticket [7])
pub record Marking : Type 0 where
  pub answer : Marked
  pub left : List ℕ

abbrev pub marks : List ℕ → List ℕ → List ℕ → Marking
marks block list old =
    record { answer = mark-answers.answer_of (mark block list (length old)); left = mark-answers.leaves (mark block list (length old)) old }

pub record Stripping : Type 0 where
  pub answer : Stripped
  pub left : List ℕ

-- `strip::copy(block, list, handed, out)`, the second step
abbrev pub copies : List ℕ → List ℕ → List ℕ → List ℕ → Stripping
copies block list handed old =
    record {
      answer = strip-answers.answer_of (copy block list handed (length old));
      left = strip-answers.leaves (copy block list handed (length old)) old;
    }

-- both, as a caller makes them: what the first refuses is refused; else the second is handed the bytes that the first wrote
abbrev pub following : Marking → (List ℕ → Stripping) → List ℕ → Stripping
following m second old =
    elim m.answer.number [
      | zero ↦ second (take m.answer.written m.left)
      | suc n ↦ record { answer = record { number = suc n; place = m.answer.place; kept = 0; removed = 0; fields = 0 }; left = old }
    ]

abbrev pub marks_then_copies : List ℕ → List ℕ → List ℕ → List ℕ → Stripping
marks_then_copies block list first old = following (marks block list first) (λ handed. copies block list handed old) old

-- 01's stripping, which the two give together (`calls-strip` of Ticket7)
abbrev pub strips : List ℕ → List ℕ → List ℕ → Stripping
strips block list old =
    record { answer = strip-answers.answer_of (strip block list (length old)); left = strip-answers.leaves (strip block list (length old)) old }

-- `report::report(body, out)`
pub record Reporting : Type 0 where
  pub answer : Reported
  pub left : List ℕ

abbrev pub reports : List ℕ → List ℕ → Reporting
reports body old = record { answer = report-answers.answer_of (report body (length old)); left = report-answers.leaves (report body (length old)) old }

-- `blockreport::report_block(detail, block, list, out)`
pub record BlockReporting : Type 0 where
  pub answer : BlockReported
  pub left : List ℕ

abbrev pub block_reports : Detail → List ℕ → List ℕ → List ℕ → BlockReporting
block_reports detail block list old =
    record {
      answer = block-answers.answer_of (block_report detail block list (length old));
      left = block-answers.leaves (block_report detail block list (length old)) old;
    }

-- `host_whose::whose(list, body)`, which is lent no buffer
abbrev pub tells : List ℕ → List ℕ → WhoseFace
tells list body = whose list body

-- `write::write(lines, out)`
pub record Writing : Type 0 where
  pub answer : Written
  pub left : List ℕ

abbrev pub writes : List ℕ → List ℕ → Writing
writes lines old = record { answer = write-answers.answer_of (compose lines (length old)); left = write-answers.leaves (compose lines (length old)) old }

-- `arc::judge(block, verdicts)`, which is lent no buffer
abbrev pub judges : List ℕ → List ℕ → Judged
judges block verdicts = judge-answers.answer_of (judge block verdicts)

-- `block_walk::field_from(block, from)`, a step of the walking reader
abbrev pub steps : List ℕ → ℕ → Step
steps block place = step_from block place
