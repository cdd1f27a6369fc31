-- `report_results::put_reason` meets its contract: the reason that the code finds is the one that the parser reads.
use mathlib.Core.Path.{sym, ◌∙◌}
use Rattle.report_results.proofs.Turns.{reason-put, reason-absent}
use borrow.Author.Rules.{rules}
use Rattle.report_results.proofs.put_reason.Goals as goal

pub returns-in-Stated : goal.returns-in-Stated
returns-in-Stated c = reason-put _ _ _ c.space_end-gap.ensures _ _ _ (sym c.in-Stated.is ∙ c.reason_from.ensures) _ _ _ _
    c.put_reason-n.ensures _ c.space_end.ensures

pub returns-in-Absent : goal.returns-in-Absent
returns-in-Absent c = reason-absent _ _ _ c.space_end-gap.ensures (sym c.in-Absent.is ∙ c.reason_from.ensures) _ _ (search rules)
