-- `report::put_headed` meets its contract: header version 1 or none, or another one, by what is found.
use mathlib.Core.Path.{sym, ◌∙◌}
use Rattle.report.proofs.Heads.{one-stated, other-room, other-stated, absent-stated}
use Rattle.report.proofs.put_headed.Goals as goal

pub returns-then-is_one : goal.returns-then-is_one
returns-then-is_one c = one-stated _ _ _ _ _ _ _ (sym c.in-Stated.is ∙ c.version_at.ensures) _ c.is_one.ensures c.if-is_one.true _ _
    c.put_version_one.ensures

pub put_newer-requires : goal.put_newer-requires
put_newer-requires c = other-room _ _ c.args.out.now _ _ _ _ (sym c.in-Stated.is ∙ c.version_at.ensures)
    c.requires

pub returns-else-is_one : goal.returns-else-is_one
returns-else-is_one c = other-stated _ _ _ _ _ _ _ (sym c.in-Stated.is ∙ c.version_at.ensures) _ c.is_one.ensures c.if-is_one.false _ _
    c.put_newer.ensures

pub returns-in-Absent : goal.returns-in-Absent
returns-in-Absent c = absent-stated _ _ _ _ (sym c.in-Absent.is ∙ c.version_at.ensures) _ _ c.put_version_one-in-Absent.ensures
