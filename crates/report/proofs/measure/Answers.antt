-- `report::measure` meets its contract: one law for each way out.
use mathlib.Core.Path.{sym, ◌∙◌}
use mathlib.Core.List.{[]}
use Rattle.report.proofs.Ends.{told-room}
use Rattle.report.proofs.Measures.{measured-1, measured-7, measured-told}
use Rattle.report.proofs.measure.Goals as goal

pub returns-then-too_long : goal.returns-then-too_long
returns-then-too_long c = measured-1 _ _ c.too_long.ensures c.if-too_long.true _ c.refuse.ensures

pub returns-in_default : goal.returns-in_default
returns-in_default c = measured-7 _ _ c.too_long.ensures c.if-too_long.false
    (sym c.in_default.is ∙ c.identify.ensures) _ c.refuse-in_default.ensures

pub put_body-requires : goal.put_body-requires
put_body-requires c = told-room _ [] _ c.too_long.ensures c.if-too_long.false _ _ _
    (sym c.in-Readable.is ∙ c.identify.ensures)

pub returns : goal.returns
returns c = measured-told _ _ c.too_long.ensures
    c.if-too_long.false _ _ _ c.put_body.ensures
