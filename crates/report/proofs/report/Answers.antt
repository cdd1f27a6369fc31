-- `report::report` meets its contract: one law for each way out.
use mathlib.Core.Path.{sym, ◌∙◌}
use Rattle.report.proofs.Ends.{answer-1, answer-7, told-room}
use Rattle.report.proofs.report.Goals as goal

pub returns-then-too_long : goal.returns-then-too_long
returns-then-too_long c =
    record { value = (answer-1 _ _ _ c.too_long.ensures c.if-too_long.true _ c.refuse.ensures).0; out_after = (answer-1 _ _ _ c.too_long.ensures c.if-too_long.true _ c.refuse.ensures).1 }

pub returns-in_default : goal.returns-in_default
returns-in_default c =
    record {
      value = (answer-7 _ _ _ c.too_long.ensures c.if-too_long.false
          (sym c.in_default.is ∙ c.identify.ensures) _ c.refuse-in_default.ensures).0;
      out_after = (answer-7 _ _ _ c.too_long.ensures c.if-too_long.false
          (sym c.in_default.is ∙ c.identify.ensures) _ c.refuse-in_default.ensures).1;
    }

pub put_measured-requires : goal.put_measured-requires
put_measured-requires c = told-room _ c.args.out.now _
    c.too_long.ensures c.if-too_long.false _ _ _
    (sym c.in-Readable.is ∙ c.identify.ensures)

pub returns : goal.returns
returns c =
    record { value = c.put_measured.ensures.value; out_after = c.put_measured.ensures.out_after }
