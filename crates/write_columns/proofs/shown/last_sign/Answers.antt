use mathlib.Core.Path.{sym}
use lib.Seq.{take-length}
use Rattle.write_columns.proofs.Shapes.{signing-start, signing-none, signing-found, signing-more}
use Rattle.write_columns.proofs.shown.last_sign.Goals as goal

pub loop-last-init : goal.loop-last-init
loop-last-init c = (sym (take-length c.args.part.now), signing-start _)

pub returns-then-last-eq64 : goal.returns-then-last-eq64
returns-then-last-eq64 c = signing-found _ _ _ _ c.in-Some.ensures.cases c.loop-last.invariant.0 c.loop-last.invariant.1 c.if-last-eq64.true

pub loop-last-preserved : goal.loop-last-preserved
loop-last-preserved c = signing-more _ _ _ _ c.in-Some.ensures.cases c.loop-last.invariant.0 c.loop-last.invariant.1 c.if-last-eq64.false

pub returns : goal.returns
returns c = signing-none _ _ c.in_default.ensures.cases c.loop-last.invariant.1
