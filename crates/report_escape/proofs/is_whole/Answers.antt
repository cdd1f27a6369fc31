use Rattle.std.proofs.Common.{◌+◌, ◌≤◌, length, arith}
use Rattle.base_sequences.proofs.Booleans.{no_true}
use Rattle.base_readers.proofs.Loops.{reaches-start, text-on}
use Rattle.report_escape.specs.Internal.{verbatim}
use Rattle.report_escape.proofs.Escapes.{whole-text}
use Rattle.report_escape.proofs.is_whole.Goals.{else-loop-i-test, then-loop-i-test+else-has_stop+else-i-end-i-gt8}
use Rattle.report_escape.proofs.is_whole.Goals as goal

pub returns-then-n-lt8 : goal.returns-then-n-lt8
returns-then-n-lt8 c = λ e. absurd (no_true e)

pub loop-i-init : goal.loop-i-init
loop-i-init c = (reaches-start, omega arith)

pub returns-then-has_stop : goal.returns-then-has_stop
returns-then-has_stop c = λ e. absurd (no_true e)

pub loop-i-preserved : goal.loop-i-preserved
loop-i-preserved c = (text-on verbatim _ _ _ _ _ c.loop-i.invariant.0 c.has_stop.ensures c.if-has_stop.false, omega arith)

pub returns : goal.returns
returns c =
    let w = c.loop-i.invariant in
    elim c.loop-i-test.branch [
      | else-loop-i-test v ↦ whole-text _ _ w.0 (omega arith) (omega arith) w.1 _ c.has_stop-2.ensures
      | then-loop-i-test+else-has_stop+else-i-end-i-gt8 v ↦
          (let h : c.loop-i.i + 8 ≤ length c.args.s.now = omega arith in
          whole-text _ _ (text-on verbatim _ _ _ _ _ w.0 v.has_stop.ensures v.if-has_stop.false) (omega arith) (omega arith) h _ c.has_stop-2.ensures)
    ]
