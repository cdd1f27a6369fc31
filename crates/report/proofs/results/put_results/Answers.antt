use native.Mathlib.Omega.{arith}
use Rattle.report.proofs.Passes.{passing-start, passing-room, passing-further, passing-shown, passing-ignored, passed}
use Rattle.report.proofs.results.put_results.Goals as goal

pub loop-turn-init : goal.loop-turn-init
loop-turn-init c = passing-start _ _ _ _ _ c.requires.0

pub put_next-requires : goal.put_next-requires
put_next-requires c = passing-room _ _ _ _ _ _ _ _ _ c.loop-turn.invariant c.requires.1.0 c.requires.1.1

pub loop-turn-smaller-then-turn : goal.loop-turn-smaller-then-turn
loop-turn-smaller-then-turn c = omega (arith, (passing-further _ _ _ _ _ _ _ _ _ c.loop-turn.invariant _ _ c.in-Some.ensures))

pub loop-turn-preserved-then-turn : goal.loop-turn-preserved-then-turn
loop-turn-preserved-then-turn c = passing-shown _ _ _ _ _ _ _ _ _ c.loop-turn.invariant _ _ c.in-Some.ensures c.if-turn.true

pub overflow_add-ignored : goal.overflow_add-ignored
overflow_add-ignored c = omega (arith, (passing-further _ _ _ _ _ _ _ _ _ c.loop-turn.invariant _ _ c.in-Some.ensures), c.loop-turn.invariant.few, c.requires.1.0)

pub loop-turn-smaller : goal.loop-turn-smaller
loop-turn-smaller c = omega (arith, (passing-further _ _ _ _ _ _ _ _ _ c.loop-turn.invariant _ _ c.in-Some.ensures))

pub loop-turn-preserved : goal.loop-turn-preserved
loop-turn-preserved c = passing-ignored _ _ _ _ _ _ _ _ _ c.loop-turn.invariant _ _ c.in-Some.ensures c.if-turn.false

pub returns : goal.returns
returns c = passed _ _ _ _ _ _ _ _ _ c.loop-turn.invariant _ c.in_default.ensures
