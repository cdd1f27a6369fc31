use native.Mathlib.Omega.{arith}
use Rattle.punycode_hyphens.proofs.Doubles.{passed_start, passed-end, passed-one, passed-two, passed-both}
use Rattle.punycode_hyphens.proofs.double_from.Goals as goal

pub loop-at-init : goal.loop-at-init
loop-at-init c = passed_start _ _

pub returns-then-rest-lt2 : goal.returns-then-rest-lt2
returns-then-rest-lt2 c = passed-end c.args.s.now c.args.at c.loop-at.i c.loop-at.invariant (omega arith)

pub loop-at-preserved-then-s-i-ne45 : goal.loop-at-preserved-then-s-i-ne45
loop-at-preserved-then-s-i-ne45 c = passed-two c.args.s.now c.args.at c.loop-at.i c.loop-at.invariant (omega arith) c.if-s-i-ne45.true

pub loop-at-preserved : goal.loop-at-preserved
loop-at-preserved c = passed-one c.args.s.now c.args.at c.loop-at.i c.loop-at.invariant (omega arith) c.if-s-i-ne45-2.true

pub returns-else-s-i-ne45-2 : goal.returns-else-s-i-ne45-2
returns-else-s-i-ne45-2 c = passed-both c.args.s.now c.args.at c.loop-at.i c.loop-at.invariant (omega arith) c.if-s-i-ne45.false c.if-s-i-ne45-2.false
