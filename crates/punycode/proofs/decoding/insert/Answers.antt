use lib.ListN.{length-set}
use mathlib.Core.Path.{◌∙◌}
use native.Mathlib.Omega.{arith}
use Rattle.punycode.proofs.Inserting.{moved-start, moved_on, moved-end}
use Rattle.punycode.proofs.decoding.insert.Goals as goal

pub loop-j-init : goal.loop-j-init
loop-j-init c = (moved-start _ _, omega arith)

pub loop-j-preserved : goal.loop-j-preserved
loop-j-preserved c = (moved_on _ _ (omega arith) _ _ _ c.loop-j.invariant.0 c.loop-j-test.true, omega arith)

pub shape_of-out : goal.shape_of-out
shape_of-out c = length-set c.loop-j.out _ _ ∙ c.loop-j.invariant.0.long

pub returns : goal.returns
returns c = moved-end _ _ (omega arith) _ _ _ _ c.loop-j.invariant.0 c.loop-j.invariant.1 (omega arith)
