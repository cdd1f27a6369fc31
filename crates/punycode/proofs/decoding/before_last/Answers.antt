use Rattle.punycode.proofs.Copying.{sought-start, sought-end, sought-hit, sought-on}
use Rattle.punycode.proofs.decoding.before_last.Goals.{then-s-p-eq45, else-s-p-eq45}
use Rattle.punycode.proofs.decoding.before_last.Goals as goal

pub loop-p-init : goal.loop-p-init
loop-p-init c = sought-start _

pub loop-p-preserved : goal.loop-p-preserved
loop-p-preserved c =
    elim c.if-s-p-eq45.branch [
      | then-s-p-eq45 w ↦ rw w.found-is (sought-hit _ _ _ c.loop-p.invariant c.loop-p-test.true w.if-s-p-eq45.true)
      | else-s-p-eq45 w ↦ rw w.found-is (sought-on _ _ _ c.loop-p.invariant c.loop-p-test.true w.if-s-p-eq45.false)
    ]

pub returns : goal.returns
returns c = sought-end _ _ _ c.loop-p.invariant c.loop-p-test.false
