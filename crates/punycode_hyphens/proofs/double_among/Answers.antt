use native.Mathlib.Omega.{arith}
use Rattle.punycode_hyphens.proofs.Doubles.{scanned-start, scanned-on, scanned-all}
use Rattle.punycode_hyphens.proofs.double_among.Goals as goal

pub loop-j-init : goal.loop-j-init
loop-j-init c = scanned-start _ _

pub loop-j-preserved : goal.loop-j-preserved
loop-j-preserved c = scanned-on c.args.s.now c.args.at c.loop-j.j _ c.loop-j.invariant (omega (arith, c.requires, c.loop-j-test.true)) _ c.are_hyphens-hit.ensures

pub returns : goal.returns
returns c = scanned-all c.args.s.now c.args.at c.loop-j.j c.args.n _ c.loop-j.invariant (omega arith)
