use native.Mathlib.Omega.{arith}
use lib.ListN.{get_or}
use Rattle.punycode_laws.proofs.Encoding.{utf8-bounds}
use Rattle.punycode.proofs.Writing.{pointed-start, pointed-small, pointed-on, pointed-end}
use Rattle.punycode.proofs.utf8.put_points.Goals as goal

pub loop-x-init : goal.loop-x-init
loop-x-init c = pointed-start _ _ _ c.requires.2

pub put_point-n-requires : goal.put_point-n-requires
put_point-n-requires c = (pointed-small _ _ _ _ _ _ c.loop-x.invariant c.loop-x-test.true, omega (arith, c.requires.0, c.requires.1, c.loop-x.invariant.bound))

pub overflow_add-n : goal.overflow_add-n
overflow_add-n c = omega (arith, c.put_point-n.ensures.count, utf8-bounds (get_or c.args.points.now c.loop-x.x-index 0), c.loop-x.invariant.bound, c.requires.0)

pub loop-x-preserved : goal.loop-x-preserved
loop-x-preserved c = pointed-on _ _ _ _ _ _ c.loop-x.invariant c.loop-x-test.true _ _ c.put_point-n.ensures

pub shape_of-out : goal.shape_of-out
shape_of-out c = c.loop-x.invariant.left.long

pub returns : goal.returns
returns c = pointed-end _ _ _ _ _ _ c.loop-x.invariant c.loop-x-test.false
