-- `punycode::decode` meets its contract: what the decoder tells is the answer; a label of so few bytes has no more code points than
-- there is room for.
use native.Mathlib.Omega.{arith}
use mathlib.Core.Path.{refl}
use Rattle.punycode.proofs.Labelling.{told-points}
use Rattle.punycode.proofs.Answering.{decode-long, decode-failed, decode-text}
use Rattle.punycode.proofs.decode.Goals as goal

pub returns-then-label-gt-LONGEST : goal.returns-then-label-gt-LONGEST
returns-then-label-gt-LONGEST c = decode-long c.args.label.now _ c.if-label-gt-LONGEST.true

pub put_points-length-requires : goal.put_points-length-requires
put_points-length-requires c =
    let t = told-points c.args.label.now c.read_points.new.out c.in-Ok.count (rw c.in-Ok.is at c.read_points.ensures) _ refl in
    (t.0, omega arith, t.1)

pub returns-in-Ok : goal.returns-in-Ok
returns-in-Ok c =
    decode-text c.args.label.now _ c.if-label-gt-LONGEST.false c.read_points.new.out c.read_points.result c.read_points.ensures _ c.in-Ok.is _ refl _ _ c.put_points-length.ensures

pub returns-in-Err : goal.returns-in-Err
returns-in-Err c = decode-failed c.args.label.now _ c.if-label-gt-LONGEST.false c.read_points.new.out c.read_points.result c.read_points.ensures _ c.in-Err.is
