-- `arc_fields::instance_of` meets its contract: each way through the code is a case of the parser.
use native.Mathlib.Omega.{arith}
use Rattle.std.proofs.Common.{rules, ◌≡◌, None}
use mathlib.Core.Path.{refl}
use Rattle.arc_fields.proofs.Instances.{instance-no-name, instance-no-equals, instance-from}
use Rattle.arc_fields.proofs.instance_of.Goals as goal

pub returns-in_err-a : goal.returns-in_err-a
returns-in_err-a c =
    let q : c.from_residual.result ≡ None = search rules in
    rw q (instance-no-name c.args.body.now 0 (omega (arith, c.in_err-a.ensures)) refl)

pub returns-in_err-b : goal.returns-in_err-b
returns-in_err-b c =
    let q : c.from_residual-in_err-b.result ≡ None = search rules in
    rw q (instance-no-equals c.args.body.now c.in_ok-a.a c.in_ok-a.ensures.0 (λ z. omega (arith, c.in_ok-a.ensures.1, z)) c.in_ok-a.a (omega (arith, c.in_err-b.ensures)) refl)

pub returns : goal.returns
returns c = instance-from c.args.body.now c.in_ok-a.a c.in_ok-a.ensures.0 (λ z. omega (arith, c.in_ok-a.ensures.1, z)) c.in_ok-b.b c.in_ok-b.ensures.0 (λ z. omega (arith, c.in_ok-b.ensures.1, z)) _ c.space_end.ensures _ c.number_at.ensures
