-- `arc_fields::number_at` meets its contract: each way through the code is a case of the parser.
use native.Mathlib.Omega.{arith}
use Rattle.std.proofs.Common.{rules, ◌≡◌, None}
use mathlib.Core.Path.{refl}
use Rattle.arc_fields.proofs.Instances.{digits-inside, digits-all, number-missing, number-none, number-open, number_read}
use Rattle.arc_fields.proofs.number_at.Goals as goal

pub returns-then-e-at : goal.returns-then-e-at
returns-then-e-at c = search number-missing

pub slice_bounds-worth-end : goal.slice_bounds-worth-end
slice_bounds-worth-end c = search digits-inside

pub worth-instance-requires : goal.worth-instance-requires
worth-instance-requires c = search digits-all

pub returns-then-not-is_number : goal.returns-then-not-is_number
returns-then-not-is_number c = search number-none

pub returns-in_err-end : goal.returns-in_err-end
returns-in_err-end c =
    let q : c.from_residual.result ≡ None = search rules in
    rw q (number-open _ _ _ c.run_end-e.ensures c.if-e-at.false _ c.worth-instance.ensures _ c.is_number.ensures c.if-not-is_number.false _ (omega (arith, c.in_err-end.ensures)) refl)

pub returns : goal.returns
returns c = number_read _ _ _ c.run_end-e.ensures c.if-e-at.false _ c.worth-instance.ensures _ c.is_number.ensures c.if-not-is_number.false _ c.in_ok-end.ensures.0 (λ z. omega (arith, c.in_ok-end.ensures.1, z))
