-- `write_lines::put_property` meets its contract: each way out has its law in `Properties`.
use native.Mathlib.Omega.{arith}
use mathlib.Core.Path.{refl}
use Rattle.std.proofs.Common.{rules, ◌≡◌, ◌+◌, None}
use Rattle.write_lines.proofs.Properties as laws
use Rattle.write_lines.proofs.put_property.Goals as goal

pub returns-then-not-is_literal : goal.returns-then-not-is_literal
returns-then-not-is_literal c = search laws.property-unlike

pub overflow_add-a : goal.overflow_add-a
overflow_add-a c = laws.property-fits c.args.s.now c.args.at _ c.is_literal.ensures c.if-not-is_literal.false (search rules)

pub returns-in_err-e : goal.returns-in_err-e
returns-in_err-e c =
    let q : c.from_residual.result ≡ None = search rules in
    rw q (laws.property-first c.args.s.now c.args.at _ c.is_literal.ensures c.if-not-is_literal.false (c.args.at + 2) (omega (arith, c.in_err-e.ensures)) _ _ refl)

pub overflow_add-b : goal.overflow_add-b
overflow_add-b c = laws.property-next c.args.s.now c.args.at _ c.is_literal.ensures c.if-not-is_literal.false c.in_ok-e.e c.in_ok-e.ensures.0 (λ z. omega (arith, c.in_ok-e.ensures.1, z)) (search rules)

pub returns-in_err-f : goal.returns-in_err-f
returns-in_err-f c =
    let q : c.from_residual-in_err-f.result ≡ None = search rules in
    rw q (laws.property-second c.args.s.now c.args.at _ c.is_literal.ensures c.if-not-is_literal.false c.in_ok-e.e c.in_ok-e.ensures.0 (λ z. omega (arith, c.in_ok-e.ensures.1, z)) (c.in_ok-e.e + 1) (omega (arith, c.in_err-f.ensures)) _ _ refl)

pub slice_bounds-put_valued-end : goal.slice_bounds-put_valued-end
slice_bounds-put_valued-end c = laws.property-inside c.args.s.now c.args.at _ c.is_literal.ensures c.if-not-is_literal.false c.in_ok-e.e c.in_ok-e.ensures.0 (λ z. omega (arith, c.in_ok-e.ensures.1, z))

pub slice_bounds-put_valued-end-2 : goal.slice_bounds-put_valued-end-2
slice_bounds-put_valued-end-2 c = laws.property-inside-second c.args.s.now c.args.at _ c.is_literal.ensures c.if-not-is_literal.false c.in_ok-e.e c.in_ok-e.ensures.0 (λ z. omega (arith, c.in_ok-e.ensures.1, z)) c.in_ok-f.f c.in_ok-f.ensures.0 (λ z. omega (arith, c.in_ok-f.ensures.1, z))

pub returns : goal.returns
returns c = laws.property-shown c.args.s.now c.args.at _ c.is_literal.ensures c.if-not-is_literal.false c.in_ok-e.e c.in_ok-e.ensures.0 (λ z. omega (arith, c.in_ok-e.ensures.1, z)) c.in_ok-f.f c.in_ok-f.ensures.0 (λ z. omega (arith, c.in_ok-f.ensures.1, z)) _ _ _ _ c.put_valued.ensures
