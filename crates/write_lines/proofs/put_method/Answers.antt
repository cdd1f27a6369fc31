-- `write_lines::put_method` meets its contract: each way out has its law in `Methods`.
use native.Mathlib.Omega.{arith}
use mathlib.Core.Path.{refl}
use Rattle.std.proofs.Common.{rules, ◌≡◌, ◌+◌, None}
use Rattle.write_lines.proofs.Methods as laws
use Rattle.write_lines.proofs.put_method.Goals as goal

pub returns-then-not-is_literal : goal.returns-then-not-is_literal
returns-then-not-is_literal c = search laws.method-unlike

pub overflow_add-a : goal.overflow_add-a
overflow_add-a c = laws.method-fits c.args.s.now c.args.at _ c.is_literal.ensures c.if-not-is_literal.false (search rules)

pub returns-in_err-e : goal.returns-in_err-e
returns-in_err-e c =
    let q : c.from_residual.result ≡ None = search rules in
    rw q (laws.method-first c.args.s.now c.args.at _ c.is_literal.ensures c.if-not-is_literal.false (c.args.at + 2) (omega (arith, c.in_err-e.ensures)) _ _ refl)

pub overflow_add-b : goal.overflow_add-b
overflow_add-b c = laws.method-next c.args.s.now c.args.at _ c.is_literal.ensures c.if-not-is_literal.false c.in_ok-e.e c.in_ok-e.ensures.0 (λ z. omega (arith, c.in_ok-e.ensures.1, z)) (search rules)

pub returns-in_err-f : goal.returns-in_err-f
returns-in_err-f c =
    let q : c.from_residual-in_err-f.result ≡ None = search rules in
    rw q (laws.method-second c.args.s.now c.args.at _ c.is_literal.ensures c.if-not-is_literal.false c.in_ok-e.e c.in_ok-e.ensures.0 (λ z. omega (arith, c.in_ok-e.ensures.1, z)) (c.in_ok-e.e + 1) (omega (arith, c.in_err-f.ensures)) _ _ refl)

pub slice_bounds-method-end : goal.slice_bounds-method-end
slice_bounds-method-end c = laws.method-inside c.args.s.now c.args.at _ c.is_literal.ensures c.if-not-is_literal.false c.in_ok-e.e c.in_ok-e.ensures.0 (λ z. omega (arith, c.in_ok-e.ensures.1, z))

pub slice_bounds-result-end : goal.slice_bounds-result-end
slice_bounds-result-end c = laws.method-inside-second c.args.s.now c.args.at _ c.is_literal.ensures c.if-not-is_literal.false c.in_ok-e.e c.in_ok-e.ensures.0 (λ z. omega (arith, c.in_ok-e.ensures.1, z)) c.in_ok-f.f c.in_ok-f.ensures.0 (λ z. omega (arith, c.in_ok-f.ensures.1, z))

pub overflow_add-result : goal.overflow_add-result
overflow_add-result c = laws.method-last c.args.s.now c.args.at _ c.is_literal.ensures c.if-not-is_literal.false c.in_ok-e.e c.in_ok-e.ensures.0 (λ z. omega (arith, c.in_ok-e.ensures.1, z)) c.in_ok-f.f c.in_ok-f.ensures.0 (λ z. omega (arith, c.in_ok-f.ensures.1, z)) (search rules)

pub returns-then-not-is_known : goal.returns-then-not-is_known
returns-then-not-is_known c = laws.method-unknown c.args.s.now c.args.at _ c.is_literal.ensures c.if-not-is_literal.false c.in_ok-e.e c.in_ok-e.ensures.0 (λ z. omega (arith, c.in_ok-e.ensures.1, z)) c.in_ok-f.f c.in_ok-f.ensures.0 (λ z. omega (arith, c.in_ok-f.ensures.1, z)) _ c.is_known.ensures _ _ c.if-not-is_known.true

pub returns : goal.returns
returns c = laws.method-put c.args.s.now c.args.at _ c.is_literal.ensures c.if-not-is_literal.false c.in_ok-e.e c.in_ok-e.ensures.0 (λ z. omega (arith, c.in_ok-e.ensures.1, z)) c.in_ok-f.f c.in_ok-f.ensures.0 (λ z. omega (arith, c.in_ok-f.ensures.1, z)) _ c.is_known.ensures c.if-not-is_known.false _ _ _ _ c.put_known-n.ensures
