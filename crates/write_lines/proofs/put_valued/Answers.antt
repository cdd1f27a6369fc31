-- `write_lines::put_valued` meets its contract: each way out has its law in `Properties`.
use native.Mathlib.Omega.{arith}
use mathlib.Core.Path.{refl}
use Rattle.std.proofs.Common.{rules, ◌≡◌, None}
use Rattle.write_lines.proofs.Properties.{valued_not, valued_fits, valued_one, valued-before, valued-inside, valued-put}
use Rattle.write_lines.proofs.put_valued.Goals as goal

pub returns-in_err-g : goal.returns-in_err-g
returns-in_err-g c =
    let q : c.from_residual.result ≡ None = search rules in
    rw q (valued_not c.args.t.now c.args.p.now c.args.s.now c.args.at c.args.at c.in_err-g.ensures _ _ refl)

pub overflow_add-at : goal.overflow_add-at
overflow_add-at c = valued_fits c.args.t.now c.args.p.now c.args.s.now c.args.at c.in_ok-g.g c.in_ok-g.ensures.0 (λ z. omega (arith, c.in_ok-g.ensures.1, z)) (search rules)

pub overflow_sub-g : goal.overflow_sub-g
overflow_sub-g c = valued_one c.args.t.now c.args.p.now c.args.s.now c.args.at c.in_ok-g.g c.in_ok-g.ensures.0 (λ z. omega (arith, c.in_ok-g.ensures.1, z))

pub slice_bounds-put_shown-count : goal.slice_bounds-put_shown-count
slice_bounds-put_shown-count c = valued-before c.args.t.now c.args.p.now c.args.s.now c.args.at c.in_ok-g.g c.in_ok-g.ensures.0 (λ z. omega (arith, c.in_ok-g.ensures.1, z))

pub slice_bounds-put_shown-start : goal.slice_bounds-put_shown-start
slice_bounds-put_shown-start c = valued-before c.args.t.now c.args.p.now c.args.s.now c.args.at c.in_ok-g.g c.in_ok-g.ensures.0 (λ z. omega (arith, c.in_ok-g.ensures.1, z))

pub slice_bounds-put_shown-end : goal.slice_bounds-put_shown-end
slice_bounds-put_shown-end c = valued-inside c.args.t.now c.args.p.now c.args.s.now c.args.at c.in_ok-g.g c.in_ok-g.ensures.0 (λ z. omega (arith, c.in_ok-g.ensures.1, z))

pub returns : goal.returns
returns c = valued-put c.args.t.now c.args.p.now c.args.s.now c.args.at c.in_ok-g.g c.in_ok-g.ensures.0 (λ z. omega (arith, c.in_ok-g.ensures.1, z)) _ c.byte-k.ensures _ _ _ _ c.put_shown-n.ensures
