-- `write_columns::shown::shown_end` meets its contract: each way out has its law in `Allowed`.
use native.Mathlib.Omega.{arith}
use mathlib.Core.Path.{refl}
use Rattle.std.proofs.Common.{rules, ◌≡◌, None}
use Rattle.write_columns.proofs.Allowed.{valued_not, valued-coded, valued_fits, valued_one, valued-before, valued-inside, valued-unallowed, valued-allowed}
use Rattle.write_columns.proofs.shown.shown_end.Goals as goal

pub returns-in_err-g : goal.returns-in_err-g
returns-in_err-g c =
    let q : c.from_residual.result ≡ None = search rules in
    rw q (valued_not _ _ _ c.in_err-g.ensures _ _ refl)

pub overflow_add-at : goal.overflow_add-at
overflow_add-at c = search (valued_fits _ _ _ c.in_ok-g.ensures.0 (λ z. omega (arith, c.in_ok-g.ensures.1, z)))

pub overflow_sub-g : goal.overflow_sub-g
overflow_sub-g c = valued_one _ _ _ c.in_ok-g.ensures.0 (λ z. omega (arith, c.in_ok-g.ensures.1, z))

pub slice_bounds-is_allowed-count : goal.slice_bounds-is_allowed-count
slice_bounds-is_allowed-count c = valued-before _ _ _ c.in_ok-g.ensures.0 (λ z. omega (arith, c.in_ok-g.ensures.1, z))

pub slice_bounds-is_allowed-start : goal.slice_bounds-is_allowed-start
slice_bounds-is_allowed-start c = valued-before _ _ _ c.in_ok-g.ensures.0 (λ z. omega (arith, c.in_ok-g.ensures.1, z))

pub slice_bounds-is_allowed-end : goal.slice_bounds-is_allowed-end
slice_bounds-is_allowed-end c = valued-inside _ _ _ c.in_ok-g.ensures.0 (λ z. omega (arith, c.in_ok-g.ensures.1, z))

pub is_allowed-requires : goal.is_allowed-requires
is_allowed-requires c = valued-coded _ _ _ c.in_ok-g.ensures.0 (λ z. omega (arith, c.in_ok-g.ensures.1, z))

pub returns-then-is_allowed : goal.returns-then-is_allowed
returns-then-is_allowed c = (valued-allowed _ _ _ c.in_ok-g.ensures.0 (λ z. omega (arith, c.in_ok-g.ensures.1, z)) _ _ _ c.byte-k.ensures _ c.is_allowed.ensures c.if-is_allowed.true, c.in_ok-g.ensures.1)

pub returns : goal.returns
returns c = valued-unallowed _ _ _ c.in_ok-g.ensures.0 (λ z. omega (arith, c.in_ok-g.ensures.1, z)) _ _ _ c.byte-k.ensures _ c.is_allowed.ensures c.if-is_allowed.false
