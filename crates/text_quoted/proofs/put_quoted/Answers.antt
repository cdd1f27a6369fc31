use native.Mathlib.Omega.{arith}
use borrow.Author.Rules.{rules}
use Rattle.base_readers.proofs.Loops.{turn-fits, turn-less}
use Rattle.lexis_rules.specs.declared.Class.TheVariants.{Quoted}
use Rattle.lexis_rules.specs.Pieces.{item}
use Rattle.lexis_laws.proofs.Pieces.{item-fits}
use Rattle.text_quoted.proofs.Copied.{copy_start, copy_done, copy_more, copy-fits, copy_run, run-passed}
use Rattle.text_quoted.proofs.put_quoted.Goals as goal

pub loop-k-init : goal.loop-k-init
loop-k-init c = search copy_start

pub shape_of-out-then-k-eq0 : goal.shape_of-out-then-k-eq0
shape_of-out-then-k-eq0 c = c.loop-k.invariant.left.long

pub returns-then-k-eq0 : goal.returns-then-k-eq0
returns-then-k-eq0 c = search copy_done

pub overflow_add-n : goal.overflow_add-n
overflow_add-n c = search copy-fits

pub overflow_add-i : goal.overflow_add-i
overflow_add-i c = search (turn-fits (item Quoted) (item-fits Quoted))

pub loop-k-smaller-then-may_fail : goal.loop-k-smaller-then-may_fail
loop-k-smaller-then-may_fail c = search (turn-less (item Quoted) (item-fits Quoted))

pub loop-k-preserved-then-may_fail : goal.loop-k-preserved-then-may_fail
loop-k-preserved-then-may_fail c = copy_more _ _ _ _ _ _ _ c.loop-k.invariant _ c.item_at-k.ensures (search rules) _ c.byte-then-may_fail.ensures _ c.store.ensures

pub slice_bounds-store_run-count : goal.slice_bounds-store_run-count
slice_bounds-store_run-count c = omega (arith, (run-passed _ _ _ c.byte.ensures _ c.may_fail.ensures c.if-may_fail.false _ c.wide_run_end-e.ensures))

pub slice_bounds-store_run-start : goal.slice_bounds-store_run-start
slice_bounds-store_run-start c = omega (arith, (run-passed _ _ _ c.byte.ensures _ c.may_fail.ensures c.if-may_fail.false _ c.wide_run_end-e.ensures))

pub slice_bounds-store_run-end : goal.slice_bounds-store_run-end
slice_bounds-store_run-end c = omega (arith, (run-passed _ _ _ c.byte.ensures _ c.may_fail.ensures c.if-may_fail.false _ c.wide_run_end-e.ensures))

pub overflow_add-n-else-may_fail : goal.overflow_add-n-else-may_fail
overflow_add-n-else-may_fail c = omega (arith, (copy_run _ _ _ _ _ _ _ c.loop-k.invariant _ c.wide_run_end-e.ensures _ _ c.store_run-n.ensures).bound)

pub loop-k-smaller : goal.loop-k-smaller
loop-k-smaller c = omega (arith, (run-passed _ _ _ c.byte.ensures _ c.may_fail.ensures c.if-may_fail.false _ c.wide_run_end-e.ensures))

pub loop-k-preserved : goal.loop-k-preserved
loop-k-preserved c = copy_run _ _ _ _ _ _ _ c.loop-k.invariant _ c.wide_run_end-e.ensures _ _ c.store_run-n.ensures
