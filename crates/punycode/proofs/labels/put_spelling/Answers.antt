use native.Mathlib.Omega.{arith}
use Rattle.punycode_laws.proofs.Spelling.{end_low}
use Rattle.punycode.proofs.Labelling.{written_start, written_over, written-end, written_on}
use Rattle.punycode.proofs.labels.put_spelling.Goals as goal

pub loop-n-init : goal.loop-n-init
loop-n-init c = written_start _ _

pub slice_bounds-put_label-count : goal.slice_bounds-put_label-count
slice_bounds-put_label-count c = omega (arith, end_low c.args.t.now _ _ c.run_end-e.ensures c.loop-n.invariant.low)

pub slice_bounds-put_label-start : goal.slice_bounds-put_label-start
slice_bounds-put_label-start c = omega (arith, end_low c.args.t.now _ _ c.run_end-e.ensures c.loop-n.invariant.low)

pub slice_bounds-put_label-end : goal.slice_bounds-put_label-end
slice_bounds-put_label-end c = omega (arith, end_low c.args.t.now _ _ c.run_end-e.ensures c.loop-n.invariant.low)

pub put_label-n-requires : goal.put_label-n-requires
put_label-n-requires c = c.loop-n.invariant.small

pub overflow_add-n : goal.overflow_add-n
overflow_add-n c = omega (arith, c.loop-n.invariant.small, c.put_label-n.ensures.bound)

pub shape_of-out-then-n-gt-LONGEST : goal.shape_of-out-then-n-gt-LONGEST
shape_of-out-then-n-gt-LONGEST c = omega (arith, c.loop-n.invariant.left.long)

pub returns-then-n-gt-LONGEST : goal.returns-then-n-gt-LONGEST
returns-then-n-gt-LONGEST c = search written_over

pub shape_of-out-then-e-t : goal.shape_of-out-then-e-t
shape_of-out-then-e-t c = omega (arith, c.loop-n.invariant.left.long)

pub returns-then-e-t : goal.returns-then-e-t
returns-then-e-t c = search written-end

pub overflow_add-n-in-loop-n : goal.overflow_add-n-in-loop-n
overflow_add-n-in-loop-n c = omega (arith, c.if-n-gt-LONGEST.false)

pub overflow_add-at : goal.overflow_add-at
overflow_add-at c = omega (arith, end_low c.args.t.now _ _ c.run_end-e.ensures c.loop-n.invariant.low)

pub loop-n-smaller : goal.loop-n-smaller
loop-n-smaller c = omega (arith, end_low c.args.t.now _ _ c.run_end-e.ensures c.loop-n.invariant.low)

pub loop-n-preserved : goal.loop-n-preserved
loop-n-preserved c = search written_on
