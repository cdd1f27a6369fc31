use Rattle.punycode_laws.proofs.Digits.{scalar_below}
use native.Mathlib.Omega.{arith}
use mathlib.Core.Path.{sym, ◌∙◌}
use Rattle.punycode.proofs.Reading.{reading-start, reads-text, reads-cut, reads_none, reads-large, reads_more, reads-long, reads-bad, reads-place, reads-positive, reads-last}
use Rattle.punycode.proofs.decoding.read_numbers.Goals as goal

pub loop-p-init : goal.loop-p-init
loop-p-init c = reading-start _ _ _ _ c.requires _ c.fresh-q.ensures

pub shape_of-out-then-d-ge-BASE : goal.shape_of-out-then-d-ge-BASE
shape_of-out-then-d-ge-BASE c = c.loop-p.invariant.long ∙ sym c.requires.long

pub returns-then-d-ge-BASE : goal.returns-then-d-ge-BASE
returns-then-d-ge-BASE c = reads_none _ _ _ _ _ _ _ c.loop-p.invariant c.loop-p-test.true _ c.digit_of-d.ensures c.if-d-ge-BASE.true

pub advanced-requires : goal.advanced-requires
advanced-requires c = (c.loop-p.invariant.small, c.if-d-ge-BASE.false)

pub shape_of-out-then-advanced-ge-LIMIT : goal.shape_of-out-then-advanced-ge-LIMIT
shape_of-out-then-advanced-ge-LIMIT c = c.loop-p.invariant.long ∙ sym c.requires.long

pub returns-then-advanced-ge-LIMIT : goal.returns-then-advanced-ge-LIMIT
returns-then-advanced-ge-LIMIT c = reads-large _ _ _ _ _ _ _ c.loop-p.invariant c.loop-p-test.true _ c.digit_of-d.ensures c.if-d-ge-BASE.false (rw c.advanced.ensures at c.if-advanced-ge-LIMIT.true)

pub threshold-requires : goal.threshold-requires
threshold-requires c = c.loop-p.invariant.small.bias

pub shape_of-out-then-count-out : goal.shape_of-out-then-count-out
shape_of-out-then-count-out c = c.loop-p.invariant.long ∙ sym c.requires.long

pub returns-then-count-out : goal.returns-then-count-out
returns-then-count-out c = reads-long _ _ _ _ _ _ _ c.loop-p.invariant c.loop-p-test.true _ c.digit_of-d.ensures c.if-d-ge-BASE.false (rw c.advanced.ensures at c.if-advanced-ge-LIMIT.false) (rw c.threshold.ensures at c.if-threshold-d.false) c.if-count-out.true

pub last-q-requires : goal.last-q-requires
last-q-requires c = (c.loop-p.invariant.small, c.if-d-ge-BASE.false, (rw c.advanced.ensures at c.if-advanced-ge-LIMIT.false), c.loop-p.invariant.enough)

pub shape_of-out-then-not-is_scalar : goal.shape_of-out-then-not-is_scalar
shape_of-out-then-not-is_scalar c = c.loop-p.invariant.long ∙ sym c.requires.long

pub returns-then-not-is_scalar : goal.returns-then-not-is_scalar
returns-then-not-is_scalar c = reads-bad _ _ _ _ _ _ _ c.loop-p.invariant c.loop-p-test.true _ c.digit_of-d.ensures c.if-d-ge-BASE.false (rw c.advanced.ensures at c.if-advanced-ge-LIMIT.false) (rw c.threshold.ensures at c.if-threshold-d.false) _ c.last-q.ensures (sym c.is_scalar.ensures ∙ c.if-not-is_scalar.true)

pub overflow_sub-q : goal.overflow_sub-q
overflow_sub-q c = reads-positive _ _ _ _ _ _ _ c.loop-p.invariant c.loop-p-test.true _ c.digit_of-d.ensures c.if-d-ge-BASE.false (rw c.advanced.ensures at c.if-advanced-ge-LIMIT.false) (rw c.threshold.ensures at c.if-threshold-d.false) _ c.last-q.ensures

pub overflow_cast-q : goal.overflow_cast-q
overflow_cast-q c = omega (arith, scalar_below _ (sym c.is_scalar.ensures ∙ c.if-not-is_scalar.false))

pub insert-requires : goal.insert-requires
insert-requires c = (reads-place _ _ _ _ _ _ _ c.loop-p.invariant c.loop-p-test.true _ c.digit_of-d.ensures c.if-d-ge-BASE.false (rw c.advanced.ensures at c.if-advanced-ge-LIMIT.false) (rw c.threshold.ensures at c.if-threshold-d.false) _ c.last-q.ensures, c.if-count-out.false)

pub overflow_add-count : goal.overflow_add-count
overflow_add-count c = omega (arith, c.loop-p.invariant.enough)

pub loop-p-preserved : goal.loop-p-preserved
loop-p-preserved c = reads-last _ _ _ _ _ _ _ c.loop-p.invariant c.loop-p-test.true _ c.digit_of-d.ensures c.if-d-ge-BASE.false (rw c.advanced.ensures at c.if-advanced-ge-LIMIT.false) (rw c.threshold.ensures at c.if-threshold-d.false) _ c.last-q.ensures (sym c.is_scalar.ensures ∙ c.if-not-is_scalar.false) c.if-count-out.false _ c.insert.ensures

pub more-q-requires : goal.more-q-requires
more-q-requires c = (c.loop-p.invariant.small, c.if-d-ge-BASE.false)

pub loop-p-preserved-then-threshold-d : goal.loop-p-preserved-then-threshold-d
loop-p-preserved-then-threshold-d c = reads_more _ _ _ _ _ _ _ c.loop-p.invariant c.loop-p-test.true _ c.digit_of-d.ensures c.if-d-ge-BASE.false (rw c.advanced.ensures at c.if-advanced-ge-LIMIT.false) (rw c.threshold.ensures at c.if-threshold-d.true) _ c.more-q.ensures

pub shape_of-out-then-q-eq-BASE : goal.shape_of-out-then-q-eq-BASE
shape_of-out-then-q-eq-BASE c = c.loop-p.invariant.long ∙ sym c.requires.long

pub returns-then-q-eq-BASE : goal.returns-then-q-eq-BASE
returns-then-q-eq-BASE c = reads-text _ _ _ _ _ _ _ c.loop-p.invariant c.loop-p-test.false c.if-q-eq-BASE.true

pub shape_of-out-else-q-eq-BASE : goal.shape_of-out-else-q-eq-BASE
shape_of-out-else-q-eq-BASE c = c.loop-p.invariant.long ∙ sym c.requires.long

pub returns-else-q-eq-BASE : goal.returns-else-q-eq-BASE
returns-else-q-eq-BASE c = reads-cut _ _ _ _ _ _ _ c.loop-p.invariant c.loop-p-test.false c.if-q-eq-BASE.false
