use Rattle.std.proofs.Common.{◌≡◌, length, sym, arith}
use lib.Seq.{length-take-le}
use Rattle.result_table.proofs.Numbered.{fits-at, passed_none, passed-all, passed-hit, passed-more, passed-other}
use Rattle.result_table.proofs.number_of.Goals as goal

pub loop-i-init : goal.loop-i-init
loop-i-init c = passed_none _ _ _

pub bounds-lengths-i : goal.bounds-lengths-i
bounds-lengths-i c = (fits-at _ _ _ c.requires c.loop-i-test.true).0

pub loop-i-preserved-then-lengths-i : goal.loop-i-preserved-then-lengths-i
loop-i-preserved-then-lengths-i c = passed-other _ _ _ _ c.loop-i.invariant c.requires c.loop-i-test.true c.if-lengths-i.true

pub bounds-lengths-i-in-loop-i : goal.bounds-lengths-i-in-loop-i
bounds-lengths-i-in-loop-i c = (fits-at _ _ _ c.requires c.loop-i-test.true).0

pub slice_bounds-row-end : goal.slice_bounds-row-end
slice_bounds-row-end c = (fits-at _ _ _ c.requires c.loop-i-test.true).1

pub slice_bounds-same_word-end : goal.slice_bounds-same_word-end
slice_bounds-same_word-end c = sym (length-take-le _ _ (fits-at _ _ _ c.requires c.loop-i-test.true).1)

pub returns-then-same_word : goal.returns-then-same_word
returns-then-same_word c = passed-hit _ _ _ _ c.loop-i.invariant c.requires c.loop-i-test.true _ c.same_word.ensures c.if-same_word.true

pub loop-i-preserved : goal.loop-i-preserved
loop-i-preserved c = passed-more _ _ _ _ c.loop-i.invariant c.requires c.loop-i-test.true _ c.same_word.ensures c.if-same_word.false

pub returns : goal.returns
returns c =
    let e : length c.args.rows.now ≡ c.loop-i.i = omega arith in
    rw e (passed-all _ _ _ _ c.loop-i.invariant c.loop-i-test.false)
