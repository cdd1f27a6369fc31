-- `blockreport_fields::put_body` meets its contract: a report that fits the buffer of this function is copied from it, and to any other no detail adds anything.
use borrow.Author.Rules.{rules}
use mathlib.Core.Path.{sym}
use lib.ListN.{replicate}
use lib.Seq.{length-take-le}
use Rattle.blockreport_fields.proofs.Bodies.{short-fits, short-put, over-put}
use Rattle.blockreport_fields.proofs.put_body.Goals as goal

pub returns-then-m-eq-TOO_SHORT : goal.returns-then-m-eq-TOO_SHORT
returns-then-m-eq-TOO_SHORT c =
    record { value = (over-put _ _ _ c.report-m.ensures.value c.if-m-eq-TOO_SHORT.true _ _ _ _ _ _ _ (c.put_long.ensures.value, c.put_long.ensures.out_after)).0; out_after = (over-put _ _ _ c.report-m.ensures.value c.if-m-eq-TOO_SHORT.true _ _ _ _ _ _ _ (c.put_long.ensures.value, c.put_long.ensures.out_after)).1 }

pub slice_bounds-text-end : goal.slice_bounds-text-end
slice_bounds-text-end c = short-fits _ (replicate 1024 0) _ _ (c.report-m.ensures.value, c.report-m.ensures.out_after) c.if-m-eq-TOO_SHORT.false

pub slice_bounds-put_fitting-end : goal.slice_bounds-put_fitting-end
slice_bounds-put_fitting-end c = sym (length-take-le _ _ (short-fits _ (replicate 1024 0) _ _ (c.report-m.ensures.value, c.report-m.ensures.out_after) c.if-m-eq-TOO_SHORT.false))

pub returns : goal.returns
returns c =
    record { value = (short-put _ (replicate 1024 0) _ _ (c.report-m.ensures.value, c.report-m.ensures.out_after) c.if-m-eq-TOO_SHORT.false c.args.detail _ _ _ _ _ _ _ _ c.put_detail.new.out c.put_detail.result (search rules) c.put_line-at.ensures (c.put_fitting-end.ensures.value, c.put_fitting-end.ensures.out_after) c.put_detail.ensures).0; out_after = (short-put _ (replicate 1024 0) _ _ (c.report-m.ensures.value, c.report-m.ensures.out_after) c.if-m-eq-TOO_SHORT.false c.args.detail _ _ _ _ _ _ _ _ c.put_detail.new.out c.put_detail.result (search rules) c.put_line-at.ensures (c.put_fitting-end.ensures.value, c.put_fitting-end.ensures.out_after) c.put_detail.ensures).1 }
