-- `strip::copy_by` meets its contract: where there are as many fields as marks there is room for each, and one law for each way out.
use mathlib.Core.Bool.{not}
use native.Mathlib.Omega.{arith}
use mathlib.Core.Path.{refl, sym, ap}
use lib.Seq.{length-take-le}
use Rattle.strip.proofs.Ends.{few, copy-refused, copy-other, copy-13, copy-6, copy-0, marks-room, stops-room}
use Rattle.strip.proofs.copy_by.Goals as goal

pub returns-then-found-ne-DONE : goal.returns-then-found-ne-DONE
returns-then-found-ne-DONE c =
    record { value = (copy-refused c.args.s.now c.args.list.now _ _ _ _ _ c.sift_listed-found.ensures c.if-found-ne-DONE.true c.args.marks.now c.args.out.now _ c.refuse.ensures).0; out_after = (copy-refused c.args.s.now c.args.list.now _ _ _ _ _ c.sift_listed-found.ensures c.if-found-ne-DONE.true c.args.marks.now c.args.out.now _ c.refuse.ensures).1 }

pub returns-then-found-marks : goal.returns-then-found-marks
returns-then-found-marks c =
    record { value = (copy-other c.args.s.now c.args.list.now _ _ _ _ _ c.sift_listed-found.ensures c.if-found-ne-DONE.false c.args.marks.now c.args.out.now _ c.if-found-marks.true c.refuse-then-found-marks.ensures).0; out_after = (copy-other c.args.s.now c.args.list.now _ _ _ _ _ c.sift_listed-found.ensures c.if-found-ne-DONE.false c.args.marks.now c.args.out.now _ c.if-found-marks.true c.refuse-then-found-marks.ensures).1 }

pub slice_bounds-is_same-end : goal.slice_bounds-is_same-end
slice_bounds-is_same-end c = marks-room c.args.s.now c.args.list.now _ _ _ _ _ c.sift_listed-found.ensures c.if-found-ne-DONE.false (omega (arith, few c.args.s.now c.args.list.now _ _ _ _ _ c.sift_listed-found.ensures c.if-found-ne-DONE.false, c.requires.0, c.if-found-marks.false))

pub slice_bounds-is_same-end-2 : goal.slice_bounds-is_same-end-2
slice_bounds-is_same-end-2 c = sym (length-take-le _ _ (marks-room c.args.s.now c.args.list.now _ _ _ _ _ c.sift_listed-found.ensures c.if-found-ne-DONE.false (omega (arith, few c.args.s.now c.args.list.now _ _ _ _ _ c.sift_listed-found.ensures c.if-found-ne-DONE.false, c.requires.0, c.if-found-marks.false))))

pub returns-then-not-is_same : goal.returns-then-not-is_same
returns-then-not-is_same c =
    record { value = (copy-13 c.args.s.now c.args.list.now _ _ _ _ _ c.sift_listed-found.ensures c.if-found-ne-DONE.false (omega (arith, few c.args.s.now c.args.list.now _ _ _ _ _ c.sift_listed-found.ensures c.if-found-ne-DONE.false, c.requires.0, c.if-found-marks.false)) c.args.marks.now c.args.out.now _ _ c.is_same.ensures (ap not c.if-not-is_same.true) c.refuse-then-not-is_same.ensures).0; out_after = (copy-13 c.args.s.now c.args.list.now _ _ _ _ _ c.sift_listed-found.ensures c.if-found-ne-DONE.false (omega (arith, few c.args.s.now c.args.list.now _ _ _ _ _ c.sift_listed-found.ensures c.if-found-ne-DONE.false, c.requires.0, c.if-found-marks.false)) c.args.marks.now c.args.out.now _ _ c.is_same.ensures (ap not c.if-not-is_same.true) c.refuse-then-not-is_same.ensures).1 }

pub returns-then-kept-out : goal.returns-then-kept-out
returns-then-kept-out c =
    record { value = (copy-6 c.args.s.now c.args.list.now _ _ _ _ _ c.sift_listed-found.ensures c.if-found-ne-DONE.false (omega (arith, few c.args.s.now c.args.list.now _ _ _ _ _ c.sift_listed-found.ensures c.if-found-ne-DONE.false, c.requires.0, c.if-found-marks.false)) c.args.marks.now c.args.out.now _ c.is_same.ensures (ap not c.if-not-is_same.false) _ c.rest-kept.ensures _ c.if-kept-out.true c.refuse-then-kept-out.ensures).0; out_after = (copy-6 c.args.s.now c.args.list.now _ _ _ _ _ c.sift_listed-found.ensures c.if-found-ne-DONE.false (omega (arith, few c.args.s.now c.args.list.now _ _ _ _ _ c.sift_listed-found.ensures c.if-found-ne-DONE.false, c.requires.0, c.if-found-marks.false)) c.args.marks.now c.args.out.now _ c.is_same.ensures (ap not c.if-not-is_same.false) _ c.rest-kept.ensures _ c.if-kept-out.true c.refuse-then-kept-out.ensures).1 }

pub slice_bounds-put_unmarked-end : goal.slice_bounds-put_unmarked-end
slice_bounds-put_unmarked-end c = stops-room c.args.s.now c.args.list.now _ _ _ _ _ c.sift_listed-found.ensures c.if-found-ne-DONE.false (omega (arith, few c.args.s.now c.args.list.now _ _ _ _ _ c.sift_listed-found.ensures c.if-found-ne-DONE.false, c.requires.1, c.if-found-marks.false))

pub slice_bounds-put_unmarked-end-2 : goal.slice_bounds-put_unmarked-end-2
slice_bounds-put_unmarked-end-2 c = sym (length-take-le _ _ (stops-room c.args.s.now c.args.list.now _ _ _ _ _ c.sift_listed-found.ensures c.if-found-ne-DONE.false (omega (arith, few c.args.s.now c.args.list.now _ _ _ _ _ c.sift_listed-found.ensures c.if-found-ne-DONE.false, c.requires.1, c.if-found-marks.false))))

pub returns : goal.returns
returns c =
    record { value = (copy-0 c.args.s.now c.args.list.now _ _ _ _ _ c.sift_listed-found.ensures c.if-found-ne-DONE.false (omega (arith, few c.args.s.now c.args.list.now _ _ _ _ _ c.sift_listed-found.ensures c.if-found-ne-DONE.false, c.requires.0, c.if-found-marks.false)) c.args.marks.now c.args.out.now _ c.is_same.ensures (ap not c.if-not-is_same.false) _ c.rest-kept.ensures (omega (arith, few c.args.s.now c.args.list.now _ _ _ _ _ c.sift_listed-found.ensures c.if-found-ne-DONE.false, c.requires.1, c.if-found-marks.false)) _ _ _ c.if-kept-out.false c.put_unmarked.ensures refl).0; out_after = (copy-0 c.args.s.now c.args.list.now _ _ _ _ _ c.sift_listed-found.ensures c.if-found-ne-DONE.false (omega (arith, few c.args.s.now c.args.list.now _ _ _ _ _ c.sift_listed-found.ensures c.if-found-ne-DONE.false, c.requires.0, c.if-found-marks.false)) c.args.marks.now c.args.out.now _ c.is_same.ensures (ap not c.if-not-is_same.false) _ c.rest-kept.ensures (omega (arith, few c.args.s.now c.args.list.now _ _ _ _ _ c.sift_listed-found.ensures c.if-found-ne-DONE.false, c.requires.1, c.if-found-marks.false)) _ _ _ c.if-kept-out.false c.put_unmarked.ensures refl).1 }
