-- `blockreport::report_spelled` meets its contract: the list is spelled into a buffer that holds the longest.
use mathlib.Core.Path.{sym}
use lib.Seq.{length-take-le}
use Rattle.ownlist_spelled.proofs.Fits.{fits-own}
use Rattle.blockreport.proofs.Ends.{answer-spelled}
use Rattle.blockreport.proofs.report_spelled.Goals as goal

pub slice_bounds-own-end : goal.slice_bounds-own-end
slice_bounds-own-end c = fits-own c.args.list.now _ _ _ c.spell_list-n.ensures c.spelled-own.ensures.value_2

pub slice_bounds-report_by-end : goal.slice_bounds-report_by-end
slice_bounds-report_by-end c = sym (length-take-le _ _ (fits-own c.args.list.now _ _ _ c.spell_list-n.ensures c.spelled-own.ensures.value_2))

pub returns : goal.returns
returns c =
    record { value = (answer-spelled c.args.list.now _ _ _ c.spell_list-n.ensures c.spelled-own.ensures.value_2 _ c.args.s.now c.args.out.now _ _ (c.report_by.ensures.value, c.report_by.ensures.out_after)).0; out_after = (answer-spelled c.args.list.now _ _ _ c.spell_list-n.ensures c.spelled-own.ensures.value_2 _ c.args.s.now c.args.out.now _ _ (c.report_by.ensures.value, c.report_by.ensures.out_after)).1 }
