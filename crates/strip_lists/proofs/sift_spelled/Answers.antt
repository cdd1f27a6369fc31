-- `strip_lists::sift_spelled` meets its contract: the list is spelled into a buffer that holds the longest.
use mathlib.Core.Path.{sym}
use lib.Seq.{length-take-le}
use Rattle.ownlist_spelled.proofs.Fits.{fits-room, fits-own}
use Rattle.strip_lists.proofs.Ends.{sifts-spelled, spelled-room}
use Rattle.strip_lists.proofs.sift_spelled.Goals as goal

pub slice_bounds-own-end : goal.slice_bounds-own-end
slice_bounds-own-end c = fits-own c.args.list.now _ _ _ c.spell_list-n.ensures c.spelled-own.ensures.value_2

pub slice_bounds-sift_lines-end : goal.slice_bounds-sift_lines-end
slice_bounds-sift_lines-end c = sym (length-take-le _ _ (fits-own c.args.list.now _ _ _ c.spell_list-n.ensures c.spelled-own.ensures.value_2))

pub sift_lines-requires : goal.sift_lines-requires
sift_lines-requires c = spelled-room c.args.list.now _ _ _ c.spell_list-n.ensures (fits-room c.args.list.now _ _ _ c.spell_list-n.ensures c.spelled-own.ensures.value_2)

pub returns : goal.returns
returns c = sifts-spelled _ _ _ _ _ c.args.list.now _ _ _ c.spell_list-n.ensures (fits-room c.args.list.now _ _ _ c.spell_list-n.ensures c.spelled-own.ensures.value_2) _ c.sift_lines.ensures
