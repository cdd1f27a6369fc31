-- `strip_lists::sift_lines` meets its contract: there is room for where all lines end.
use native.Mathlib.Omega.{arith}
use mathlib.Core.Path.{sym}
use lib.Seq.{length-take-le}
use Rattle.base_sequences.proofs.Splices.{put-long}
use Rattle.strip_lists.proofs.Ends.{sifts-lines}
use Rattle.strip_lists.proofs.sift_lines.Goals as goal

pub slice_bounds-lines-end : goal.slice_bounds-lines-end
slice_bounds-lines-end c = sym (length-take-le _ _ (omega (arith, c.line_ends-n.ensures.count, put-long c.line_ends-n.ensures)))

pub returns : goal.returns
returns c = sifts-lines _ _ _ _ _ _ _ _ _ c.line_ends-n.ensures (omega (arith, c.line_ends-n.ensures.count, put-long c.line_ends-n.ensures)) _ c.sift.ensures
