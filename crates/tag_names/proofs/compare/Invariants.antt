-- `tag_names::compare` meets its contract: from each place of the loop on the name stands to the other as it does from the start.
use mathlib.Core.Path.{◌≡◌}
use lib.ListN.{drop}
use Rattle.tag_names.specs.Names.{compared_at}
use Rattle.tag_names.proofs.compare.Given as goal

abbrev pub invariant-loop-b : goal.invariant-loop-b
invariant-loop-b l = compared_at (drop l.i l.s) (drop l.b-index l.name) ≡ compared_at (drop l.at l.s) l.name
