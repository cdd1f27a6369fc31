-- `strip_fields::sift` meets its contract: at each turn what is left of the block answers as the whole, and what was kept is what is not left to keep.
use Prim.Native.Nat.{◌-◌}
use lib.ListN.{length}
use Rattle.ownlist_rules.specs.Spelled.{among_spelled}
use Rattle.ownlist_lines.specs.Lines.{lines_in}
use Rattle.strip_fields.proofs.Sifting.{Sifting}
use Rattle.strip_fields.proofs.sift.Given as goal

abbrev pub invariant-loop-start : goal.invariant-loop-start
invariant-loop-start l = Sifting l.s (among_spelled (lines_in l.lines)) l.initial.marks l.initial.stops l.marks l.stops l.at l.count l.removed l.fields

abbrev pub decreases-loop-start : goal.decreases-loop-start
decreases-loop-start l = length l.s - l.at
