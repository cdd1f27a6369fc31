-- At each turn the lines that are left, stored from there on, give what all lines give.
use Rattle.std.proofs.Common.{length}
use Rattle.command_list.proofs.ListLines.{Lines}
use Rattle.command_list.proofs.put_lines.Given as goal

abbrev pub invariant-loop-line : goal.invariant-loop-line
invariant-loop-line l = Lines l.k l.s l.initial.out l.to l.out l.n l.rest l.count

abbrev pub decreases-loop-line : goal.decreases-loop-line
decreases-loop-line l = length l.rest
