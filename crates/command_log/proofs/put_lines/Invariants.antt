-- `command_log::put_lines` meets its contract: at each turn the lines of the fields that are left, stored from there on, give what all lines give.
use Prim.Native.Nat.{◌-◌}
use lib.ListN.{length}
use Rattle.command_log.proofs.LogLines.{Logging}
use Rattle.command_log.proofs.put_lines.Given as goal

abbrev pub invariant-loop-start : goal.invariant-loop-start
invariant-loop-start l = Logging l.s l.marks l.initial.out l.out l.at l.count l.to

abbrev pub decreases-loop-start : goal.decreases-loop-start
decreases-loop-start l = length l.s - l.at
