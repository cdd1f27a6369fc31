-- `ownlist_lines::is_line` meets its contract: at each turn what is left of the lines tells as the whole.
use Rattle.ownlist_lines.proofs.Seeking.{Seeking}
use Rattle.ownlist_lines.proofs.is_line.Given as goal

abbrev pub invariant-loop-end : goal.invariant-loop-end
invariant-loop-end l = Seeking l.lines.own.now l.lines.ends.now l.text l.at l.end-index
