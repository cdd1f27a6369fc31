-- `result_table::number_of` meets its contract: at each turn the rows before it hold other names.
use Rattle.result_table.proofs.Numbered.{Passed}
use Rattle.result_table.proofs.number_of.Given as goal

abbrev pub invariant-loop-i : goal.invariant-loop-i
invariant-loop-i l = Passed l.rows l.lengths l.text l.i
