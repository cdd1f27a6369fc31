-- `write_columns::coded::is_literal` meets its contract: the loop keeps `Spelling`, and each way out has its law.
use Rattle.write_columns.proofs.Literals.{Spelling}
use Rattle.write_columns.proofs.coded.is_literal.Given as goal

abbrev pub invariant-loop-j : goal.invariant-loop-j
invariant-loop-j l = Spelling l.s l.at l.w l.j
