-- `text_compare::differ` meets its contract: what is known after each byte is what is known after one more.
use Rattle.text_compare.specs.Internal.{Compared}
use Rattle.text_compare.proofs.differ.Given as goal

abbrev pub invariant-loop-j : goal.invariant-loop-j
invariant-loop-j l = Compared l.a l.b l.at l.j l.hit
