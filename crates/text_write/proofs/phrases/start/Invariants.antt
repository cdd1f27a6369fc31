-- `text_write::phrases::start` meets its contract: at each turn a phrase of the whole text is one of what is left of it.
use Prim.Native.Nat.{◌-◌}
use Rattle.text_write.proofs.Bars.{Passed}
use Rattle.text_write.proofs.phrases.start.Given as goal

abbrev pub invariant-loop : goal.invariant-loop
invariant-loop l = Passed l.n l.all l.at (l.n - l.counter)
