-- `write_texts::put_text` meets its contract: the loop keeps `Texting`, and each way out has its law.
use Rattle.write_texts.proofs.Texts.{Texting}
use lib.ListN.{length}
use Prim.Native.Nat.{◌-◌}
use Rattle.write_texts.proofs.put_text.Given as goal

abbrev pub invariant-loop-c : goal.invariant-loop-c
invariant-loop-c l = Texting l.s l.at l.quoted l.initial.out l.to l.out l.i l.m

abbrev pub decreases-loop-c : goal.decreases-loop-c
decreases-loop-c l = length l.s - l.i
