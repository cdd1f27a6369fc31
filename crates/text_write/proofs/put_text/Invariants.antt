-- `text_write::put_text` meets its contract: at each turn what is left to store, stored from there on, gives what the whole text gives; the
-- loop ends where the text or the room does.
use Prim.Native.Nat.{◌+◌}
use lib.ListN.{drop}
use Rattle.base_sequences.proofs.Splices.{Left}
use Rattle.text_write.proofs.put_text.Given as goal

abbrev pub invariant-loop-j : goal.invariant-loop-j
invariant-loop-j l = Left l.initial.out l.to l.part l.out (l.to + l.j) (drop l.j l.part)
