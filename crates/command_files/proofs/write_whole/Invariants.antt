-- The bytes written so far are bytes of the text, and what the writer took; no second turn comes where there are none.
use Rattle.std.proofs.Common.{◌≡◌, length, ◌≤◌, take}
use Rattle.std.specs.Io.KnownBytes.{Appends}
use Rattle.command_files.proofs.write_whole.Given as goal

abbrev pub invariant-loop : goal.invariant-loop
invariant-loop g l =
    (l.done ≤ length l.text) × (length l.text ≡ 0 → l.counter ≡ 0) × Appends (g.W.Write.contents l.initial.file) (g.W.Write.contents l.file) (take l.done l.text)
