-- The bytes read so far fit the buffer, whose length stays, and are what the reader gave.
use Rattle.std.proofs.Common.{◌≡◌, length, ◌≤◌, take}
use Rattle.std.specs.Io.KnownBytes.{Consumes}
use Rattle.command_files.proofs.read_whole.Given as goal

abbrev pub invariant-loop : goal.invariant-loop
invariant-loop g l =
    (l.done ≤ length l.buf) × (length l.buf ≡ length l.fn.buf) × Consumes (g.R.Read.remaining l.initial.file) (g.R.Read.remaining l.file) (take l.done l.buf)
