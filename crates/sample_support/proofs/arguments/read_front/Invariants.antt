-- The bytes read so far fit the buffer, whose length stays.
use Rattle.std.proofs.Common.{◌≡◌, length, ◌≤◌}
use Rattle.sample_support.proofs.arguments.read_front.Given as goal

abbrev pub invariant-loop : goal.invariant-loop
invariant-loop g l = (l.done ≤ length l.buf) × (length l.buf ≡ length l.fn.buf)
