-- `block_field_ends::has_break` meets its contract: as long as no byte has hit, a field ends from here on where it ends from the first place on.
use Prim.Native.Nat.{◌+◌}
use mathlib.Core.Path.{◌≡◌}
use mathlib.Core.Bool.{false}
use Rattle.block_field_ends.specs.Internal.{Onward}
use Rattle.block_field_ends.proofs.has_break.Given as goal

abbrev pub invariant-loop-j : goal.invariant-loop-j
invariant-loop-j l = l.hit ≡ false → Onward l.s l.at (l.at + l.j)
