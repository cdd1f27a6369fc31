-- `write_columns::shown::last_sign` meets its contract: what is left is a front of the text, and no sign stands behind it.
use Rattle.std.proofs.Common.{◌≡◌, length, take}
use Rattle.write_columns.proofs.Shapes.{Signing}
use Rattle.write_columns.proofs.shown.last_sign.Given as goal

abbrev pub invariant-loop-last : goal.invariant-loop-last
invariant-loop-last l = (l.rest ≡ take (length l.rest) l.part) × Signing l.part (length l.rest)

abbrev pub decreases-loop-last : goal.decreases-loop-last
decreases-loop-last l = length l.rest
