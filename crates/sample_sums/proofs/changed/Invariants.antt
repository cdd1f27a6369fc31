-- Those that were counted are no more than the bytes so far, and with those of the rest they are all.
use Rattle.std.proofs.Common.{◌≡◌, ◌≤◌, ◌+◌, drop}
use Rattle.sample_sums.specs.Sums.{changed}
use Rattle.sample_sums.proofs.changed.Given as goal

abbrev pub invariant-loop-b : goal.invariant-loop-b
invariant-loop-b l = record { few : l.count ≤ l.b-index; all : l.count + changed (drop l.b-index l.s) ≡ changed l.s }
