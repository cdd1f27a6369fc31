-- At each turn the bytes that are left, stored from there on, give what all of them give.
use Rattle.std.proofs.Common.{length}
use Rattle.base_sequences.proofs.Clips.{Going}
use Rattle.explain_rules.specs.Texts.{decoded, quoted_bytes}
use Rattle.explain_texts.proofs.put_quoted.Given as goal

abbrev pub invariant-loop-b : goal.invariant-loop-b
invariant-loop-b l = Going l.initial.out l.to (quoted_bytes (decoded l.part)) l.out l.n (quoted_bytes (decoded l.rest))

abbrev pub decreases-loop-b : goal.decreases-loop-b
decreases-loop-b l = length l.rest
