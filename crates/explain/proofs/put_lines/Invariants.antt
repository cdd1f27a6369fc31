-- At each turn the words of the lines that are left, stored from there on, give what those of all lines give.
use Rattle.std.proofs.Common.{length}
use Rattle.base_sequences.proofs.Clips.{Going}
use Rattle.base_readers.specs.Lines.{lines_of}
use Rattle.explain_rules.specs.Explained.{lines_words}
use Rattle.explain.proofs.put_lines.Given as goal

abbrev pub invariant-loop-line : goal.invariant-loop-line
invariant-loop-line l = Going l.initial.out l.to (lines_words (lines_of l.s)) l.out l.n (lines_words (lines_of l.rest))

abbrev pub decreases-loop-line : goal.decreases-loop-line
decreases-loop-line l = length l.rest
