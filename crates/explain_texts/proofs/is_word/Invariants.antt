-- As long as each byte is of a word, those behind it decide.
use Rattle.std.proofs.Common.{◌≤◌, length}
use Rattle.explain_texts.proofs.Texts.{Fine}
use Rattle.explain_texts.proofs.is_word.Given as goal

abbrev pub invariant-loop-b : goal.invariant-loop-b
invariant-loop-b l = record { fine : Fine l.part l.rest; long : length l.rest ≤ length l.part }

abbrev pub decreases-loop-b : goal.decreases-loop-b
decreases-loop-b l = length l.rest
