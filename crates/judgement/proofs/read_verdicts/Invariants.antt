-- At each turn one digit more is a verdict.
use Rattle.std.proofs.Common.{◌≡◌}
use Rattle.judgement.proofs.Words.{turned_digits}
use Rattle.judgement.proofs.read_verdicts.Given as goal

abbrev pub invariant-loop-i : goal.invariant-loop-i
invariant-loop-i l = l.word ≡ turned_digits l.i l.initial.word
