use Rattle.std.proofs.Common.{rules}
use Rattle.judgement.proofs.Words.{turned_more, turned-all}
use Rattle.judgement.proofs.read_verdicts.Goals as goal

pub loop-i-preserved : goal.loop-i-preserved
loop-i-preserved c = search (rules, turned_more)

pub returns : goal.returns
returns c = search (rules, turned-all)
