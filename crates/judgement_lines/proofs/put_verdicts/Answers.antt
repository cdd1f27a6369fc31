-- `judgement_lines::put_verdicts` meets its contract: the columns one after another.
use Rattle.judgement_lines.proofs.Columns.{verdicts-put}
use borrow.Author.Rules.{rules}
use Rattle.judgement_lines.proofs.put_verdicts.Goals as goal

pub returns : goal.returns
returns c = verdicts-put c.args.j {o₁ = c.put_number-a.new.out} {a = c.put_number-a.result} (search rules) c.put_number-a.ensures c.put_status-b.ensures c.put_oldest.ensures
