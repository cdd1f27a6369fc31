-- `judgement::put_judgement` meets its contract: the two lines one after another.
use Rattle.judgement.proofs.Words.{judgement-put}
use borrow.Author.Rules.{rules}
use Rattle.judgement.proofs.put_judgement.Goals as goal

pub returns : goal.returns
returns c = judgement-put c.args.j {o₂ = c.put_chain-b.new.out} {b = c.put_chain-b.result} (search rules) c.put_columns-a.ensures c.put_chain-b.ensures c.put_byte.ensures
