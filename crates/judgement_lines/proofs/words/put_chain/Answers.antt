-- `judgement_lines::words::put_chain` meets its contract: the front is a phrase of the text, and each test is a case of the definition.
use Rattle.judgement_lines.proofs.WordLaws.{chain-none, chain-failed, chain-built}
use borrow.Author.Rules.{rules}
use Rattle.judgement_lines.proofs.words.put_chain.Goals as goal

pub returns-then-j-eq0 : goal.returns-then-j-eq0
returns-then-j-eq0 c = search chain-none

pub returns-then-j-eq1 : goal.returns-then-j-eq1
returns-then-j-eq1 c = chain-failed c.args.j c.put_phrase-a.ensures (search rules) c.if-j-eq0.false c.if-j-eq1.true c.put_failed.ensures

pub returns : goal.returns
returns c = chain-built c.args.j c.put_phrase-a.ensures (search rules) c.if-j-eq0.false c.if-j-eq1.false c.put_built.ensures
