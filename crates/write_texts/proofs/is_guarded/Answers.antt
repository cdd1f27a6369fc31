-- `write_texts::is_guarded` meets its contract: each way out has its law in `Texts`.
use Rattle.write_texts.proofs.Texts.{guard-quote, guard-other}
use Rattle.write_texts.proofs.is_guarded.Goals as goal

pub returns-then-b-eq34 : goal.returns-then-b-eq34
returns-then-b-eq34 c = search guard-quote

pub returns : goal.returns
returns c = search guard-other
