-- `write_texts::put_value` meets its contract: each way out has its law in `Texts`.
use Rattle.write_texts.proofs.Texts.{value-bare, value-quoted}
use Rattle.write_texts.proofs.put_value.Goals as goal

pub returns-then-bare : goal.returns-then-bare
returns-then-bare c = search value-bare

pub returns : goal.returns
returns c = search value-quoted
