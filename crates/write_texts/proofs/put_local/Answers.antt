-- `write_texts::put_local` meets its contract: each way out has its law in `Values`.
use Rattle.write_texts.proofs.Values.{local-bare, local-quoted}
use Rattle.write_texts.proofs.put_local.Goals as goal

pub returns-then-is_bare : goal.returns-then-is_bare
returns-then-is_bare c = search local-bare

pub returns : goal.returns
returns c = search local-quoted
