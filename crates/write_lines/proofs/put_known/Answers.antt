-- `write_lines::put_known` meets its contract: each way out has its law in `Methods`.
use Rattle.write_lines.proofs.Methods.{known-put}
use Rattle.write_lines.proofs.put_known.Goals as goal

pub returns : goal.returns
returns c = search known-put
