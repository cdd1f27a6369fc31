-- `write_lines::put_pair` meets its contract: each way out has its law in `Methods`.
use Rattle.write_lines.proofs.Methods.{pair_put}
use Rattle.write_lines.proofs.put_pair.Goals as goal

pub returns : goal.returns
returns c = search pair_put
