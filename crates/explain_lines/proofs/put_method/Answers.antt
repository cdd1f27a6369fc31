-- `explain_lines::put_method` meets its contract: the parts one after another are the whole line.
use Rattle.explain_lines.proofs.Words.{method-put}
use Rattle.explain_lines.proofs.put_method.Goals as goal

pub returns : goal.returns
returns c = search method-put
