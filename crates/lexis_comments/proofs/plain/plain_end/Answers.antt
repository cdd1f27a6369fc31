-- `lexis_comments::plain::plain_end` meets its contract: where the first byte is not plain the run is empty.
use Rattle.base_readers.proofs.Loops.{run-shut}
use Rattle.lexis_rules.specs.declared.Class.TheVariants.{Comment}
use Rattle.lexis_rules.specs.Bytes.{in_class}
use Rattle.lexis_comments.proofs.plain.plain_end.Goals as goal

pub returns : goal.returns
returns c = search (run-shut (in_class Comment))
