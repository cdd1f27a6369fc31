-- `lexis_classes::classes::in_class` meets its contract: the binary digit of the byte is asked for.
use Rattle.lexis_classes.proofs.Bytes.{class-bit}
use Rattle.lexis_classes.proofs.classes.in_class.Goals as goal

pub returns : goal.returns
returns c = search class-bit
