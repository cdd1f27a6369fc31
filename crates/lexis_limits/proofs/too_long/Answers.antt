-- `lexis_limits::too_long` meets its contract: the constant of the code is the definition's, and it is asked of the text's size.
use mathlib.Core.Path.{ap}
use lib.Dec.{ltb}
use Rattle.lexis_rules.specs.Limits.{byte_limit}
use Rattle.lexis_limits.specs.declared.Size.{Size}
use Rattle.lexis_limits.proofs.too_long.Goals as goal

pub returns : goal.returns
returns c = ap (λ (z : Size). ltb byte_limit z.bytes) c.of-size.ensures
