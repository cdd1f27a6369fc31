-- `arc_fields::Instance::is_number` meets its contract: each test is one of the definition.
use native.Mathlib.Omega.{arith}
use Rattle.arc_fields.proofs.Instances.{number-low, number-high}
use Rattle.arc_fields.proofs.Instance.is_number.Goals as goal

pub returns-then-n-lt-FIRST : goal.returns-then-n-lt-FIRST
returns-then-n-lt-FIRST c = search number-low

pub returns : goal.returns
returns c = number-high c.args.n (omega arith)
