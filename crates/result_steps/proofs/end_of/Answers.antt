-- `result_steps::end_of` meets its contract: each way out is one case of the definition.
use mathlib.Core.Path.{sym, ap}
use Rattle.result_steps.specs.Steps.{end_of}
use Rattle.result_steps.proofs.end_of.Goals as goal

pub returns-then-closed : goal.returns-then-closed
returns-then-closed c = ap end_of (sym c.if-closed.true)

pub returns-else-closed : goal.returns-else-closed
returns-else-closed c = ap end_of (sym c.if-closed.false)
