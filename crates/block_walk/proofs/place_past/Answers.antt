-- `block_walk::place_past` meets its contract: by the two cases of a step.
use mathlib.Core.Path.{sym, ap, ◌∙◌}
use Rattle.block_walk_rules.specs.Steps.{past_of}
use Rattle.block_walk.proofs.place_past.Goals as goal

pub returns-in-Field : goal.returns-in-Field
returns-in-Field c = ap (past_of c.args.from) (sym c.in-Field.is ∙ c.field_from.ensures)

pub returns-in-Last : goal.returns-in-Last
returns-in-Last c = ap (past_of c.args.from) (sym c.in-Last.is ∙ c.field_from.ensures)
