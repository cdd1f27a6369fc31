-- `command_ending::said_of` meets its contract, case by case.
use Rattle.command_output_rules.proofs.EndingCases.{said-long, said_fits}
use Rattle.command_ending.proofs.said_of.Goals as goal

pub returns-then-size-room : goal.returns-then-size-room
returns-then-size-room c = said-long c.args.size c.args.room c.if-size-room.true

pub returns : goal.returns
returns c = said_fits c.args.size c.args.room c.if-size-room.false
