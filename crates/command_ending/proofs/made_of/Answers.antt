-- `command_ending::made_of` meets its contract, case by case.
use Rattle.command_output_rules.proofs.EndingCases.{made-refused, made-done}
use Rattle.command_ending.proofs.made_of.Goals as goal

pub returns-then-number-ne-DONE : goal.returns-then-number-ne-DONE
returns-then-number-ne-DONE c = made-refused c.args.number c.args.refusal c.args.size c.if-number-ne-DONE.true

pub returns : goal.returns
returns c = made-done c.args.number c.args.refusal c.args.size c.if-number-ne-DONE.false
