-- `command_ending::ending_after` meets its contract: an output that is done is told by whether it went, any other ending as it is.
use borrow.Enum.Refused.{opened}
use Rattle.command_output_rules.proofs.EndingCases.{after-done, after-unwritten, after-other}
use Rattle.command_ending.proofs.ending_after.Goals as goal

pub returns-then-went : goal.returns-then-went
returns-then-went c = after-done c.args.made c.args.went c.in-Done.is c.if-went.true

pub returns-else-went : goal.returns-else-went
returns-else-went c = after-unwritten c.args.made c.args.went c.in-Done.is c.if-went.false

pub returns-in_default : goal.returns-in_default
returns-in_default c = after-other c.args.made c.args.went (opened c.in_default.in_default-own.keys2)
