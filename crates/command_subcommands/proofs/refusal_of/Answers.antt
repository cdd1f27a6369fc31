-- `command_subcommands::refusal_of` meets its contract: bad verdicts have a line of their own.
use Rattle.command_subcommands.proofs.Making.{refused-verdicts, refused-so}
use Rattle.command_subcommands.proofs.refusal_of.Goals as goal

pub returns-then-number-eq-BAD_VERDICTS : goal.returns-then-number-eq-BAD_VERDICTS
returns-then-number-eq-BAD_VERDICTS c = refused-verdicts c.args.number c.args.place c.args.sets c.if-number-eq-BAD_VERDICTS.true

pub returns : goal.returns
returns c = refused-so c.args.number c.args.place c.args.sets c.if-number-eq-BAD_VERDICTS.false
