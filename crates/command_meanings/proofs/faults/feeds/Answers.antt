-- The LF that are counted are those of the definition.
use Rattle.std.proofs.Common.{rules}
use Rattle.command_meanings.proofs.Meanings.{feeds-counted}
use Rattle.command_meanings.proofs.faults.feeds.Goals as goal

pub returns : goal.returns
returns c = feeds-counted _ _ (search rules)
