-- `command_subcommands::strip_block` meets its contract: what the call answered and wrote is what is made of it.
use Rattle.command_subcommands.proofs.Making.{strip-makes}
use Rattle.command_subcommands.proofs.strip_block.Goals as goal

pub returns : goal.returns
returns c =
    let x = c.args in
    record { value = (strip-makes x.block.now x.list.now x.out.now _ c.strip_in_steps-a.result c.made_of.result c.strip_in_steps-a.ensures.value c.strip_in_steps-a.ensures.out_after c.made_of.ensures).0; out_after = (strip-makes x.block.now x.list.now x.out.now _ c.strip_in_steps-a.result c.made_of.result c.strip_in_steps-a.ensures.value c.strip_in_steps-a.ensures.out_after c.made_of.ensures).1 }
