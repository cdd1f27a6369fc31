-- `command_subcommands::write_body` meets its contract: what the call answered and wrote is what is made of it.
use Rattle.command_subcommands.proofs.Making.{write-makes}
use Rattle.command_subcommands.proofs.write_body.Goals as goal

pub returns : goal.returns
returns c =
    let x = c.args in
    record { value = (write-makes x.lines.now x.out.now _ c.write-a.result c.made_of.result c.write-a.ensures.value c.write-a.ensures.out_after c.made_of.ensures).0; out_after = (write-makes x.lines.now x.out.now _ c.write-a.result c.made_of.result c.write-a.ensures.value c.write-a.ensures.out_after c.made_of.ensures).1 }
