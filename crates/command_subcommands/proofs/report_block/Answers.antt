-- `command_subcommands::report_block` meets its contract: what the call answered and wrote is what is made of it.
use Rattle.command_subcommands.proofs.Making.{report-makes}
use Rattle.command_subcommands.proofs.report_block.Goals as goal

pub returns : goal.returns
returns c =
    let x = c.args in
    record { value = (report-makes x.block.now x.list.now x.out.now _ c.report_block-a.result c.made_of.result c.report_block-a.ensures.value c.report_block-a.ensures.out_after c.made_of.ensures).0; out_after = (report-makes x.block.now x.list.now x.out.now _ c.report_block-a.result c.made_of.result c.report_block-a.ensures.value c.report_block-a.ensures.out_after c.made_of.ensures).1 }
