-- `command_subcommands::explain_block` meets its contract: a refusal before anything is put into the lent buffer, or the lines in words.
use Rattle.command_subcommands.proofs.Making.{explain-refused, explain-makes}
use borrow.Author.Rules.{rules}
use Rattle.command_subcommands.proofs.explain_block.Goals as goal

pub returns-then-a-ne-DONE : goal.returns-then-a-ne-DONE
returns-then-a-ne-DONE c =
    let x = c.args in
    record { value = (explain-refused x.block.now x.list.now _ (search rules) c.report_block-a.result c.report_block-a.ensures.value x.out.now c.if-a-ne-DONE.true).0; out_after = (explain-refused x.block.now x.list.now _ (search rules) c.report_block-a.result c.report_block-a.ensures.value x.out.now c.if-a-ne-DONE.true).1 }

pub returns : goal.returns
returns c =
    let x = c.args in
    record {
      value = (explain-makes x.block.now x.list.now _ (search rules) c.report_block-a.result c.report_block-a.ensures.value _ _ c.report_block-a.ensures.out_after
          c.if-a-ne-DONE.false _ x.out.now _ _ c.said_of.result c.part.ensures c.put_explained-n.ensures c.said_of.ensures).0;
      out_after = (explain-makes x.block.now x.list.now _ (search rules) c.report_block-a.result c.report_block-a.ensures.value _ _ c.report_block-a.ensures.out_after
          c.if-a-ne-DONE.false _ x.out.now _ _ c.said_of.result c.part.ensures c.put_explained-n.ensures c.said_of.ensures).1;
    }
