-- `command_subcommands::check_list` meets its contract: the refusal of a bad list, or the whole text.
use Rattle.command_subcommands.proofs.Making.{check-refused, check-makes}
use borrow.Author.Rules.{rules}
use Rattle.command_subcommands.proofs.check_list.Goals as goal

pub returns-in-Bad : goal.returns-in-Bad
returns-in-Bad c =
    let x = c.args in
    record { value = (check-refused x.list.now x.out.now c.check_list.result c.check_list.ensures _ c.in-Bad.is).0; out_after = (check-refused x.list.now x.out.now c.check_list.result c.check_list.ensures _ c.in-Bad.is).1 }

pub returns : goal.returns
returns c =
    let x = c.args in
    record {
      value = (check-makes x.list.now x.out.now c.check_list.result c.check_list.ensures c.in-Good.is _ _ _ (search rules) c.spell_list-n.ensures
          _ _ _ c.said_of.result c.part.ensures c.put_check-m.ensures c.said_of.ensures).0;
      out_after = (check-makes x.list.now x.out.now c.check_list.result c.check_list.ensures c.in-Good.is _ _ _ (search rules) c.spell_list-n.ensures
          _ _ _ c.said_of.result c.part.ensures c.put_check-m.ensures c.said_of.ensures).1;
    }
