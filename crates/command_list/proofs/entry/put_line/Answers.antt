-- `command_list::entry::put_line` meets its contract: each arm writes the line of its kind.
use Rattle.command_list.proofs.EntryLines.{line-compared, line-noticed, line-noted}
use Rattle.command_list.proofs.entry.put_line.Goals as goal

pub returns-in-Compared : goal.returns-in-Compared
returns-in-Compared c = search line-compared

pub returns-in-Noticed : goal.returns-in-Noticed
returns-in-Noticed c = search line-noticed

pub returns-in-Noted : goal.returns-in-Noted
returns-in-Noted c = line-noted _ c.args.n c.args.t.now _ _ _ _ c.in-Noted.is c.put_notice-in-Noted.ensures
