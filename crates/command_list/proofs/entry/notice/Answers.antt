-- `command_list::entry::notice` meets its contract: each test in turn is a case of the definition.
use Rattle.command_list.proofs.EntryLines.{notice-mark, notice-hash, notice-unbare, notice-star, notice-none}
use Rattle.command_list.proofs.entry.notice.Goals as goal

pub returns-then-is_marked : goal.returns-then-is_marked
returns-then-is_marked c = search notice-mark

pub returns-then-is_at : goal.returns-then-is_at
returns-then-is_at c = search notice-hash

pub returns-then-bare_end-e : goal.returns-then-bare_end-e
returns-then-bare_end-e c = notice-unbare c.args.e.now _ c.is_marked.ensures c.if-is_marked.false _ c.is_at.ensures c.if-is_at.false _ c.bare_end.ensures c.if-bare_end-e.true

pub returns-then-until-e : goal.returns-then-until-e
returns-then-until-e c = search notice-star

pub returns : goal.returns
returns c = search notice-none
