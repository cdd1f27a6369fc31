-- `write_texts::put_mailbox` meets its contract: each way out has its law in `Values`.
use Rattle.write_texts.proofs.Values.{sign-inside, sign-front, mailbox-put}
use borrow.Author.Rules.{rules}
use Rattle.write_texts.proofs.put_mailbox.Goals as goal

pub slice_bounds-put_local-end : goal.slice_bounds-put_local-end
slice_bounds-put_local-end c = search sign-front

pub slice_bounds-put_part-count : goal.slice_bounds-put_part-count
slice_bounds-put_part-count c = search sign-inside

pub slice_bounds-put_part-start : goal.slice_bounds-put_part-start
slice_bounds-put_part-start c = search sign-inside

pub returns : goal.returns
returns c = mailbox-put c.args.v.now _ c.last_sign-j.ensures _ _ (search rules) _ _ c.put_local-n.ensures c.put_part.new.out c.put_part.result c.put_part.ensures
