-- `explain_fields::put_answers` meets its contract: the answer, and then the count.
use Rattle.explain_fields.proofs.Fields.{answers-put}
use borrow.Author.Rules.{rules}
use Rattle.explain_fields.proofs.put_answers.Goals as goal

pub returns : goal.returns
returns c = answers-put c.args.l.now _ _ (search rules) _ c.behind-count.ensures _ c.column.ensures _ _ c.put_answer-a.ensures _ c.column-2.ensures _ _ c.put_count.ensures
