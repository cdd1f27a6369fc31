-- `explain_fields::put_field` meets its contract: the parts one after another are the whole line.
use Rattle.explain_fields.proofs.Fields.{field_put}
use borrow.Author.Rules.{rules}
use Rattle.explain_fields.proofs.put_field.Goals as goal

pub returns : goal.returns
returns c = field_put c.args.l.now _ _ (search rules) _ c.behind.ensures _ _ c.put_labelled-a.ensures _ _ c.put_part-b.ensures c.put_owner.new.out c.put_owner.result c.put_owner.ensures
