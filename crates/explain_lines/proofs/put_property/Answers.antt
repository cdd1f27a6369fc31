-- `explain_lines::put_property` meets its contract: the parts one after another are the whole.
use Rattle.explain_lines.proofs.Words.{property-put}
use borrow.Author.Rules.{rules}
use Rattle.explain_lines.proofs.put_property.Goals as goal

pub returns : goal.returns
returns c = property-put c.args.l.now _ _ (search rules) _ c.behind-name.ensures _ _ c.put_labelled-a.ensures _ _ c.put_labelled-b.ensures _ c.behind-letter.ensures _ c.behind.ensures _ _ c.put_labelled.ensures
