use borrow.Author.Rules.{rules}
use Rattle.write_texts.proofs.Texts.{texting-start, texting-done, texting-more}
use Rattle.write_columns.proofs.Codes.{text-turn, text-less}
use Rattle.write_texts.proofs.put_text.Goals as goal

pub loop-c-init : goal.loop-c-init
loop-c-init c = search texting-start

pub overflow_add-i : goal.overflow_add-i
overflow_add-i c = text-turn _ _ _ c.in-Some.ensures (search rules)

pub loop-c-smaller : goal.loop-c-smaller
loop-c-smaller c = text-less _ _ _ c.in-Some.ensures

pub loop-c-preserved : goal.loop-c-preserved
loop-c-preserved c = texting-more _ _ _ _ _ _ _ _ c.loop-c.invariant _ c.in-Some.ensures (search rules) _ _ c.put_guarded-m.ensures

pub returns : goal.returns
returns c = texting-done _ _ _ _ _ _ _ _ c.loop-c.invariant c.in_default.ensures
