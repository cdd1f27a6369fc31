use Rattle.std.proofs.Common.{rules, arith}
use Rattle.explain_texts.proofs.Texts.{fine-start, fine_more, fine-not, fine-done}
use Rattle.explain_texts.proofs.is_word.Goals as goal

pub loop-b-init : goal.loop-b-init
loop-b-init c = record { fine = fine-start _; long = search rules }

pub returns-then-not-in_word : goal.returns-then-not-in_word
returns-then-not-in_word c = fine-not _ _ c.loop-b.invariant.fine _ _ c.in-Some.ensures.text _ c.in_word.ensures (omega (arith, c.in-Some.ensures.shorter, c.loop-b.invariant.long)) c.if-not-in_word.true

pub loop-b-preserved : goal.loop-b-preserved
loop-b-preserved c = record {
  fine = fine_more _ _ c.loop-b.invariant.fine _ _ c.in-Some.ensures.text _ c.in_word.ensures c.if-not-in_word.false;
  long = omega (arith, c.in-Some.ensures.shorter, c.loop-b.invariant.long);
}

pub returns : goal.returns
returns c = search (rules, fine-done)
