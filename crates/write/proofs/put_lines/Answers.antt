use borrow.Author.Rules.{rules}
use Rattle.write.proofs.Passes.{lining-early, lining-done, lining-missing, lining-less, lining-stuck, lining-more}
use Rattle.write.proofs.put_lines.Goals as goal

pub returns-in_default : goal.returns-in_default
returns-in_default c = lining-missing _ _ _ _ _ _ _ c.loop-at.invariant c.loop-at-test.true _ _ c.put_line.ensures.value c.put_line.ensures.out_after c.in_default.is

pub returns-in_default-next_state : goal.returns-in_default-next_state
returns-in_default-next_state c = lining-stuck _ _ _ _ _ _ _ c.loop-at.invariant c.loop-at-test.true _ _ c.in-Some.ensures.value c.in-Some.ensures.out_after _ c.byte.ensures c.in_default-next_state.ensures

pub loop-at-smaller : goal.loop-at-smaller
loop-at-smaller c = lining-less _ _ _ _ _ _ _ c.loop-at.invariant c.loop-at-test.true _ _ c.in-Some.ensures.value c.in-Some.ensures.out_after

pub loop-at-preserved : goal.loop-at-preserved
loop-at-preserved c = lining-more _ _ _ _ _ _ _ c.loop-at.invariant c.loop-at-test.true _ _ c.in-Some.ensures.value c.in-Some.ensures.out_after _ c.byte.ensures _ c.in-Some-next_state.ensures (search rules)

pub returns-then-is_final : goal.returns-then-is_final
returns-then-is_final c = lining-done _ _ _ _ _ _ _ c.loop-at.invariant c.loop-at-test.false _ c.is_final.ensures c.if-is_final.true

pub returns : goal.returns
returns c = lining-early _ _ _ _ _ _ _ c.loop-at.invariant c.loop-at-test.false _ c.is_final.ensures c.if-is_final.false
