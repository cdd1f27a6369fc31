use borrow.Author.Rules.{rules}
use Rattle.write_columns.proofs.Tests.{walking_start, walking-done, walking_on}
use Rattle.write_columns.proofs.Codes.{text-turn, text-less}
use Rattle.write_columns.proofs.coded.text_at.Goals as goal

pub loop-c-init : goal.loop-c-init
loop-c-init c = walking_start _ _ _ _ c.code_at.ensures _ c.is_some-bare.ensures

pub overflow_add-i : goal.overflow_add-i
overflow_add-i c = text-turn _ _ _ c.in-Some.ensures (search rules)

pub loop-c-smaller : goal.loop-c-smaller
loop-c-smaller c = text-less _ _ _ c.in-Some.ensures

pub loop-c-preserved : goal.loop-c-preserved
loop-c-preserved c = walking_on _ _ _ _ _ _ c.loop-c.invariant _ c.in-Some.ensures _ c.in_test-holds.ensures _ c.in_test-bare.ensures

pub returns : goal.returns
returns c = walking-done _ _ _ _ _ _ c.loop-c.invariant c.in_default.ensures
