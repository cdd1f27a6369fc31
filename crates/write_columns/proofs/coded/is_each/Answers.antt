use borrow.Author.Rules.{rules}
use Rattle.write_columns.proofs.Tests.{testing-start, testing-done, testing-on, testing-off}
use Rattle.write_columns.proofs.Codes.{text-turn, text-less}
use Rattle.write_columns.proofs.coded.is_each.Goals as goal

pub loop-c-init : goal.loop-c-init
loop-c-init c = testing-start _ _ _

pub returns-then-not-in_test : goal.returns-then-not-in_test
returns-then-not-in_test c = testing-off _ _ _ _ c.loop-c.invariant _ c.in-Some.ensures _ c.in_test.ensures c.if-not-in_test.true

pub overflow_add-i : goal.overflow_add-i
overflow_add-i c = text-turn _ _ _ c.in-Some.ensures (search rules)

pub loop-c-smaller : goal.loop-c-smaller
loop-c-smaller c = text-less _ _ _ c.in-Some.ensures

pub loop-c-preserved : goal.loop-c-preserved
loop-c-preserved c = testing-on _ _ _ _ c.loop-c.invariant _ c.in-Some.ensures _ c.in_test.ensures c.if-not-in_test.false

pub returns : goal.returns
returns c = testing-done _ _ _ _ c.loop-c.invariant c.in_default.ensures
