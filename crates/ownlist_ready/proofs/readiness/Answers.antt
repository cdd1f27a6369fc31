-- `ownlist_ready::readiness` meets its contract: one law for each way out.
use mathlib.Core.Path.{sym, ◌∙◌}
use mathlib.Core.Bool.{true, false}
use Rattle.ownlist_ready.proofs.CallsGoOn.{answer-1, answer-5, answer-good}
use Rattle.ownlist_ready.proofs.readiness.Goals as goal

pub returns-then-too_long : goal.returns-then-too_long
returns-then-too_long c = answer-1 c.args.s.now c.args.list.now _ c.too_long.ensures c.if-too_long.true

pub returns-in-Bad : goal.returns-in-Bad
returns-in-Bad c = answer-5 c.args.s.now c.args.list.now _ c.too_long.ensures c.if-too_long.false _ (sym c.in-Bad.is ∙ c.check_list.ensures)

pub returns-then-has_double_hyphen : goal.returns-then-has_double_hyphen
returns-then-has_double_hyphen c = answer-good c.args.s.now c.args.list.now _ c.too_long.ensures c.if-too_long.false (sym c.in-Good.is ∙ c.check_list.ensures) _ true c.has_double_hyphen.ensures c.if-has_double_hyphen.true

pub returns : goal.returns
returns c = answer-good c.args.s.now c.args.list.now _ c.too_long.ensures c.if-too_long.false (sym c.in-Good.is ∙ c.check_list.ensures) _ false c.has_double_hyphen.ensures c.if-has_double_hyphen.false
