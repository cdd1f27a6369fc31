-- `host_whose::whose` meets its contract: one law for each way out.
use mathlib.Core.Path.{sym, ◌∙◌}
use Rattle.host_whose.proofs.Owners.{answer-1-5, answer-plain, answer-spelled}
use Rattle.host_whose.proofs.whose.Goals as goal

pub returns-in-Refused : goal.returns-in-Refused
returns-in-Refused c = answer-1-5 c.args.list.now c.args.body.now _ _ _ (sym c.in-Refused.is ∙ c.readiness.ensures) c.refuse_whose.ensures

pub returns-in-AsItStands : goal.returns-in-AsItStands
returns-in-AsItStands c = answer-plain c.args.list.now c.args.body.now _ _ (sym c.in-AsItStands.is ∙ c.readiness.ensures) c.whose_spelled.ensures c.into.ensures

pub returns-in-ToSpell : goal.returns-in-ToSpell
returns-in-ToSpell c = answer-spelled c.args.list.now c.args.body.now _ _ (sym c.in-ToSpell.is ∙ c.readiness.ensures) c.whose.ensures c.into-in-ToSpell.ensures
