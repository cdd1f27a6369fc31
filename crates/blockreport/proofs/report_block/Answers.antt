-- `blockreport::report_block` meets its contract: one law for each way out.
use mathlib.Core.Path.{sym, ◌∙◌}
use Rattle.ownlist_ready.proofs.CallsGoOn.{as-it-stands-goes-on, to-spell-goes-on}
use Rattle.blockreport.proofs.Ends.{answer-1-5, answer-listed, answer-plain}
use Rattle.blockreport.proofs.report_block.Goals as goal

pub report_by-requires : goal.report_by-requires
report_by-requires c = (as-it-stands-goes-on c.args.block.now c.args.list.now (sym c.in-AsItStands.is ∙ c.readiness.ensures)).0

pub report_spelled-requires : goal.report_spelled-requires
report_spelled-requires c = (to-spell-goes-on c.args.block.now c.args.list.now (sym c.in-ToSpell.is ∙ c.readiness.ensures)).0

pub returns-in-Refused : goal.returns-in-Refused
returns-in-Refused c =
    record { value = (answer-1-5 _ c.args.block.now c.args.list.now c.args.out.now _ _ _ (sym c.in-Refused.is ∙ c.readiness.ensures) c.refuse.ensures).0; out_after = (answer-1-5 _ c.args.block.now c.args.list.now c.args.out.now _ _ _ (sym c.in-Refused.is ∙ c.readiness.ensures) c.refuse.ensures).1 }

pub returns-in-AsItStands : goal.returns-in-AsItStands
returns-in-AsItStands c =
    record { value = (answer-plain _ c.args.block.now c.args.list.now c.args.out.now _ _ (sym c.in-AsItStands.is ∙ c.readiness.ensures) (c.report_by.ensures.value, c.report_by.ensures.out_after)).0; out_after = (answer-plain _ c.args.block.now c.args.list.now c.args.out.now _ _ (sym c.in-AsItStands.is ∙ c.readiness.ensures) (c.report_by.ensures.value, c.report_by.ensures.out_after)).1 }

pub returns-in-ToSpell : goal.returns-in-ToSpell
returns-in-ToSpell c =
    record { value = (answer-listed _ c.args.block.now c.args.list.now c.args.out.now _ _ (sym c.in-ToSpell.is ∙ c.readiness.ensures) (c.report_spelled.ensures.value, c.report_spelled.ensures.out_after)).0; out_after = (answer-listed _ c.args.block.now c.args.list.now c.args.out.now _ _ (sym c.in-ToSpell.is ∙ c.readiness.ensures) (c.report_spelled.ensures.value, c.report_spelled.ensures.out_after)).1 }
