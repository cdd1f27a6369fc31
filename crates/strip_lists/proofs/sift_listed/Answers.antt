-- `strip_lists::sift_listed` meets its contract: one law for each way out.
use mathlib.Core.Path.{sym, ◌∙◌}
use Rattle.strip_lists.proofs.Ends.{plain-room, sifts-refused, sifts-listed, sifts-plain}
use Rattle.strip_lists.proofs.sift_listed.Goals as goal

pub sift_lines-requires : goal.sift_lines-requires
sift_lines-requires c = plain-room c.args.s.now c.args.list.now (sym c.in-AsItStands.is ∙ c.readiness.ensures)

pub returns-in-Refused : goal.returns-in-Refused
returns-in-Refused c = sifts-refused _ _ _ c.args.s.now c.args.list.now _ _ (sym c.in-Refused.is ∙ c.readiness.ensures) c.unsifted.ensures

pub returns-in-AsItStands : goal.returns-in-AsItStands
returns-in-AsItStands c = sifts-plain _ _ _ _ _ c.args.s.now c.args.list.now (sym c.in-AsItStands.is ∙ c.readiness.ensures) c.sift_lines.ensures

pub returns-in-ToSpell : goal.returns-in-ToSpell
returns-in-ToSpell c = sifts-listed _ _ _ _ _ c.args.s.now c.args.list.now (sym c.in-ToSpell.is ∙ c.readiness.ensures) c.sift_spelled.ensures
