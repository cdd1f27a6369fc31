-- `punycode::numbers::adapt` meets its contract: both branches are cases of the definition.
use Rattle.punycode_laws.proofs.Adapting.{adapt-first, adapt-later}
use Rattle.punycode.proofs.numbers.adapt.Goals.{then-first, else-first}
use Rattle.punycode.proofs.numbers.adapt.Goals as goal

pub returns : goal.returns
returns c =
    elim c.if-first.branch [
      | then-first w ↦ rw (w.if-first.true, c.scaled.ensures, w.d-is) (adapt-first c.args.delta c.args.points)
      | else-first w ↦ rw (w.if-first.false, c.scaled.ensures, w.d-is) (adapt-later c.args.delta c.args.points)
    ]
