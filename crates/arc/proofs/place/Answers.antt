-- `arc::place` meets its contract: both ways out are cases of the definition.
use Rattle.std.proofs.Common.{arith, ◌≡◌, cond, ltb}
use Rattle.std.proofs.lemmas.Bool.Decides.{nat_tests}
use Rattle.arc.proofs.Noting.{place-taken, place-free}
use Rattle.arc.proofs.place.Goals as goal

pub returns-then-places-field-ne0 : goal.returns-then-places-field-ne0
returns-then-places-field-ne0 c = place-taken _ _ _ _ _ _ _ _ c.column-k.ensures c.if-places-field-ne0.true _ c.first.ensures

pub returns : goal.returns
returns c =
    let e : c.max.result ≡ cond (ltb c.args.c.highest c.args.field.instance) c.args.field.instance c.args.c.highest = grind (arith, nat_tests) in
    place-free _ _ _ _ _ _ _ _ c.column-k.ensures c.if-places-field-ne0.false _ c.narrow.ensures _ c.keep_cv.ensures _ e
