-- `arc_answers::are_valid` meets its contract: the length and each byte are those of the definition.
use Rattle.std.proofs.lemmas.Iterator.{YieldsList-from_slice}
use Rattle.std.proofs.lemmas.Iterator.Search.{all_from_yields_List}
use Rattle.std.proofs.Common.{rules, tests, ◌≡◌}
use Rattle.std.specs.List.{list_all}
use Rattle.arc_answers.proofs.Verdicts.{verdict, valid-long, valid-all}
use Rattle.arc_answers.proofs.are_valid.Goals as goal

pub returns-then-v-n : goal.returns-then-v-n
returns-then-v-n c =
    let e : c.all.result ≡ list_all verdict c.args.v.now = all_from_yields_List verdict _ _ c.all.result c.all.ensures.ran (YieldsList-from_slice c.args.v.now cc) (λ x b q k. search (rules, tests)) in
    valid-all _ _ c.if-v-n.true _ e

pub returns-else-v-n : goal.returns-else-v-n
returns-else-v-n c = valid-long _ _ c.if-v-n.false
