-- `arc_answers::seals_good` meets its contract: each seal is tested.
use Rattle.std.proofs.lemmas.Iterator.{YieldsList-from_slice}
use Rattle.std.proofs.lemmas.Iterator.Search.{all_from_yields_List}
use Rattle.std.proofs.Common.{rules, tests, ◌≡◌}
use mathlib.Core.Path.{◌∙◌}
use Rattle.std.specs.List.{list_all}
use Rattle.arc_rules.specs.Chain.{seal_good}
use Rattle.arc_answers.proofs.Verdicts.{all-is}
use Rattle.arc_answers.proofs.seals_good.Goals as goal

pub returns : goal.returns
returns c =
    let e : c.all.result ≡ list_all seal_good c.args.v.now = all_from_yields_List seal_good _ _ c.all.result c.all.ensures.ran (YieldsList-from_slice c.args.v.now cc) (λ x b q k. search (rules, tests)) in
    e ∙ all-is seal_good c.args.v.now
