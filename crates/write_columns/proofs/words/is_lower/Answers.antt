-- `write_columns::words::is_lower` meets its contract: each byte is as it is in lower case.
use Rattle.std.proofs.Common.{rules, tests, ◌≡◌, ℕ, nat_eq}
use mathlib.Core.Path.{◌∙◌}
use Rattle.std.proofs.lemmas.Iterator.{YieldsList-from_slice}
use Rattle.std.proofs.lemmas.Iterator.Search.{all_from_yields_List}
use Rattle.std.specs.List.{list_all}
use Rattle.lexis_rules.specs.Bytes.{lower}
use Rattle.write_columns.proofs.Keywords.{lower-all}
use Rattle.write_columns.proofs.words.is_lower.Goals as goal

pub returns : goal.returns
returns c =
    let e : c.all.result ≡ list_all (λ (b : ℕ). nat_eq (lower b) b) c.args.part.now =
    all_from_yields_List (λ (b : ℕ). nat_eq (lower b) b) _ _ c.all.result c.all.ensures.ran (YieldsList-from_slice c.args.part.now cc) (λ x b q k. search (rules, tests)) in
    e ∙ lower-all c.args.part.now
