-- `arc::is_prescribed` meets its contract: the first chain value, and those after it.
use Rattle.std.proofs.Common.{rules, tests, ◌≡◌, ◌-◌, take, drop}
use Rattle.std.proofs.lemmas.Iterator.{YieldsList-from_slice}
use Rattle.std.proofs.lemmas.Iterator.Search.{all_from_yields_List}
use Rattle.std.specs.List.{list_all}
use Rattle.arc.proofs.Ranking.{passed, prescribed-none, prescribed-first, prescribed-rest}
use Rattle.arc.proofs.is_prescribed.Goals as goal

pub returns-then-n-eq0 : goal.returns-then-n-eq0
returns-then-n-eq0 c = search prescribed-none

pub returns-then-cvs-eq-NONE : goal.returns-then-cvs-eq-NONE
returns-then-cvs-eq-NONE c =
    let e : c.all.result ≡ list_all passed (take (c.args.n - 1) (drop 1 c.args.cvs.now)) =
    all_from_yields_List passed _ _ c.all.result c.all.ensures.ran (YieldsList-from_slice (take (c.args.n - 1) (drop 1 c.args.cvs.now)) cc) (λ x b q k. search (rules, tests)) in
    prescribed-rest _ _ c.requires c.if-n-eq0.false c.if-cvs-eq-NONE.true _ e

pub returns-else-cvs-eq-NONE : goal.returns-else-cvs-eq-NONE
returns-else-cvs-eq-NONE c = prescribed-first _ _ c.requires c.if-n-eq0.false c.if-cvs-eq-NONE.false
