-- `report::results::put_next` meets its contract: the separator, and what stands behind it.
use mathlib.Core.Path.{refl}
use Rattle.report.proofs.Turns.{no-separator, turn-put}
use Rattle.report.proofs.results.put_next.Goals as goal

pub returns-then-a-at : goal.returns-then-a-at
returns-then-a-at c = (no-separator _ _ _ c.requires.0 _ c.separator_from-a.ensures c.if-a-at.true, refl)

pub returns : goal.returns
returns c = search turn-put
