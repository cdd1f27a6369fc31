-- `ownlist_check::Entries::fresh` meets its contract: a walk over a list starts at the front.
use mathlib.Core.Path.{refl}
use Rattle.ownlist_check.proofs.Entries.fresh.Goals as goal

pub returns : goal.returns
returns c = refl
