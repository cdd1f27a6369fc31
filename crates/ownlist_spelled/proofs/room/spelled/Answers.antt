-- `ownlist_spelled::room::spelled` meets its contract: the array is made so.
use mathlib.Core.Path.{refl}
use Rattle.ownlist_spelled.proofs.room.spelled.Goals as goal

pub returns : goal.returns
returns c = record { value = refl; value_2 = refl }
