-- `strip_rooms::stops` meets its contract: the array is made so.
use mathlib.Core.Path.{refl}
use Rattle.strip_rooms.proofs.stops.Goals as goal

pub returns : goal.returns
returns c = record { value = refl; value_2 = refl }
