-- `base_readers::rest` meets its contract: what is left is a difference, and past the end there is none.
use mathlib.Core.Path.{refl}
use Rattle.base_readers.proofs.rest.Goals as goal

pub returns-then-i-n : goal.returns-then-i-n
returns-then-i-n c = refl
