-- `lexis_limits::Size::of` meets its contract: the size of a text is its length.
use mathlib.Core.Path.{refl}
use Rattle.lexis_limits.proofs.Size.of.Goals as goal

pub returns : goal.returns
returns c = refl
