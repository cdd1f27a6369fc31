-- `lexis_comments::Cursor::fresh` meets its contract: the constant of the code is the definition's.
use mathlib.Core.Path.{refl}
use Rattle.lexis_comments.proofs.Cursor.fresh.Goals as goal

pub returns : goal.returns
returns c = refl
