-- `text_quoted::inside` meets its contract: a place that would be past the largest number is past the end.
use lib.Seq.{drop-drop}
use mathlib.Core.Path.{◌∙◌}
use Rattle.std.proofs.Common.{rules}
use Rattle.text_quoted.proofs.Copied.{drop-past}
use Rattle.text_quoted.proofs.inside.Goals as goal

pub returns : goal.returns
returns c = drop-past _ (search rules) _ _ c.saturating_add.ensures ∙ rw drop-drop
