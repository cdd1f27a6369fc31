-- `text_quoted::store_run` meets its contract: a place that would be past the largest number is past the end.
use Rattle.std.proofs.Common.{rules}
use Rattle.text_quoted.proofs.Copied.{stored_run}
use Rattle.text_quoted.proofs.store_run.Goals as goal

pub returns : goal.returns
returns c = stored_run _ (search rules) _ _ c.saturating_add.ensures _ _ _ c.put_text.ensures
