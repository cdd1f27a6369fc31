-- `text_quoted::store` meets its contract: a place that would be past the largest number is past the end.
use Rattle.std.proofs.Common.{rules}
use Rattle.text_quoted.proofs.Copied.{stored_at}
use Rattle.text_quoted.proofs.store.Goals as goal

pub returns : goal.returns
returns c = stored_at _ (search rules) _ _ c.saturating_add.ensures _ _ _ c.put_byte.ensures
