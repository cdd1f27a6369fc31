-- `strip_fields::is_disowned` meets its contract: ours and unreadable identifiers are disowned.
use Rattle.strip_fields.proofs.Goes.{whose-disowned}
use Rattle.strip_fields.proofs.is_disowned.Goals as goal

pub returns : goal.returns
returns c = search whose-disowned
