-- `strip_fields::is_removed` meets its contract: each test is one of the definition.
use Rattle.strip_fields.proofs.Goes.{other_name, this-name}
use Rattle.strip_fields.proofs.is_removed.Goals as goal

pub returns-then-same_text : goal.returns-then-same_text
returns-then-same_text c = this-name _ _ _ _ c.same_text.ensures c.if-same_text.true _ c.is_disowned.ensures

pub returns : goal.returns
returns c = other_name _ _ _ _ c.same_text.ensures c.if-same_text.false
