-- `ownlist_lines::is_span` meets its contract: bytes of another length are not alike, and where there are none the text has none.
use Rattle.ownlist_lines.proofs.Seeking.{span-other, span-empty}
use Rattle.ownlist_lines.proofs.is_span.Goals as goal

pub returns-then-rest-text : goal.returns-then-rest-text
returns-then-rest-text c = span-other _ _ _ _ c.requires _ c.rest.ensures c.if-rest-text.true

pub returns-then-e-a : goal.returns-then-e-a
returns-then-e-a c = span-empty _ _ _ _ c.requires _ c.rest.ensures c.if-rest-text.false c.if-e-a.true

pub returns : goal.returns
returns c = c.same_text.ensures
