-- `tag_content::chain::is_white` meets its contract: the four bytes are tried in turn.
use Rattle.tag_content.proofs.ChainValues.{white-space, white-tab, white-return, white-feed}
use Rattle.tag_content.proofs.chain.is_white.Goals as goal

pub returns-then-b-eq32 : goal.returns-then-b-eq32
returns-then-b-eq32 c = search white-space

pub returns-then-b-eq9 : goal.returns-then-b-eq9
returns-then-b-eq9 c = search white-tab

pub returns-then-b-eq13 : goal.returns-then-b-eq13
returns-then-b-eq13 c = search white-return

pub returns : goal.returns
returns c = white-feed _ c.if-b-eq32.false c.if-b-eq9.false c.if-b-eq13.false
