-- `tag_content::ended` meets its contract: the place is past the body, or not.
use Rattle.tag_content.proofs.TagLists.{ended-there, ended-not}
use Rattle.tag_content.proofs.ended.Goals as goal

pub returns-then-at-s : goal.returns-then-at-s
returns-then-at-s c = search ended-there

pub returns : goal.returns
returns c = search ended-not
