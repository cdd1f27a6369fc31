-- The comment reader and the reader of what a comment holds meet their contracts. They call each other: a call for the comment has twice
-- the depth that is left for its measure, a call for what it holds one more.
use Rattle.std.specs.Prelude.{◌+◌, ◌-◌, length}
use Rattle.base_readers.specs.Places.{Reaches}
use Rattle.lexis_rules.specs.declared.Class.TheVariants.{Comment}
use Rattle.lexis_rules.specs.Pieces.{content}
use Rattle.lexis_comments.proofs.+comment_from_content_from.Given as goal

abbrev pub decreases-comment_from : goal.decreases-comment_from
decreases-comment_from l = l.c.depth + l.c.depth

abbrev pub decreases-content_from : goal.decreases-content_from
decreases-content_from l = l.c.depth + l.c.depth + 1

abbrev pub invariant-content_from-loop-f : goal.invariant-content_from-loop-f
invariant-content_from-loop-f l = Reaches (content l.depth Comment) l.s l.initial.i l.i

abbrev pub decreases-content_from-loop-f : goal.decreases-content_from-loop-f
decreases-content_from-loop-f l = length l.s - l.i
