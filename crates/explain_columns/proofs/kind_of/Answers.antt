-- What a line is by a first column of more than one byte, or of none: it is none of the letters.
use Rattle.std.proofs.Common.{rules}
use Rattle.base_readers.proofs.Texts.{same-long}
use Rattle.explain_rules.specs.Explained.{kind_of}
use Rattle.explain_columns.proofs.kind_of.Goals as goal

pub returns-then-is_same-3 : goal.returns-then-is_same-3
unfolding kind_of
returns-then-is_same-3 c = search (rules, same-long)

pub returns : goal.returns
unfolding kind_of
returns c = search (rules, same-long)
