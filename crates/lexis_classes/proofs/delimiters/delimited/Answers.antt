-- `lexis_classes::delimiters::delimited` meets its contract: what comes next at a place.
use Rattle.lexis_rules.specs.declared.Class.TheVariants.{Delimiter}
use Rattle.lexis_rules.specs.Bytes.{in_class}
use Rattle.base_readers.proofs.Texts.{follows-at, follows-end}
use Rattle.lexis_classes.proofs.delimiters.delimited.Goals as goal

pub returns-then-at-s : goal.returns-then-at-s
returns-then-at-s c = search follows-at

pub returns : goal.returns
returns c = follows-end (in_class Delimiter) c.args.s.now c.args.at c.if-at-s.false
