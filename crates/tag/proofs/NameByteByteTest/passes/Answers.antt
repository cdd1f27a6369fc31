-- A byte of a tag's name: a byte of keywords but the hyphen, or "_".
use borrow.Author.Tests.{ne_eqb}
use mathlib.Core.Path.{◌∙◌}
use Rattle.base_readers.specs.Texts.{within}
use Rattle.lexis_rules.specs.Bytes.{letter, in_class}
use Rattle.tag_rules.specs.Tags.{in_tag_name}
use Rattle.tag.proofs.NameByteByteTest.passes.Goals as goal

pub returns-then-b-eq95 : goal.returns-then-b-eq95
unfolding in_tag_name in_class letter within
returns-then-b-eq95 c = rw c.if-b-eq95.true

pub returns-then-b-eq45 : goal.returns-then-b-eq45
unfolding in_tag_name in_class letter within
returns-then-b-eq45 c = rw c.if-b-eq45.true

pub returns : goal.returns
unfolding in_tag_name in_class letter within
returns c = let b = c.args.b in
    c.in_class.ensures ∙ rw (ne_eqb b 95 c.if-b-eq95.false, ne_eqb b 45 c.if-b-eq45.false)
