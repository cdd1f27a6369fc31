use Rattle.tag_names.proofs.Fronts.{name-longer, name-same, body-ends, byte-less, byte_more, byte-behind, byte-equal}
use Rattle.tag_names.proofs.compare.Goals as goal

pub returns-then-i-s : goal.returns-then-i-s
returns-then-i-s c = search body-ends

pub returns-then-s-i : goal.returns-then-s-i
returns-then-s-i c = byte-less c.args.s.now c.args.at c.args.name.now c.loop-b.i c.loop-b.b-index c.loop-b.invariant c.if-i-s.false c.loop-b-test.true c.if-s-i.true

pub returns-then-in_name : goal.returns-then-in_name
returns-then-in_name c = search byte_more

pub returns-else-in_name : goal.returns-else-in_name
returns-else-in_name c = search byte-behind

pub loop-b-preserved : goal.loop-b-preserved
loop-b-preserved c = search byte-equal

pub returns-then-in_name-2 : goal.returns-then-in_name-2
returns-then-in_name-2 c = search name-longer

pub returns : goal.returns
returns c = search name-same
