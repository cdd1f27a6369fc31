-- `block::next_field` meets its contract: a field that was found whole is the one that stands there.
use Rattle.block.proofs.WholeFields.{whole-3, whole-4, whole-field}
use Rattle.block.proofs.next_field.Goals as goal

pub returns-then-e-at : goal.returns-then-e-at
returns-then-e-at c = c.next_by_lines.ensures

pub label_end-b-requires : goal.label_end-b-requires
label_end-b-requires c = c.run_end-n.ensures

pub returns-then-b-at : goal.returns-then-b-at
returns-then-b-at c = whole-3 _ _ _ c.whole_end-e.ensures c.if-e-at.false _ _ c.label_end-b.ensures c.if-b-at.true

pub returns-then-count-ge-FIELDS : goal.returns-then-count-ge-FIELDS
returns-then-count-ge-FIELDS c = whole-4 _ _ _ c.whole_end-e.ensures c.if-e-at.false _ _ c.label_end-b.ensures c.if-b-at.false c.if-count-ge-FIELDS.true

pub returns : goal.returns
returns c = whole-field _ _ _ c.whole_end-e.ensures c.if-e-at.false _ _ c.label_end-b.ensures c.if-b-at.false c.if-count-ge-FIELDS.false _ c.run_end-n.ensures
