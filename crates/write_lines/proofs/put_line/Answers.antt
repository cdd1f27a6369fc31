-- `write_lines::put_line` meets its contract: each way out has its law in `Answers`.
use Rattle.write_lines.proofs.Answers.{line-id, line-none, line-method, line-reason, line-property}
use Rattle.write_lines.proofs.put_line.Goals as goal

pub returns-then-b-eq105 : goal.returns-then-b-eq105
returns-then-b-eq105 c =
    record { value = (line-id _ _ _ _ _ c.byte-b.ensures c.if-b-eq105.true _ _ c.put_id.ensures).0; out_after = (line-id _ _ _ _ _ c.byte-b.ensures c.if-b-eq105.true _ _ c.put_id.ensures).1 }

pub returns-then-b-eq110 : goal.returns-then-b-eq110
returns-then-b-eq110 c =
    record { value = (line-none _ _ _ _ _ c.byte-b.ensures c.if-b-eq110.true _ _ c.put_none.ensures).0; out_after = (line-none _ _ _ _ _ c.byte-b.ensures c.if-b-eq110.true _ _ c.put_none.ensures).1 }

pub returns-then-b-eq109 : goal.returns-then-b-eq109
returns-then-b-eq109 c =
    record { value = (line-method _ _ _ _ _ c.byte-b.ensures c.if-b-eq109.true _ _ c.put_method.ensures).0; out_after = (line-method _ _ _ _ _ c.byte-b.ensures c.if-b-eq109.true _ _ c.put_method.ensures).1 }

pub returns-then-b-eq114 : goal.returns-then-b-eq114
returns-then-b-eq114 c =
    record { value = (line-reason _ _ _ _ _ c.byte-b.ensures c.if-b-eq105.false c.if-b-eq110.false c.if-b-eq109.false c.if-b-eq114.true _ _ c.put_reason.ensures).0; out_after = (line-reason _ _ _ _ _ c.byte-b.ensures c.if-b-eq105.false c.if-b-eq110.false c.if-b-eq109.false c.if-b-eq114.true _ _ c.put_reason.ensures).1 }

pub returns : goal.returns
returns c =
    record { value = (line-property _ _ _ _ _ c.byte-b.ensures c.if-b-eq105.false c.if-b-eq110.false c.if-b-eq109.false c.if-b-eq114.false _ _ c.put_property.ensures).0; out_after = (line-property _ _ _ _ _ c.byte-b.ensures c.if-b-eq105.false c.if-b-eq110.false c.if-b-eq109.false c.if-b-eq114.false _ _ c.put_property.ensures).1 }
