-- `blockreport_fields::put_field` meets its contract: a field of this name is told, any other adds nothing.
use native.Mathlib.Omega.{arith}
use Rattle.blockreport_fields.proofs.Bodies.{this-name, other_name}
use Rattle.blockreport_fields.proofs.put_field.Goals as goal

pub returns-then-same_text : goal.returns-then-same_text
returns-then-same_text c =
    record { value = (this-name _ _ _ _ _ _ c.same_text.ensures _ _ c.if-same_text.true _ c.whose_spelled.ensures _ _ (c.put_body.ensures.value, c.put_body.ensures.out_after)).0; out_after = (this-name _ _ _ _ _ _ c.same_text.ensures _ _ c.if-same_text.true _ c.whose_spelled.ensures _ _ (c.put_body.ensures.value, c.put_body.ensures.out_after)).1 }

pub returns : goal.returns
returns c =
    record { value = (other_name _ _ _ _ _ _ c.same_text.ensures c.args.out.now c.args.to c.if-same_text.false (omega arith)).0; out_after = (other_name _ _ _ _ _ _ c.same_text.ensures c.args.out.now c.args.to c.if-same_text.false (omega arith)).1 }
