-- `write_lines::put_id` meets its contract: each way out has its law in `Lines`.
use Rattle.write_lines.proofs.Lines.{id-unlike, id-fits, id-untailed, id-put}
use Rattle.std.proofs.Common.{rules, ◌≡◌, None, sym}
use Rattle.write_lines.proofs.put_id.Goals as goal

pub returns-then-not-is_literal : goal.returns-then-not-is_literal
returns-then-not-is_literal c = search id-unlike

pub overflow_add-a : goal.overflow_add-a
overflow_add-a c = search id-fits

pub returns-in_err-end : goal.returns-in_err-end
returns-in_err-end c =
    let q : c.from_residual.result ≡ None = search rules in
    rw q (
    id-untailed c.args.s.now c.args.at _ c.is_literal.ensures c.if-not-is_literal.false _ c.text_line-l.ensures
    (sym c.in_err-end.was) _ _
    )

pub returns : goal.returns
returns c =
    id-put _ _ _ c.is_literal.ensures c.if-not-is_literal.false _ c.text_line-l.ensures _ (sym c.in_ok-end.was) _ _ (search rules) _ _ c.put_byte-n.ensures
    c.put_value-m.new.out c.put_value-m.result c.put_value-m.ensures
