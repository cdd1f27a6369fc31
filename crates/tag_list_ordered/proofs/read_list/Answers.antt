-- `tag_list_ordered::read_list` meets its contract: the tests of what was collected.
use Rattle.std.proofs.Common.{rules, ◌≡◌, Err}
use Rattle.tag_content.proofs.TagLists.{list-long, list-fits, collected-told, collected-unread}
use Rattle.tag_list_ordered.proofs.read_list.Goals as goal

pub returns-then-too_long : goal.returns-then-too_long
returns-then-too_long c = search list-long

pub collect-requires : goal.collect-requires
collect-requires c = search list-fits

pub returns-in_err-names : goal.returns-in_err-names
returns-in_err-names c =
    let q : c.from_residual.result ≡ Err c.in_err-names.field-0.0 = search rules in
    rw q (collected-unread _ _ _ _ _ c.collect.ensures c.in_err-names.field-0.0 c.in_err-names.was c.args.seal (list-fits c.args.s.now _ c.too_long.ensures c.if-too_long.false))

pub returns : goal.returns
returns c = collected-told _ _ _ _ _ c.collect.ensures _ c.in_ok-names.was _ _ (list-fits c.args.s.now _ c.too_long.ensures c.if-too_long.false) c.told.ensures
