-- `tag_list::try_linked` meets its contract: the tests of what was collected.
use Rattle.std.proofs.Common.{rules, ◌≡◌, Err}
use Rattle.tag_content.proofs.TagLists.{collected-told, collected-unread}
use Rattle.tag_list.proofs.try_linked.Goals as goal

pub returns-in_err-names : goal.returns-in_err-names
returns-in_err-names c =
    let q : c.from_residual.result ≡ Err c.in_err-names.field-0.0 = search rules in
    rw q (collected-unread _ _ _ _ _ c.collect_linked.ensures c.in_err-names.field-0.0 c.in_err-names.was c.args.seal c.requires.0)

pub returns : goal.returns
returns c = collected-told _ _ _ _ _ c.collect_linked.ensures _ c.in_ok-names.was _ _ c.requires.0 c.told.ensures
