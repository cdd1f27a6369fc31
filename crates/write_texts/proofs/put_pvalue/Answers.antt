-- `write_texts::put_pvalue` meets its contract: each way out has its law in `Values`.
use Rattle.write_texts.proofs.Values.{value-token, value-text, value-mailbox, value-at}
use Rattle.write_texts.proofs.put_pvalue.Goals as goal

pub returns-then-k-eq116 : goal.returns-then-k-eq116
returns-then-k-eq116 c = value-token _ c.args.v.now _ _ c.if-k-eq116.true c.put_value.new.out c.put_value.result c.put_value.ensures

pub returns-then-k-eq113 : goal.returns-then-k-eq113
returns-then-k-eq113 c = search value-text

pub returns-then-k-eq109 : goal.returns-then-k-eq109
returns-then-k-eq109 c = search value-mailbox

pub returns : goal.returns
returns c = search value-at
