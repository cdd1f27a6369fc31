-- `write_lines::put_shown` meets its contract: each way out has its law in `Properties`.
use Rattle.write_lines.proofs.Properties.{shown-put}
use borrow.Author.Rules.{rules}
use Rattle.write_lines.proofs.put_shown.Goals as goal

pub returns : goal.returns
returns c = shown-put c.args.t.now c.args.p.now _ _ _ _ (search rules) _ _ c.put_byte-a.ensures c.put_pair-b.new.out c.put_pair-b.result c.put_pair-b.ensures _ _ c.put_byte-c.ensures _ _ c.put_pvalue.ensures
