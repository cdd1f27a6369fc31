-- `write_texts::put_guarded` meets its contract: each way out has its law in `Texts`.
use Rattle.write_texts.proofs.Texts.{put-bare, put-unguarded, put_both}
use borrow.Author.Rules.{rules}
use Rattle.write_texts.proofs.put_guarded.Goals as goal

pub returns-then-is_guarded : goal.returns-then-is_guarded
returns-then-is_guarded c = put_both c.args.b _ _ _ c.if-quoted.true _ c.is_guarded.ensures c.if-is_guarded.true (search rules) _ _ c.put_byte-n.ensures c.put_byte.new.out c.put_byte.result c.put_byte.ensures

pub returns-then-quoted : goal.returns-then-quoted
returns-then-quoted c = search put-unguarded

pub returns : goal.returns
returns c = search put-bare
