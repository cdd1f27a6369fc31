use Rattle.std.proofs.Common.{rules}
use Rattle.explain_texts.proofs.Texts.{quoted-more, quoted-done}
use Rattle.explain_texts.proofs.put_quoted.Goals as goal

pub loop-b-preserved : goal.loop-b-preserved
loop-b-preserved c = quoted-more _ _ _ _ _ _ c.loop-b.invariant (search rules) _ _ c.in-Some.ensures.text c.put_quoted_byte-n.new.out c.put_quoted_byte-n.result c.put_quoted_byte-n.ensures

pub returns : goal.returns
returns c = search (rules, quoted-done)
