use Rattle.punycode_hyphens.proofs.Doubles.{passed-part}
use Rattle.punycode_hyphens.proofs.plain_front.Goals as goal

pub loop-i-preserved : goal.loop-i-preserved
loop-i-preserved g c = passed-part _ _ _ c.loop-i.invariant g.row.N _ c.double_among.ensures c.if-double_among.false
