-- `text_parts::places::keep` meets its contract: where there is no such place the definition's store changes nothing.
use mathlib.Core.Path.{refl, sym}
use lib.Seq.{set_out}
use Rattle.text_parts.proofs.places.keep.Goals as goal

pub returns-then-k-places : goal.returns-then-k-places
returns-then-k-places c = refl

pub returns-else-k-places : goal.returns-else-k-places
returns-else-k-places c = sym (set_out _ _ _ c.if-k-places.false)
