-- A byte of a line is any but LF.
use mathlib.Core.Path.{refl}
use Rattle.base_readers.specs.Lines.{feedless}
use Rattle.ownlist_lines.proofs.ends.LineByteByteTest.passes.Goals as goal

pub returns : goal.returns
unfolding feedless
returns c = refl
