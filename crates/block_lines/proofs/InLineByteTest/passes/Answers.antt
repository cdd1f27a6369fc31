-- A byte of a line is neither CR nor LF.
use Rattle.std.proofs.Common.{arith}
use Rattle.std.proofs.lemmas.Bool.Decides.{nat_tests}
use Rattle.base_readers.specs.Texts.{one_of}
use Rattle.block_rules.specs.Fields.{in_line}
use Rattle.block_lines.proofs.InLineByteTest.passes.Goals as goal

pub returns : goal.returns
unfolding in_line one_of
returns c = grind (arith, nat_tests)
