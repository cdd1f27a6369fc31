-- Colon is the one byte from 33 to 126 that may not stand in a name.
use Rattle.std.proofs.Common.{arith}
use Rattle.std.proofs.lemmas.Bool.Decides.{nat_tests}
use Rattle.base_readers.specs.Texts.{within}
use Rattle.lexis_rules.specs.Bytes.{in_class}
use Rattle.block.proofs.InNameByteTest.passes.Goals as goal

pub returns-in-33-to-126 : goal.returns-in-33-to-126
unfolding in_class within
returns-in-33-to-126 c = grind (arith, nat_tests)

pub returns-in_default : goal.returns-in_default
unfolding in_class within
returns-in_default c = grind (arith, nat_tests)

pub returns-in_default-2 : goal.returns-in_default-2
unfolding in_class within
returns-in_default-2 c = grind (arith, nat_tests)
