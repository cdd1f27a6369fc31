-- `punycode::labels::is_prefixed` meets its contract: the pattern is the definition's test.
use Rattle.std.proofs.Common.{arith}
use Rattle.std.proofs.lemmas.Grind.{common_steps}
use Rattle.std.proofs.lemmas.Bool.Decides.{nat_tests}
use Rattle.base_readers.specs.Texts.{one_of}
use Rattle.punycode_rules.specs.Labels.{prefixed}
use Rattle.punycode.proofs.labels.is_prefixed.Goals as goal

pub returns-in-120 : goal.returns-in-120
unfolding prefixed one_of
returns-in-120 c = grind (arith, nat_tests, common_steps)

pub returns-in_default : goal.returns-in_default
unfolding prefixed one_of
returns-in_default c = grind (arith, nat_tests, common_steps)

pub returns-in_default-2 : goal.returns-in_default-2
unfolding prefixed one_of
returns-in_default-2 c = grind (arith, nat_tests, common_steps)

pub returns-in_default-3 : goal.returns-in_default-3
unfolding prefixed one_of
returns-in_default-3 c = grind (arith, nat_tests, common_steps)

pub returns-in_default-4 : goal.returns-in_default-4
unfolding prefixed one_of
returns-in_default-4 c = grind (arith, nat_tests, common_steps)

pub returns-in_default-5 : goal.returns-in_default-5
unfolding prefixed one_of
returns-in_default-5 c = grind (arith, nat_tests, common_steps)
