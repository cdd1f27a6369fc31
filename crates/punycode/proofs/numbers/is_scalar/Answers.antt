-- `punycode::numbers::is_scalar` meets its contract: the ranges of the code are those of the definition.
use Rattle.std.proofs.Common.{arith}
use Rattle.std.proofs.lemmas.Bool.Decides.{nat_tests}
use Rattle.base_readers.specs.Texts.{within}
use Rattle.punycode_rules.specs.Unicode.{scalar}
use Rattle.punycode.proofs.numbers.is_scalar.Goals as goal

pub returns-in_default : goal.returns-in_default
unfolding scalar within
returns-in_default c = grind (arith, nat_tests)

pub returns-in_default-2 : goal.returns-in_default-2
unfolding scalar within
returns-in_default-2 c = grind (arith, nat_tests)

pub returns-in-0-to-55295 : goal.returns-in-0-to-55295
unfolding scalar within
returns-in-0-to-55295 c = grind (arith, nat_tests)

pub returns-in-0-to-55295-2 : goal.returns-in-0-to-55295-2
unfolding scalar within
returns-in-0-to-55295-2 c = grind (arith, nat_tests)
