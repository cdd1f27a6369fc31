-- `punycode::numbers::digit_of` meets its contract: each arm is a case of the definition.
use Rattle.std.proofs.Common.{arith}
use Rattle.std.proofs.lemmas.Bool.Decides.{nat_tests}
use Rattle.base_readers.specs.Texts.{within}
use Rattle.punycode_rules.specs.Punycode.{digit_of}
use Rattle.punycode.proofs.numbers.digit_of.Goals as goal

pub returns-in-48-to-57 : goal.returns-in-48-to-57
unfolding digit_of within
returns-in-48-to-57 c = grind (arith, nat_tests)

pub returns-in-65-to-90 : goal.returns-in-65-to-90
unfolding digit_of within
returns-in-65-to-90 c = grind (arith, nat_tests)

pub returns-in-97-to-122 : goal.returns-in-97-to-122
unfolding digit_of within
returns-in-97-to-122 c = grind (arith, nat_tests)

pub returns-in_default : goal.returns-in_default
unfolding digit_of within
returns-in_default c = grind (arith, nat_tests)

pub returns-in_default-2 : goal.returns-in_default-2
unfolding digit_of within
returns-in_default-2 c = grind (arith, nat_tests)

pub returns-in_default-3 : goal.returns-in_default-3
unfolding digit_of within
returns-in_default-3 c = grind (arith, nat_tests)

pub returns-in_default-4 : goal.returns-in_default-4
unfolding digit_of within
returns-in_default-4 c = grind (arith, nat_tests)
