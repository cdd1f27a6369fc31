-- `text_compare::lower` meets its contract: the library's tests say what the definition's test says.
use Rattle.std.proofs.Common.{arith}
use Rattle.std.proofs.lemmas.Bool.Decides.{nat_tests}
use Rattle.base_readers.specs.Texts.{within}
use Rattle.lexis_rules.specs.Bytes.{lower}
use Rattle.text_compare.proofs.lower.Goals as goal

pub returns : goal.returns
unfolding lower within
returns c = grind (arith, nat_tests, c.to_ascii_lowercase.ensures.value)
