-- `punycode::numbers::Numbers::threshold` meets its contract: each test in turn is a case of the definition.
use Rattle.punycode_laws.proofs.Digits.{threshold-low, threshold-high, threshold-between}
use Rattle.punycode.proofs.numbers.Numbers.threshold.Goals as goal

pub returns-then-self : goal.returns-then-self
returns-then-self c = search threshold-low

pub returns-then-self-2 : goal.returns-then-self-2
returns-then-self-2 c = search threshold-high

pub returns : goal.returns
returns c = search threshold-between
