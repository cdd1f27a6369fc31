-- `punycode::numbers::Numbers::more` meets its contract: the variables are small, so that nothing overflows.
use native.Mathlib.Omega.{arith}
use Rattle.punycode_laws.proofs.Digits.{threshold-bounds}
use Rattle.punycode.proofs.Bounds.{weight-large}
use Rattle.punycode.proofs.numbers.Numbers.more.Goals as goal

pub overflow_sub-result : goal.overflow_sub-result
overflow_sub-result c = omega (arith, c.threshold-t.ensures, threshold-bounds c.args.self.k c.args.self.bias)

pub overflow_mul-result : goal.overflow_mul-result
overflow_mul-result c = rw c.threshold-t.ensures (omega (arith, weight-large c.args.self c.requires.0 c.args.d c.requires.1))
