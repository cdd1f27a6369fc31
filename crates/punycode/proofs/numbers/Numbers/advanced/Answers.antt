-- `punycode::numbers::Numbers::advanced` meets its contract: the variables are small, so that nothing overflows.
use native.Mathlib.Omega.{arith}
use Rattle.punycode.proofs.Bounds.{digit-large}
use Rattle.punycode.proofs.numbers.Numbers.advanced.Goals as goal

pub overflow_mul-result : goal.overflow_mul-result
overflow_mul-result c = omega (arith, digit-large c.args.self c.requires.0 c.args.d c.requires.1)

pub overflow_add-result : goal.overflow_add-result
overflow_add-result c = omega (arith, digit-large c.args.self c.requires.0 c.args.d c.requires.1)
