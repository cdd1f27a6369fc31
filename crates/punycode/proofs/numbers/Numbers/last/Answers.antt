-- `punycode::numbers::Numbers::last` meets its contract: the variables are small, so that nothing overflows.
use native.Mathlib.Omega.{arith}
use Prim.Native.Nat.{◌+◌, ◌*◌}
use native.Mathlib.Nat.{div-le_self, mod-le}
use Rattle.punycode.proofs.numbers.Numbers.last.Goals as goal

pub overflow_add-j : goal.overflow_add-j
overflow_add-j c = omega (arith, mod-le (c.args.self.i + c.args.d * c.args.self.w) (c.args.count + 1))

pub overflow_add-result : goal.overflow_add-result
overflow_add-result c = omega (arith, div-le_self (c.args.self.i + c.args.d * c.args.self.w) (c.args.count + 1))
