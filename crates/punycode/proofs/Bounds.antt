-- How large the variables of the code are: no sum or product overflows, and what holds of them before a digit holds after it.
use Prim.Native.Nat.{ℕ, ◌+◌, ◌-◌, ◌*◌, ◌%◌, ◌≤◌, ◌<◌}
use native.Mathlib.Nat.{mul-le-mul_right, mul-le-mul_left, mod-lt}
use native.Mathlib.Omega.{arith}
use lib.Dec.{eqb}
use Rattle.punycode.specs.declared.numbers.Numbers.{Numbers}
use Rattle.punycode_rules.specs.Punycode.{threshold}
use Rattle.punycode_rules.specs.Labels.{spelling_limit}
use Rattle.punycode.specs.Internal.{limit, fresh_numbers, last_of, more_of, Small}
use Rattle.punycode_laws.proofs.Digits.{threshold-bounds}
use Rattle.punycode_laws.proofs.Adapting.{adapt-bound}

-- at a start
pub small-start : Small fresh_numbers
small-start = omega arith

module _ (q : Numbers) (s : Small q) (d : ℕ) (h : d < 36) where
  pub product : d * q.w ≤ 35 * q.w
  product = mul-le-mul_right q.w (omega arith)

  pub digit-large : d * q.w ≤ 42875315080000
  digit-large = omega (arith, product)

  pub weight-large : q.w * (36 - threshold q.k q.bias) ≤ 35 * q.w
  weight-large = omega (arith, mul-le-mul_left q.w (weight (threshold q.k q.bias) (threshold-bounds q.k q.bias).0))
    where
      weight : (t : ℕ) → 1 ≤ t → 36 - t ≤ 35
      weight t h = omega arith

  weight-more : 10 * q.w ≤ q.w * (36 - threshold q.k q.bias)
  weight-more = omega (arith, mul-le-mul_left q.w (weight (threshold q.k q.bias) (threshold-bounds q.k q.bias).1))
    where
      weight : (t : ℕ) → t ≤ 26 → 10 ≤ 36 - t
      weight t h = omega arith

  module _ (g : q.i + d * q.w < limit) where
    -- a digit after which the number goes on is at least 1, so that i is at least the weight
    pub small-more : threshold q.k q.bias ≤ d → Small (more_of q d)
    small-more t =
        let o : 1 * q.w ≤ d * q.w = mul-le-mul_right q.w (omega (arith, threshold-bounds q.k q.bias)) in
        record {
          n = s.n;
          i = g;
          old = omega arith;
          some = omega (arith, weight-more);
          w = omega (arith, weight-large);
          first = omega arith;
          k = omega (arith, weight-more);
          bias = s.bias;
        }

    -- the place is among the code points before it
    pub place_in : (count : ℕ) → (q.i + d * q.w) % (count + 1) < count + 1
    place_in count = mod-lt (q.i + d * q.w) (omega arith)

    pub small-last : (count : ℕ) → count ≤ spelling_limit → (last_of q d count).n < 1114112 → Small (last_of q d count)
    small-last count l v =
        record {
          n = v;
          i = omega (arith, place_in count);
          old = omega arith;
          some = omega arith;
          w = omega arith;
          first = omega arith;
          k = omega arith;
          bias = omega (arith, adapt-bound (q.i + d * q.w - q.old) (count + 1) (eqb q.old 0));
        }
