-- Which room is always enough, from the length that a report has at most.
use Prim.Native.Nat.{ℕ, ◌+◌, ◌*◌, ◌≤◌}
use native.Mathlib.Omega.{arith}
use mathlib.Core.Path.{◌≡◌, ap}
use mathlib.Core.List.{List}
use lib.ListN.{length}
use Rattle.lexis_rules.specs.Limits.{byte_limit}
use Rattle.report_rules.specs.Body.{reading}
use Rattle.report_rules.specs.Report.{Answer, report}
use Rattle.report_laws.proofs.Sizes.{report-size}
use Rattle.report_rules.specs.ByCase.{text_of}
use Rattle.report_laws.proofs.Numbers.{six-when, when-told}

-- what a body within the limit has to write has at most three bytes for each of its bytes, and four more
pub text-size : (body : List ℕ) → length body ≤ byte_limit → length (text_of (reading body)) ≤ 3 * length body + 4
text-size body l =
    let t = length (text_of (reading body)) in
    let e = ap (λ (a : Answer). length a.written) (when-told body t l (omega arith)) in
    omega (arith, e, report-size body t)

pub room-enough : (body : List ℕ) (room : ℕ) → 3 * length body + 4 ≤ room → (report body room).number ≡ 6 → ⊥
room-enough body room h e = let s = six-when body room e in omega (arith, s.1.1, text-size body s.0)
