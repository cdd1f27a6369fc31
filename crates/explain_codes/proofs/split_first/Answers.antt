-- What stands for the first byte stands inside the text, and the others are behind it.
use Rattle.std.proofs.Common.{arith, rules, sym, refl, length, ◌≤◌}
use Rattle.explain_rules.proofs.Texts.{byte-itself, code-long}
use Rattle.explain_codes.proofs.Codes.{none-left, takes-code, takes-itself, behind, text-behind}
use Rattle.explain_codes.proofs.split_first.Goals as goal

pub returns-then-s-eq0-clause-none : goal.returns-then-s-eq0-clause-none
returns-then-s-eq0-clause-none c = none-left _ c.if-s-eq0.true

pub slice_bounds-result-count : goal.slice_bounds-result-count
slice_bounds-result-count c = omega (arith, code-long _ c.in-Some.ensures.code)

pub slice_bounds-result-start : goal.slice_bounds-result-start
slice_bounds-result-start c = omega (arith, code-long _ c.in-Some.ensures.code)

pub returns-in-Some : goal.returns-in-Some
returns-in-Some c = record { none = search rules; first = c.in-Some.ensures.byte; behind = search (rules, behind, takes-code, code-long); text = search (rules, text-behind, takes-code, code-long); shorter = omega (arith, code-long _ c.in-Some.ensures.code) }

pub returns-in-None : goal.returns-in-None
returns-in-None c =
    let b = sym (byte-itself c.args.s.now c.in-None.ensures.none) in
    let t = takes-itself _ 1 refl c.in-None.ensures.none in
    let l : 1 ≤ length c.args.s.now = omega (arith, c.if-s-eq0.false) in
    record { none = search rules; first = b; behind = behind _ _ t l; text = text-behind _ _ _ b t l; shorter = omega (arith, c.if-s-eq0.false) }
