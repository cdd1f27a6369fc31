-- `punycode::decoding::read_points` meets its contract: the basic code points, and then the numbers, as in the definition.
use native.Mathlib.Omega.{arith}
use mathlib.Core.Path.{◌≡◌, ◌∙◌}
use Rattle.punycode_rules.specs.Punycode.{consumed}
use Rattle.punycode_laws.proofs.Basics.{before-inside, consumed-none, consumed-some}
use Rattle.punycode.proofs.Copying.{basics-long, basics-opened, basics-then, basics-not}
use Rattle.punycode.proofs.decoding.read_points.Goals.{then-b-eq0, else-b-eq0}
use Rattle.punycode.proofs.decoding.read_points.Goals as goal

pub returns-then-b-out : goal.returns-then-b-out
returns-then-b-out c = basics-long _ _ c.before_last-b.ensures (omega (arith, c.requires))

pub copy_basics-requires : goal.copy_basics-requires
copy_basics-requires c = (omega (arith, c.before_last-b.ensures, before-inside c.args.s.now), c.if-b-out.false)

pub returns-then-not-copy_basics : goal.returns-then-not-copy_basics
returns-then-not-copy_basics c = basics-not _ _ c.before_last-b.ensures _ _ c.copy_basics.ensures c.if-not-copy_basics.true

pub read_numbers-requires : goal.read_numbers-requires
read_numbers-requires c =
    let e : c.if-b-eq0.at ≡ consumed c.before_last-b.result =
    elim c.if-b-eq0.branch [
      | then-b-eq0 w ↦ w.at-is ∙ consumed-none _ w.if-b-eq0.true
      | else-b-eq0 w ↦ w.at-is ∙ consumed-some _ w.if-b-eq0.false
    ] in
    basics-opened _ _ c.before_last-b.ensures _ _ c.copy_basics.ensures c.if-not-copy_basics.false _ e (omega (arith, c.requires)) (omega (arith, c.if-b-out.false, c.requires))

pub returns : goal.returns
returns c =
    let e : c.if-b-eq0.at ≡ consumed c.before_last-b.result =
    elim c.if-b-eq0.branch [
      | then-b-eq0 w ↦ w.at-is ∙ consumed-none _ w.if-b-eq0.true
      | else-b-eq0 w ↦ w.at-is ∙ consumed-some _ w.if-b-eq0.false
    ] in
    basics-then _ _ c.before_last-b.ensures _ _ c.copy_basics.ensures c.if-not-copy_basics.false _ e _ c.read_numbers.result c.read_numbers.ensures
