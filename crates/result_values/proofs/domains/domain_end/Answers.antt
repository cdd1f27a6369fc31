use native.Mathlib.Omega.{arith}
use mathlib.Core.Path.{◌∙◌}
use lib.ListN.{length}
use Rattle.base_sequences.proofs.Booleans.{no_true}
use Rattle.result_values.proofs.DomainLabels.{labels-start, labels-on, labels-off, labels-out, closed-same}
use Rattle.result_values.proofs.domains.domain_end.Goals as goal

pub loop-i-init : goal.loop-i-init
loop-i-init c = record { labels = labels-start _ _; inside = λ e. absurd (no_true e) }

pub returns-then-not-goes_on : goal.returns-then-not-goes_on
returns-then-not-goes_on c = labels-off _ _ _ _ _ c.loop-i.invariant.labels c.loop-i-test.true _ c.goes_on.ensures c.if-not-goes_on.true _ c.closed_at.ensures

pub loop-i-preserved : goal.loop-i-preserved
loop-i-preserved c =
    record {
      labels = labels-on _ _ _ _ _ c.loop-i.invariant.labels c.loop-i-test.true _ c.goes_on.ensures c.if-not-goes_on.false _ c.is_parted-parted.ensures;
      inside = λ e. omega (arith, c.loop-i.auto.i, c.loop-i-test.true);
    }

pub returns : goal.returns
returns c =
    labels-out _ _ _ _ _ c.loop-i.invariant.labels c.loop-i-test.false _
    (c.closed_at-2.ensures
    ∙ closed-same c.loop-i.parted c.loop-i.last c.args.at (length c.args.s.now) c.loop-i.i (λ e. omega (arith, c.loop-i-test.false, c.loop-i.auto.i-end (omega (arith, c.loop-i.invariant.inside e)))))
