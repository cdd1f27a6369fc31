-- One turn and the end, by the definition's one step.
use Rattle.std.proofs.Common.{rules, arith, not, nat_eq, get_or, refl}
use Rattle.sample_sums.proofs.Sums.{changed-more, changed-end, one-most}
use Rattle.sample_sums.proofs.changed.Goals as goal

pub loop-b-preserved : goal.loop-b-preserved
loop-b-preserved c = record {
  few = omega (arith, c.loop-b.invariant.few, c.from-count.ensures, one-most (not (nat_eq (get_or c.args.s.now c.loop-b.b-index 0) 170)));
  all = changed-more _ _ _ c.loop-b.invariant.all c.loop-b-test.true _ _ refl c.from-count.ensures;
}

pub returns : goal.returns
returns c = search (rules, changed-end)
