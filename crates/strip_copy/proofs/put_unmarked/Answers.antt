use Rattle.std.proofs.Common.{refl}
use native.Mathlib.Omega.{arith}
use Rattle.strip_copy.proofs.Unmarked.{cut-kept, cut-gone, cut-done}
use Rattle.strip_copy.proofs.put_unmarked.Goals as goal
use Rattle.strip_copy.proofs.put_unmarked.Goals.{then-not-is_at, else-not-is_at}

pub loop-k-preserved : goal.loop-k-preserved
loop-k-preserved c =
    elim c.if-not-is_at.branch [
      | then-not-is_at w ↦
          rw (w.out-is, w.from-is, w.at-is, w.to-is)
          (cut-gone _ _ _ _ _ _ _ _ _ _ c.loop-k.invariant (omega arith) _ c.is_at.ensures w.if-not-is_at.true (omega arith) _ _ _ w.part.ensures w.put_part-to.ensures _ refl)
      | else-not-is_at w ↦
          rw (w.out-is, w.from-is, w.at-is, w.to-is)
          (cut-kept _ _ _ _ _ _ _ _ _ _ c.loop-k.invariant (omega arith) _ c.is_at.ensures w.if-not-is_at.false _ refl)
    ]

pub returns : goal.returns
returns c = cut-done _ _ _ _ _ _ _ _ _ _ c.loop-k.invariant (omega arith) (omega arith) _ _ _ c.part-2.ensures c.put_part.ensures
