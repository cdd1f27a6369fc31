use Prim.Native.Nat.{◌+◌, ◌-◌, ◌≤◌}
use native.Mathlib.Omega.{arith}
use mathlib.Core.Path.{◌≡◌}
use lib.ListN.{length}
use Rattle.lexis_laws.proofs.Bytes.{alike-long}
use Rattle.text_compare.proofs.Comparing.{pieces_end, pieces-on, pieces-off}
use Rattle.text_compare.proofs.same_text.Goals.{else-loop-j-test, then-loop-j-test+else-differ+else-last-j-gt16}
use Rattle.text_compare.proofs.same_text.Goals as goal

pub returns-then-n-b : goal.returns-then-n-b
returns-then-n-b c = search alike-long

pub returns-then-differ : goal.returns-then-differ
returns-then-differ c = search pieces-off

pub loop-j-preserved : goal.loop-j-preserved
loop-j-preserved c = pieces-on _ _ _ 16 c.loop-j.invariant _ c.differ.ensures c.if-differ.false

pub returns : goal.returns
returns c =
    let a = c.args.a.now in
    let b = c.args.b.now in
    let z : length a - 16 + 16 ≡ length a = omega arith in
    let e : length a ≡ length b = omega arith in
    elim c.loop-j-test.branch [
      | else-loop-j-test w ↦
          (let h : length a - 16 ≤ c.loop-j.j = omega arith in
          pieces_end a b c.loop-j.j 16 c.loop-j.invariant e (length a - 16) z h c.differ-2.result c.differ-2.ensures)
      | then-loop-j-test+else-differ+else-last-j-gt16 w ↦
          (let h : length a - 16 ≤ c.loop-j.j + 16 = omega arith in
          pieces_end a b (c.loop-j.j + 16) 16 (pieces-on a b c.loop-j.j 16 c.loop-j.invariant w.differ.result w.differ.ensures w.if-differ.false)
          e (length a - 16) z h c.differ-2.result c.differ-2.ensures)
    ]
