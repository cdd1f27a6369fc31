-- `base_readers::byte` meets its contract: an element of a rest of the list is one of the list, and past the end stands 0.
use Prim.Native.Nat.{ℕ, ◌-◌, ◌≤◌}
use native.Mathlib.Omega.{arith}
use mathlib.Core.Path.{◌≡◌, sym}
use mathlib.Core.List.{List}
use lib.ListN.{length, get_or, drop, length-drop, get_or-eq_default}
use lib.Seq.{get_or-drop}
use Rattle.base_readers.proofs.byte.Goals as goal

past : (s : List ℕ) (at k : ℕ) → length s - at ≤ k → 0 ≡ get_or (drop at s) k 0
past s at k h = sym (get_or-eq_default (drop at s) 0 (rw length-drop h))

pub returns-then-k-s : goal.returns-then-k-s
returns-then-k-s c = rw get_or-drop

pub returns-else-k-s : goal.returns-else-k-s
returns-else-k-s c = past c.args.s.now c.args.at c.args.k (omega arith)

pub returns-else-at-s : goal.returns-else-at-s
returns-else-at-s c = past c.args.s.now c.args.at c.args.k (omega arith)
