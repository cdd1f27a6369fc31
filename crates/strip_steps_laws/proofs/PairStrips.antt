-- Together the two calls give what document 01's stripping gives.
use Prim.Native.Nat.{ℕ, zero, suc, ◌≤◌}
use native.Mathlib.Omega.{arith}
use mathlib.Core.Path.{◌≡◌, refl, sym, ap, ◌∙◌}
use mathlib.Core.Bool.{Bool, true, false}
use mathlib.Core.List.{List}
use borrow.Author.Tests.{ltb-true, ltb-false}
use lib.Dec.{ltb}
use lib.ListN.{length}
use Rattle.block_rules.specs.Fields.{field_limit, fields}
use Rattle.block_laws.proofs.Fields.{fields-fine}
use Rattle.ownlist_rules.specs.OwnList.{own_list}
use Rattle.ownlist_rules.specs.Calls.{or_short}
use Rattle.ownlist_laws.proofs.AnswersInOrder.{long, bad, cut, through}
use Rattle.ownlist_laws.proofs.CallCases.{or-short-short, or-short-fits}
use Rattle.strip_rules.specs.Strip.{strip}
use Rattle.strip_laws.proofs.Laws.{strip-order}
use Rattle.strip_steps_rules.specs.Steps.{Marks, refuse_marks, done_marks, mark, copy}
use Rattle.strip_steps_rules.specs.Pair.{pair}
use Rattle.strip_steps_rules.specs.Terms.{marks_for}
use Rattle.strip_steps_laws.proofs.Marks.{marks-for-long}
use Rattle.strip_steps_laws.proofs.Numbers.{mark-course, mark-order, or-other-same, copy-course}

module _ (block list : List ℕ) (room : ℕ) where
  -- given the first call's answer, the second strips
  pub copy-strips : copy block list (marks_for block list) room ≡ strip block list room
  copy-strips =
      let o = (strip-order block list room).first in
      elim (copy-course block list (marks_for block list) room) [
        | long l q ↦ q ∙ sym (o.when-one l)
        | bad l g q ↦ q ∙ sym (o.when-five l g)
        | cut l g n f i j q ↦ q ∙ sym (o.when-walk n i j l g f)
        | through k q ↦ q ∙ (or-other-same (marks_for block list) (marks_for block list) _ refl ∙ sym (o.when-through k))
      ]

  -- where the first call has room for its bytes, the pair gives what 01's stripping gave
  pub pair-strips : (marks_room : ℕ) → ((mark block list marks_room).number ≡ 6 → ⊥) → pair block list marks_room room ≡ strip block list room
  unfolding pair
  pair-strips marks_room ne =
      let o = (strip-order block list room).first in
      elim (mark-course block list marks_room) [
        | long l q ↦ rw (pair, q) (sym (o.when-one l))
        | bad l g q ↦ rw (pair, q) (sym (o.when-five l g))
        | cut l g n f i j q ↦ walked n f i j l g q
        | through k q ↦ fits (ltb marks_room (length (marks_for block list))) refl q
      ]
    where
      walked : (n : ℕ) → (fields block).number ≡ n → 2 ≤ n → n ≤ 4 → length block ≤ 65536 → (own_list list).number ≡ 0
          → mark block list marks_room ≡ refuse_marks n (fields block).place → pair block list marks_room room ≡ strip block list room
      walked zero f i j l g q = absurd (omega arith)
      walked (suc n) f i j l g q = rw (pair, q) (sym ((strip-order block list room).first.when-walk (suc n) i j l g f))

      fits : (t : Bool) → ltb marks_room (length (marks_for block list)) ≡ t
          → mark block list marks_room ≡ or_short refuse_marks marks_room (length (marks_for block list)) (done_marks (marks_for block list))
          → pair block list marks_room room ≡ strip block list room
      fits true l q =
          absurd (ne (ap (λ (m : Marks). m.number) (q ∙ or-short-short refuse_marks marks_room (length (marks_for block list)) (done_marks (marks_for block list)) (ltb-true marks_room (length (marks_for block list)) l))))
      fits false l q =
          let m = q ∙ or-short-fits refuse_marks marks_room (length (marks_for block list)) (done_marks (marks_for block list)) (ltb-false marks_room (length (marks_for block list)) l) in
          rw (pair, m) copy-strips

-- as many bytes as a block may have fields are room enough for the first call
pub mark-room : (block list : List ℕ) (room : ℕ) → field_limit ≤ room → (mark block list room).number ≡ 6 → ⊥
mark-room block list room h six =
    let w = (mark-order block list room).six-when six in
    omega (arith, (fields-fine block w.0.1.1).few, marks-for-long block list, w.1)
