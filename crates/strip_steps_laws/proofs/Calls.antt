-- The two calls as a caller makes them, with room for a mark of each field that a block may have: what they answer and leave is what 01's stripping
-- gives.
use Prim.Native.Nat.{ℕ, zero, suc, ◌≤◌}
use native.Mathlib.Omega.{arith}
use mathlib.Core.Path.{◌≡◌, refl, sym, ap, ◌∙◌}
use mathlib.Core.List.{List}
use lib.ListN.{length, take, drop, length-append}
use lib.Seq.{take-append_seam}
use Rattle.block_rules.specs.Fields.{field_limit}
use Rattle.strip_rules.specs.declared.Stripped.{Stripped}
use Rattle.strip_rules.specs.Strip.{refuse, strip}
use Rattle.strip_rules.specs.Answers as copied
use Rattle.strip_steps_rules.specs.declared.Marked.{Marked}
use Rattle.strip_steps_rules.specs.Steps.{Marks, mark, copy}
use Rattle.strip_steps_rules.specs.Answers as marked
use Rattle.strip_steps_rules.specs.Pair.{given, pair}
use Rattle.strip_steps_laws.proofs.PairStrips.{pair-strips, mark-room}

module _ (block list first marks : List ℕ) (m : Marked) (e : m ≡ marked.answer_of (mark block list (length first))) (l : marks ≡ marked.leaves (mark block list (length first)) first)
    (room : field_limit ≤ length first) where
  abbrev answer : Marks
  answer = mark block list (length first)

  together : (n : ℕ) → strip block list n ≡ given (mark block list (length first)) (λ w. copy block list w n)
  unfolding pair
  together n = sym (pair-strips block list n (length first) (mark-room block list (length first) room))

  -- what the first call wrote stands in front
  pub steps-room : m.written ≤ length marks
  steps-room = rw (e, l) (omega (arith, length-append answer.written (drop (length answer.written) first)))

  wrote : take m.written marks ≡ answer.written
  wrote = rw (e, l) (take-append_seam answer.written (drop (length answer.written) first))

  -- the first call refuses
  pub steps-refused : (m.number ≡ 0 → ⊥) → (old : List ℕ) (r : Stripped) → r ≡ record { number = m.number; place = m.place; kept = 0; removed = 0; fields = 0 }
      → (r ≡ copied.answer_of (strip block list (length old))) × (old ≡ copied.leaves (strip block list (length old)) old)
  steps-refused ne old r q = go answer.number refl
    where
      number : m.number ≡ answer.number
      number = ap (λ (x : Marked). x.number) e

      place : m.place ≡ answer.place
      place = ap (λ (x : Marked). x.place) e

      go : (n : ℕ) → answer.number ≡ n → (r ≡ copied.answer_of (strip block list (length old))) × (old ≡ copied.leaves (strip block list (length old)) old)
      go zero z = absurd (ne (number ∙ z))
      go (suc n) z =
          let s : strip block list (length old) ≡ refuse m.number m.place = together (length old) ∙ rw (number, place, z) in
          (rw s q, rw s)

  -- it doesn't, and the second call answers
  pub steps-copied : m.number ≡ 0 → (old out : List ℕ) (r : Stripped)
      → (r ≡ copied.answer_of (copy block list (take m.written marks) (length old))) × (out ≡ copied.leaves (copy block list (take m.written marks) (length old)) old)
      → (r ≡ copied.answer_of (strip block list (length old))) × (out ≡ copied.leaves (strip block list (length old)) old)
  steps-copied z old out r q =
      let n : answer.number ≡ 0 = sym (ap (λ (x : Marked). x.number) e) ∙ z in
      let s : strip block list (length old) ≡ copy block list (take m.written marks) (length old) = together (length old) ∙ rw (n, wrote) in
      (rw s q.0, rw s q.1)
