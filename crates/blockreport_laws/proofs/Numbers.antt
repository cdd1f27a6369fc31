-- Which numbers the report of a block is answered with, and that each is given exactly when its rule says so: the order of refusals that all calls with a
-- block and our own list have, at the report's answers.
use Prim.Native.Nat.{ℕ, ◌≤◌, ◌<◌}
use mathlib.Core.Path.{◌≡◌, refl}
use mathlib.Core.List.{List, []}
use lib.ListN.{length, drop}
use lib.Seq.{drop-append_seam}
use Rattle.lexis_rules.specs.Limits.{byte_limit}
use Rattle.block_rules.specs.Fields.{fields}
use Rattle.ownlist_rules.specs.OwnList.{own_list}
use Rattle.ownlist_rules.specs.Listed.{own_of}
use Rattle.ownlist_laws.proofs.AnswersInOrder.{course, InOrderToSix, in-order-to-six}
use Rattle.blockreport_rules.specs.declared.Detail.{Detail}
use Rattle.blockreport_rules.specs.BlockReport.{additions, Answer, refuse, fitted, report_fields, block_report}
use Rattle.blockreport_rules.specs.Answers.{answer_of, leaves}
use Rattle.blockreport_rules.specs.Terms.{block_text, Known}

-- a refusal: nothing is written
abbrev pub refusing : ℕ → ℕ → Answer
refusing n p = record { number = n; place = p; written = [] }

-- done
abbrev pub telling : List ℕ → Answer
telling text = record { number = 0; place = 0; written = text }

module _ (detail : Detail) (block list : List ℕ) (room : ℕ) where
  -- 1, 5, then 2 to 4, then 6, as for stripping
  pub block-report-order : InOrderToSix (λ (a : Answer). a.number) (λ (a : Answer). a.place) refuse block list room (length (block_text detail block list))
      (telling (block_text detail block list)) (block_report detail block list room)
  unfolding block_report report_fields fitted
  block-report-order =
      in-order-to-six (λ (a : Answer). a.number) (λ (a : Answer). a.place) refuse (λ n p. refl) (λ n p. refl) block list room (length (block_text detail block list))
      (telling (block_text detail block list)) (block_report detail block list room) refl (course refuse block list (λ own fs. fitted (additions detail (own_of own) 1 fs) room))

  pub one-when : (block_report detail block list room).number ≡ 1 → byte_limit < length block
  one-when = block-report-order.first.one-when

  pub when-one : byte_limit < length block → block_report detail block list room ≡ refusing 1 0
  when-one = block-report-order.first.when-one

  pub five-when : (block_report detail block list room).number ≡ 5 → (length block ≤ byte_limit) × ((own_list list).number ≡ 5)
  five-when = block-report-order.first.five-when

  pub when-five : length block ≤ byte_limit → (own_list list).number ≡ 5 → block_report detail block list room ≡ refusing 5 (own_list list).place
  when-five = block-report-order.first.when-five

  pub walk-when : (n : ℕ) → 2 ≤ n → n ≤ 4 → (block_report detail block list room).number ≡ n
      → (length block ≤ byte_limit) × (((own_list list).number ≡ 0) × ((fields block).number ≡ n))
  walk-when = block-report-order.first.walk-when

  pub when-walk : (n : ℕ) → 2 ≤ n → n ≤ 4 → length block ≤ byte_limit → (own_list list).number ≡ 0 → (fields block).number ≡ n
      → block_report detail block list room ≡ refusing n (fields block).place
  when-walk = block-report-order.first.when-walk

  pub six-when : (block_report detail block list room).number ≡ 6 → Known block list × (room < length (block_text detail block list))
  six-when = block-report-order.six-when

  pub when-six : Known block list → room < length (block_text detail block list) → block_report detail block list room ≡ refusing 6 (length (block_text detail block list))
  when-six = block-report-order.when-six

  pub zero-when : (block_report detail block list room).number ≡ 0 → Known block list × (length (block_text detail block list) ≤ room)
  zero-when = block-report-order.zero-when

  pub when-zero : Known block list → length (block_text detail block list) ≤ room → block_report detail block list room ≡ telling (block_text detail block list)
  when-zero = block-report-order.when-zero

  -- 01, Answer numbers: a refusal, whatever its number, writes nothing
  pub refused-silent : ((block_report detail block list room).number ≡ 0 → ⊥) → block_report detail block list room ≡ refusing (block_report detail block list room).number (block_report detail block list room).place
  refused-silent = block-report-order.refused

  -- there is no other number than 0 to 6
  pub numbers : (block_report detail block list room).number ≤ 6
  numbers = block-report-order.numbers

-- 01, Answer numbers: on every answer, bytes past those written stay unchanged
pub past : (detail : Detail) (block list old : List ℕ)
    → drop (answer_of (block_report detail block list (length old))).written (leaves (block_report detail block list (length old)) old) ≡ drop (answer_of (block_report detail block list (length old))).written old
past detail block list old =
    let w = (block_report detail block list (length old)).written in
    drop-append_seam w (drop (length w) old)
