-- The answers of the report of a block, one law for each way out of the code.
use Prim.Native.Nat.{ℕ, ◌≤◌}
use native.Mathlib.Omega.{arith}
use mathlib.Core.Path.{◌≡◌, sym, ap, ◌∙◌}
use mathlib.Core.Bool.{true, false}
use mathlib.Core.List.{List}
use borrow.Author.Tests.{lt-ltb, le-ltb}
use lib.Dec.{ltb}
use lib.ListN.{length, take}
use lib.Seq.{sets, length-sets}
use Rattle.base_sequences.specs.Stored.{Put}
use Rattle.base_sequences.proofs.Splices.{sets-front, put_front}
use Rattle.base_readers.specs.Parsers.{Got}
use Rattle.block_rules.specs.Fields.{fields}
use Rattle.block_laws.proofs.Fields.{fields-place}
use Rattle.ownlist_rules.specs.declared.Own.{Own}
use Rattle.ownlist_rules.specs.OwnList.{own_list}
use Rattle.ownlist_rules.specs.Listed.{own_of}
use Rattle.ownlist_rules.specs.Calls.{or_refusal, by_fields, or_short}
use Rattle.base_readers.specs.Lines.{lines_of}
use Rattle.ownlist_rules.specs.Spelled.{spelled_list, own_of_spelled}
use Rattle.ownlist_spelled.proofs.Fits.{fits-room}
use Rattle.ownlist_laws.proofs.AsCompared.{list-own}
use Rattle.ownlist_laws.proofs.CallCases.{by-fields-refused}
use Rattle.ownlist_ready.specs.declared.Ready.TheVariants.{Refused, AsItStands, ToSpell}
use Rattle.ownlist_ready.specs.Answers.{ready_of}
use Rattle.ownlist_ready.proofs.CallsGoOn.{ready_refused, ready-as-it-stands, ready-to-spell, as-it-stands-spelled}
use Rattle.blockreport_rules.specs.declared.Detail.{Detail}
use Rattle.blockreport_rules.specs.declared.BlockReported.{BlockReported}
use Rattle.blockreport_rules.specs.BlockReport.{additions, Answer, refuse, fitted, report_fields, block_report}
use Rattle.blockreport_rules.specs.Answers.{answer_of, leaves}
use Rattle.blockreport_laws.proofs.Whose.{same-reported}
use Rattle.text_first_pass.specs.declared.Copy.{Copy}
use Rattle.text_first_pass.specs.declared.Copy.TheVariants.{Short, Again, Done}
use Rattle.text_first_pass.specs.Copies.{copy_of, copy_leaves}
use Rattle.text_first_pass.proofs.Copying.{when-short, when-again, when-done}
use Rattle.blockreport.specs.Internal.{text_before, FieldsPut}

-- an answer, and what it leaves
abbrev pub Answered : Answer → List ℕ → List ℕ → BlockReported → Type 0
Answered a old new r = (r ≡ answer_of a) × (new ≡ leaves a old)

refused : (a : Answer) (old : List ℕ) (r : BlockReported) (n p : ℕ) → r ≡ record { number = n; place = p; written = 0 } → a ≡ refuse n p → Answered a old old r
refused a old r n p e q = (rw q e, rw q)

-- where the same answer is meant
meant : (a b : Answer) (old new : List ℕ) (r : BlockReported) → a ≡ b → Answered a old new r → Answered b old new r
meant a b old new r e h = (h.0 ∙ ap answer_of e, h.1 ∙ ap (λ (x : Answer). leaves x old) e)

-- ==== behind the list: m is what the first pass answers, which runs on a buffer of its own

-- a text that was written to a buffer with room for all of it, copied to another one
copied : (detail : Detail) (s : List ℕ) (whose : Got (List ℕ) → Own) (old first new : List ℕ) (m : BlockReported) → FieldsPut detail s whose first new m → m.written ≤ length first
    → (out : List ℕ) → out ≡ sets old 0 (take m.written new) → FieldsPut detail s whose old out m
copied detail s whose old first new m k h out p =
    let text = text_before detail s whose in
    let f : length text ≤ length first = omega (arith, h, k.written) in
    let t : take m.written new ≡ text = put_front {old = first} {text = text} (record { count = k.written; bytes = k.bytes f }) h in
    record {
      number = k.number;
      place = k.place;
      written = k.written;
      long = ap length p ∙ length-sets old 0 (take m.written new);
      bytes = λ l. p ∙ ap (sets old 0) t;
    }

module _ (detail : Detail) (s : List ℕ) (whose : Got (List ℕ) → Own) (old : List ℕ) (r m : BlockReported) (first new : List ℕ) (k : FieldsPut detail s whose first new m) where
  pub answer-2-4 : (m.number ≡ 0 → ⊥) → r ≡ record { number = m.number; place = m.place; written = 0 } → Answered (report_fields detail s whose (length old)) old old r
  unfolding report_fields
  answer-2-4 ne e =
      refused (report_fields detail s whose (length old)) old r m.number m.place e
      (by-fields-refused refuse s (λ fs. fitted (additions detail whose 1 fs) (length old)) m.number m.place k.number k.place ne)

  module _ (z : m.number ≡ 0) where
    sound : (fields s).number ≡ 0
    sound = sym k.number ∙ z

    -- it is written over the front
    told : m.written ≤ length old → (r : BlockReported) (out : List ℕ) → FieldsPut detail s whose old out r → Answered (report_fields detail s whose (length old)) old out r
    unfolding report_fields fitted
    told l r out d =
        let fits : length (text_before detail s whose) ≤ length old = rw k.written at l in
        let t : ltb (length old) (length (text_before detail s whose)) ≡ false = le-ltb _ _ fits in
        let is : report_fields detail s whose (length old) ≡ record { number = 0; place = 0; written = text_before detail s whose } = rw (report_fields, by_fields, or_refusal, sound, fitted, or_short, t) in
        (rw is (same r _ _ _ (d.number ∙ sound) (d.place ∙ fields-place s sound) d.written), rw is (d.bytes fits ∙ sets-front old (text_before detail s whose) fits))
      where
        same : (r : BlockReported) (n p w : ℕ) → r.number ≡ n → r.place ≡ p → r.written ≡ w → r ≡ record { number = n; place = p; written = w }
        same r n p w e₀ e₁ e₂ = rw (← e₀, ← e₁, ← e₂)

    -- c is what became of what the first pass wrote, and `lent` what the lent buffer holds then
    module _ (lent : List ℕ) (c : Copy) (i : c ≡ copy_of (length new) m.written (length old)) (v : lent ≡ copy_leaves c new m.written old) where
      pub answer-6 : c ≡ Short → r ≡ record { number = 6; place = m.written; written = 0 } → Answered (report_fields detail s whose (length old)) old lent r
      unfolding report_fields fitted
      answer-6 q e =
          let w = when-short new m.written old lent c i v q in
          let t : ltb (length old) (length (text_before detail s whose)) ≡ true = lt-ltb _ _ (rw k.written at w.more) in
          rw w.same (refused (report_fields detail s whose (length old)) old r 6 m.written e (rw (report_fields, by_fields, or_refusal, sound, fitted, or_short, t, k.written)))

      -- it was copied from the first pass's buffer
      pub answer-copied : c ≡ Done → Answered (report_fields detail s whose (length old)) old lent m
      answer-copied q =
          let w = when-done new m.written old lent c i v q in
          told w.fits m lent (copied detail s whose old first new m k (omega (arith, w.whole, k.long)) lent w.text)

      -- it is written by a second pass
      pub answer-written : c ≡ Again → (out : List ℕ) → FieldsPut detail s whose lent out r → Answered (report_fields detail s whose (length old)) old out r
      answer-written q out d = let w = when-again new m.written old lent c i v q in told w.fits r out (rw w.same at d)

-- by the list as it was spelled into a buffer that holds the longest
module _ (list first own : List ℕ) (n : ℕ) (w : Put first 0 (spelled_list (own_list list).items) own n) (k : 65344 ≡ length first) where
  pub answer-spelled : (detail : Detail) (s old new : List ℕ) (r : BlockReported) → Answered (report_fields detail s (own_of_spelled (lines_of (take n own))) (length old)) old new r
      → Answered (report_fields detail s (own_of (own_list list).items) (length old)) old new r
  answer-spelled detail s old new r a =
      let f : take n own ≡ spelled_list (own_list list).items = put_front w (fits-room list first own n w k) in
      let e : report_fields detail s (own_of_spelled (lines_of (take n own))) (length old) ≡ report_fields detail s (own_of (own_list list).items) (length old) =
      rw f (same-reported detail (own_of_spelled (lines_of (spelled_list (own_list list).items))) (own_of (own_list list).items) (list-own list) s (length old)) in
      meant _ _ old new r e a

-- ==== the whole

module _ (detail : Detail) (s list old : List ℕ) (r : BlockReported) where
  abbrev by : List (List ℕ) → Answer
  by own = report_fields detail s (own_of own) (length old)

  -- refused before the block is walked
  pub answer-1-5 : (n p : ℕ) → Refused n p ≡ ready_of s list → r ≡ record { number = n; place = p; written = 0 } → Answered (block_report detail s list (length old)) old old r
  unfolding block_report
  answer-1-5 n p q e = refused (block_report detail s list (length old)) old r n p e (ready_refused s list refuse by n p q)

  pub answer-listed : (new : List ℕ) → ToSpell ≡ ready_of s list → Answered (report_fields detail s (own_of (own_list list).items) (length old)) old new r
      → Answered (block_report detail s list (length old)) old new r
  unfolding block_report
  answer-listed new q = meant _ _ old new r (sym (ready-to-spell s list refuse by q))

  -- a list without two hyphens in a row is compared as it stands
  pub answer-plain : (new : List ℕ) → AsItStands ≡ ready_of s list → Answered (report_fields detail s (own_of_spelled (lines_of list)) (length old)) old new r
      → Answered (block_report detail s list (length old)) old new r
  unfolding block_report
  answer-plain new q =
      let e = as-it-stands-spelled s list q in
      meant _ _ old new r
      (same-reported detail (own_of_spelled (lines_of list)) (own_of (own_list list).items) (λ g. rw e at (list-own list g)) s (length old)
      ∙ sym (ready-as-it-stands s list refuse by q))
