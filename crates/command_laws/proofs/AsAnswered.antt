-- Each subcommand ends as its call answers: where that answers 0 it is done, and the whole output stands at the front of the lent buffer; else it is refused with the
-- call's number and place, nothing is counted, and the buffer is as it was. Where the output is words, the room of the command's buffer is enough for them.
use Prim.Native.Nat.{ℕ, zero, suc, ◌≤◌}
use native.Mathlib.Omega.{arith}
use mathlib.Core.Path.{◌≡◌, refl, sym, ap, ◌∙◌}
use mathlib.Core.Bool.{Bool, true, false, cond}
use mathlib.Core.List.{List, [], map}
use lib.Dec.{eqb}
use lib.ListN.{length, drop, length-append, length-drop}
use lib.Seq.{take_all}
use Rattle.block_rules.specs.Fields.{bytes_of, fields}
use Rattle.block_laws.proofs.Fields.{fields-fine, select-sum}
use Rattle.ownlist_rules.specs.OwnList.{own_list}
use Rattle.ownlist_rules.specs.Listed.{among}
use Rattle.strip_rules.specs.Strip as stripping
use Rattle.strip_rules.specs.Terms.{kept_fields}
use Rattle.strip_laws.proofs.Numbers as strip-laws
use Rattle.blockreport_rules.specs.declared.Detail.TheVariants.{Reported, Identified}
use Rattle.blockreport_rules.specs.BlockReport as reporting
use Rattle.blockreport_rules.specs.Terms.{block_text, Known}
use Rattle.blockreport_laws.proofs.Numbers as report-laws
use Rattle.blockreport_laws.proofs.Rooms as report-rooms
use Rattle.write_rules.specs.Compose as composing
use Rattle.write_rules.specs.Promise.{body_for}
use Rattle.write_laws.proofs.WriteTheorems as write-laws
use Rattle.arc_rules.specs.Chain.{judge}
use Rattle.arc_rules.specs.Answers as judged
use Rattle.explain_rules.specs.Explained.{explained}
use Rattle.judgement_rules.specs.Judgement.{verdict_of, judgement}
use Rattle.command_rules.specs.declared.Ending.{Ending}
use Rattle.command_rules.specs.declared.Ending.TheVariants.{Done, Usage, ListClosed, ListUnread, InputUnread, InputTooLong, OutputTooLong, Unwritten, VerdictsRefused, Refused, LinesRefused}
use Rattle.command_list_rules.specs.Notices.{check_text}
use Rattle.command_list_rules.proofs.Fits.{check-fits}
use Rattle.command_sets.specs.Sets.{sets_of}
use Rattle.command_output_rules.specs.Outputs.{Output, front, answered, said, worded, stripped_block, reported_block, explained_block, verdicts_refusal, checked_list, judged_block, written_body}
use Rattle.command_output_rules.proofs.EndingCases.{made-refused, made-done, said_fits, worded-refused, worded-said}
use Rattle.command_laws.proofs.JudgementRooms.{judgement-fits}
use Rattle.command_laws.proofs.ExplainRooms.{explained-fits}

-- ==== what is shown of each

-- done, with this text at the front and the rest as it was
abbrev pub gives : List ℕ → List ℕ → Output
gives text old = record { made = record { ending = Done; written = length text }; left = front text old }

-- refused, with nothing counted and all as it was
abbrev pub refuses : Ending → List ℕ → Output
refuses refusal old = record { made = record { ending = refusal; written = 0 }; left = old }

-- by the number that the call answered, what it is refused with, and the whole output
pub record AsAnswered (number : ℕ) (refusal : Ending) (text old : List ℕ) (o : Output) : Type 0 where
  pub done : number ≡ 0 → o ≡ gives text old
  pub refused : (number ≡ 0 → ⊥) → o ≡ refuses refusal old
  pub only : o.made.ending ≡ Done → number ≡ 0

-- an ending that is another than done
abbrev pub done_code : Ending → ℕ
done_code Done = 1
done_code Usage = 0
done_code ListClosed = 0
done_code ListUnread = 0
done_code InputUnread = 0
done_code InputTooLong = 0
done_code OutputTooLong = 0
done_code Unwritten = 0
done_code (VerdictsRefused sets) = 0
done_code (Refused number place) = 0
done_code (LinesRefused number place) = 0

only-done : (number : ℕ) (refusal : Ending) (old : List ℕ) (o : Output) → done_code refusal ≡ 0 → ((number ≡ 0 → ⊥) → o ≡ refuses refusal old) → o.made.ending ≡ Done
    → number ≡ 0
only-done zero refusal old o z r e = refl
only-done (suc n) refusal old o z r e =
    let q : refusal ≡ Done = sym (ap (λ (x : Output). x.made.ending) (r (λ k. omega (arith, k)))) ∙ e in
    absurd (omega (arith, z, ap done_code q))

-- ==== calls that write what fits

answered-so : (number : ℕ) (refusal : Ending) (text whole old : List ℕ) → done_code refusal ≡ 0 → (number ≡ 0 → text ≡ whole) → ((number ≡ 0 → ⊥) → text ≡ [])
    → AsAnswered number refusal whole old (answered number refusal text old)
answered-so number refusal text whole old z d r =
    record {
      done = λ e. rw (← made-done number refusal (length text) e, d e);
      refused = fails;
      only = only-done number refusal old (answered number refusal text old) z fails;
    }
  where
    fails : (number ≡ 0 → ⊥) → answered number refusal text old ≡ refuses refusal old
    fails h = rw (← made-refused number refusal (length text) h, r h)

-- ==== words

said-whole : (text old : List ℕ) → length text ≤ length old → said text old ≡ gives text old
said-whole text old h =
    let l : length (front text old) ≤ length old = omega (arith, length-append text (drop (length text) old), length-drop (length text) old, h) in
    rw (← said_fits (length text) (length old) h, take_all (length old) (front text old) l)

worded-so : (number : ℕ) (refusal : Ending) (text old : List ℕ) → done_code refusal ≡ 0 → (number ≡ 0 → length text ≤ length old)
    → AsAnswered number refusal text old (worded number refusal text old)
worded-so number refusal text old z h =
    record {
      done = λ e. worded-said number refusal text old e ∙ said-whole text old (h e);
      refused = worded-refused number refusal text old;
      only = only-done number refusal old (worded number refusal text old) z (worded-refused number refusal text old);
    }

-- ==== strip

module _ (block list : List ℕ) where
  -- a room of 65,536 bytes is enough for what is kept
  pub strip-room : (room : ℕ) → 65536 ≤ room → (stripping.strip block list room).number ≡ 6 → ⊥
  strip-room room h e =
      let k = strip-laws.six-when block list room e in
      let s = ap length (fields-fine block k.0.1.1).bytes in
      omega (arith, k.1, k.0.0, select-sum (stripping.is_removed (among (own_list list).items)) (fields block).items, s, h)

  pub strip-answered : (old : List ℕ) → let a = stripping.strip block list (length old) in
      AsAnswered a.number (Refused a.number a.place) (bytes_of (kept_fields block list)) old (stripped_block block list old)
  unfolding stripped_block
  strip-answered old =
      let a = stripping.strip block list (length old) in
      answered-so a.number (Refused a.number a.place) a.written (bytes_of (kept_fields block list)) old refl
      (λ e. let w = strip-laws.zero-when block list (length old) e in rw (strip-laws.when-zero block list (length old) w.0 w.1))
      (λ h. ap (λ (x : stripping.Answer). x.written) (strip-laws.refused-silent block list (length old) h))

  -- ==== report

  -- a room of 229,376 bytes is enough for both details
  pub report-room : (room : ℕ) → 229376 ≤ room → (reporting.block_report Reported block list room).number ≡ 6 → ⊥
  report-room room h = report-rooms.room-enough Reported block list room (omega (arith, h))

  pub report-answered : (old : List ℕ) → let a = reporting.block_report Reported block list (length old) in
      AsAnswered a.number (Refused a.number a.place) (block_text Reported block list) old (reported_block block list old)
  unfolding reported_block
  report-answered old =
      let a = reporting.block_report Reported block list (length old) in
      answered-so a.number (Refused a.number a.place) a.written (block_text Reported block list) old refl
      (λ e. let w = report-laws.zero-when Reported block list (length old) e in rw (report-laws.when-zero Reported block list (length old) w.0 w.1))
      (λ h. ap (λ (x : reporting.Answer). x.written) (report-laws.refused-silent Reported block list (length old) h))

  pub lines-room : (reporting.block_report Identified block list 229377).number ≡ 6 → ⊥
  lines-room = report-rooms.room-enough Identified block list 229377 (omega arith)

-- ==== check

pub check-answered : (list old : List ℕ) → 201024 ≤ length old
    → AsAnswered (own_list list).number (Refused (own_list list).number (own_list list).place) (check_text list) old (checked_list list old)
unfolding checked_list
check-answered list old h =
    worded-so (own_list list).number (Refused (own_list list).number (own_list list).place) (check_text list) old refl (λ e. omega (arith, check-fits list e, h))

-- ==== judge

pub verdicts-not-done : (number place sets : ℕ) → done_code (verdicts_refusal number place sets) ≡ 0
verdicts-not-done number place sets = go (eqb number 10)
  where
    go : (t : Bool) → done_code (cond t (VerdictsRefused sets) (Refused number place)) ≡ 0
    go true = refl
    go false = refl

pub judge-answered : (block digits old : List ℕ) → 512 ≤ length old → let a = judge block (map verdict_of digits) in
    AsAnswered a.number (verdicts_refusal a.number a.place (sets_of block)) (judgement (judged.answer_of a)) old (judged_block block digits old)
unfolding judged_block
judge-answered block digits old h =
    let a = judge block (map verdict_of digits) in
    worded-so a.number (verdicts_refusal a.number a.place (sets_of block)) (judgement (judged.answer_of a)) old (verdicts-not-done a.number a.place (sets_of block))
    (λ e. omega (arith, judgement-fits block (map verdict_of digits), h))

-- ==== write

-- a room of 65,536 bytes is enough for a body
pub write-room : (lines : List ℕ) (room : ℕ) → 65536 ≤ room → (composing.compose lines room).number ≡ 6 → ⊥
write-room lines room h e = let t = write-laws.refused-short lines room e in omega (arith, t.1, t.2, h)

pub write-answered : (lines old : List ℕ) → let a = composing.compose lines (length old) in
    AsAnswered a.number (LinesRefused a.number a.place) (body_for lines) old (written_body lines old)
unfolding written_body
write-answered lines old =
    let a = composing.compose lines (length old) in
    answered-so a.number (LinesRefused a.number a.place) a.written (body_for lines) old refl
    (λ e. ap (λ (x : composing.Answer). x.written) (write-laws.fits-written lines (length old) (write-laws.written-fits lines (length old) e)))
    (write-laws.refused-unwritten lines (length old))

-- ==== explain

pub explain-answered : (block list old : List ℕ) → 786432 ≤ length old → let a = reporting.block_report Identified block list 229377 in
    AsAnswered a.number (Refused a.number a.place) (explained (block_text Identified block list)) old (explained_block block list old)
unfolding explained_block
explain-answered block list old h =
    record {
      done = λ e. let k = known e in ap words k.1 ∙ (worded-so 0 (Refused 0 0) (explained (block_text Identified block list)) old refl (λ z. omega (arith, explained-fits block list k.0, h))).done refl;
      refused = fails;
      only = only-done a.number (Refused a.number a.place) old (words a) refl fails;
    }
  where
    a : reporting.Answer
    a = reporting.block_report Identified block list 229377

    words : reporting.Answer → Output
    words x = worded x.number (Refused x.number x.place) (explained x.written) old

    known : a.number ≡ 0 → Known block list × (a ≡ record { number = 0; place = 0; written = block_text Identified block list })
    known e =
        let w = report-laws.zero-when Identified block list 229377 e in (w.0, report-laws.when-zero Identified block list 229377 w.0 w.1)

    fails : (a.number ≡ 0 → ⊥) → words a ≡ refuses (Refused a.number a.place) old
    fails = worded-refused a.number (Refused a.number a.place) (explained a.written) old
