-- What the last line of each subcommand tells, with the rooms that the command's buffers have.
use Prim.Native.Nat.{ℕ, zero, suc, ◌≤◌}
use native.Mathlib.Omega.{arith}
use mathlib.Core.Path.{◌≡◌, refl, sym, ap, ◌∙◌}
use mathlib.Core.Bool.{Bool, true, false, cond}
use mathlib.Core.List.{List, map}
use lib.Dec.{eqb}
use lib.ListN.{length}
use borrow.Author.Tests.{eqb-true}
use Rattle.block_rules.specs.Fields.{bytes_of}
use Rattle.ownlist_rules.specs.OwnList.{own_list}
use Rattle.strip_rules.specs.Strip as stripping
use Rattle.strip_rules.specs.Terms.{kept_fields}
use Rattle.blockreport_rules.specs.declared.Detail.TheVariants.{Reported, Identified}
use Rattle.blockreport_rules.specs.BlockReport as reporting
use Rattle.blockreport_rules.specs.Terms.{block_text}
use Rattle.write_rules.specs.Compose as composing
use Rattle.write_rules.specs.Promise.{body_for}
use Rattle.arc_rules.specs.Chain.{judge}
use Rattle.arc_rules.specs.Answers as judged
use Rattle.explain_rules.specs.Explained.{explained}
use Rattle.judgement_rules.specs.Judgement.{verdict_of, judgement}
use Rattle.command_rules.specs.declared.Ending.{Ending}
use Rattle.command_rules.specs.declared.Ending.TheVariants.{Done, Usage, ListClosed, ListUnread, InputUnread, InputTooLong, OutputTooLong, Unwritten, VerdictsRefused, Refused, LinesRefused}
use Rattle.command_rules.specs.Messages.{ending_line}
use Rattle.command_list_rules.specs.Notices.{check_text}
use Rattle.command_sets.specs.Sets.{sets_of}
use Rattle.command_output_rules.specs.Outputs.{Output, verdicts_refusal, stripped_block, reported_block, lines_room, explained_block, checked_list, judged_block, written_body, ending_after}
use Rattle.command_laws.specs.LastLine.{line_number, line_place, number_of, last_line, Tells}
use Rattle.command_laws.proofs.AsAnswered.{AsAnswered, done_code, verdicts-not-done, strip-answered, report-answered, explain-answered, check-answered, judge-answered, write-answered}
use Rattle.command_laws.proofs.LastLines.{line-number, refusal-place, lines-refusal-place, verdicts-sets}

-- a refusal is told as it is, whether a write went or not
after-refusal : (e : Ending) (size : ℕ) (went : Bool) → done_code e ≡ 0 → ending_after (record { ending = e; written = size }) went ≡ e
unfolding ending_after
after-refusal Done size went z = absurd (omega (arith, z))
after-refusal Usage size went z = refl
after-refusal ListClosed size went z = refl
after-refusal ListUnread size went z = refl
after-refusal InputUnread size went z = refl
after-refusal InputTooLong size went z = refl
after-refusal OutputTooLong size went z = refl
after-refusal Unwritten size went z = refl
after-refusal (VerdictsRefused sets) size went z = refl
after-refusal (Refused number place) size went z = refl
after-refusal (LinesRefused number place) size went z = refl

module _ (number place : ℕ) (refusal : Ending) (text old list : List ℕ) (o : Output) (z : done_code refusal ≡ 0) (n : number_of refusal ≡ number)
    (p : line_place (ending_line refusal list) ≡ place) (w : AsAnswered number refusal text old o) where
  refused-line : (number ≡ 0 → ⊥) → (went : Bool) → last_line o went list ≡ ending_line refusal list
  refused-line h went =
      ap (λ (x : Output). last_line x went list) (w.refused h) ∙ ap (λ (e : Ending). ending_line e list) (after-refusal refusal 0 went z)

  done-ending : (went : Bool) → number ≡ 0 → ending_after o.made went ≡ cond went Done Unwritten
  unfolding ending_after
  done-ending went e = ap (λ (x : Output). ending_after x.made went) (w.done e)

  line-zero : (went : Bool) → line_number (last_line o went list) ≡ 0 → (k : ℕ) → number ≡ k → (number ≡ 0) × (went ≡ true)
  line-zero went q (suc k) e =
      let h : number ≡ 0 → ⊥ = λ y. omega (arith, y, e) in
      absurd (h (sym n ∙ (sym (line-number refusal list) ∙ (ap line_number (sym (refused-line h went)) ∙ q))))
  line-zero true q zero e = (e, refl)
  line-zero false q zero e =
      let d : number_of (ending_after o.made false) ≡ 0 = sym (line-number (ending_after o.made false) list) ∙ q in
      absurd (omega (arith, sym (ap number_of (done-ending false e)) ∙ d))

  tells-so : Tells number place text old list o
  unfolding ending_line
  tells-so =
      record {
        output = λ e. (ap (λ (x : Output). x.made.written) (w.done e), ap (λ (x : Output). x.left) (w.done e));
        done = λ e. ap (λ (x : Ending). ending_line x list) (done-ending true e);
        unwritten = λ e. ap (λ (x : Ending). ending_line x list) (done-ending false e);
        silent = λ h. (ap (λ (x : Output). x.made.written) (w.refused h), ap (λ (x : Output). x.left) (w.refused h));
        refused = λ h went.
            (ap line_number (refused-line h went) ∙ (line-number refusal list ∙ n), ap line_place (refused-line h went) ∙ p);
        zero = λ went q. line-zero went q number refl;
      }

-- ==== each subcommand

pub strip-tells : (block list old : List ℕ) → let a = stripping.strip block list (length old) in
    Tells a.number a.place (bytes_of (kept_fields block list)) old list (stripped_block block list old)
strip-tells block list old =
    let a = stripping.strip block list (length old) in
    tells-so a.number a.place (Refused a.number a.place) (bytes_of (kept_fields block list)) old list (stripped_block block list old) refl refl
    (refusal-place a.number a.place list) (strip-answered block list old)

pub report-tells : (block list old : List ℕ) → let a = reporting.block_report Reported block list (length old) in
    Tells a.number a.place (block_text Reported block list) old list (reported_block block list old)
report-tells block list old =
    let a = reporting.block_report Reported block list (length old) in
    tells-so a.number a.place (Refused a.number a.place) (block_text Reported block list) old list (reported_block block list old) refl refl
    (refusal-place a.number a.place list) (report-answered block list old)

-- the call is handed the lines' own room
pub explain-tells : (block list old : List ℕ) → 786432 ≤ length old → let a = reporting.block_report Identified block list lines_room in
    Tells a.number a.place (explained (block_text Identified block list)) old list (explained_block block list old)
explain-tells block list old h =
    let a = reporting.block_report Identified block list lines_room in
    tells-so a.number a.place (Refused a.number a.place) (explained (block_text Identified block list)) old list (explained_block block list old) refl refl
    (refusal-place a.number a.place list) (explain-answered block list old h)

pub check-tells : (list old : List ℕ) → 201024 ≤ length old → Tells (own_list list).number (own_list list).place (check_text list) old list (checked_list list old)
check-tells list old h =
    tells-so (own_list list).number (own_list list).place (Refused (own_list list).number (own_list list).place) (check_text list) old list (checked_list list old) refl refl
    (refusal-place (own_list list).number (own_list list).place list) (check-answered list old h)

-- bad verdicts are told with the sets that the chain has, for a place
abbrev pub place_told : ℕ → ℕ → ℕ → ℕ
place_told number place sets = cond (eqb number 10) sets place

pub judge-tells : (block digits old list : List ℕ) → 512 ≤ length old → let a = judge block (map verdict_of digits) in
    Tells a.number (place_told a.number a.place (sets_of block)) (judgement (judged.answer_of a)) old list (judged_block block digits old)
judge-tells block digits old list h =
    let a = judge block (map verdict_of digits) in
    let f = verdicts_refusal a.number a.place (sets_of block) in
    tells-so a.number (place_told a.number a.place (sets_of block)) f (judgement (judged.answer_of a)) old list (judged_block block digits old)
    (verdicts-not-done a.number a.place (sets_of block)) (numbered a.number a.place (sets_of block)) (placed a.number a.place (sets_of block))
    (judge-answered block digits old h)
  where
    numbered : (n p s : ℕ) → number_of (verdicts_refusal n p s) ≡ n
    numbered n p s = go (eqb n 10) refl
      where
        go : (t : Bool) → eqb n 10 ≡ t → number_of (cond t (VerdictsRefused s) (Refused n p)) ≡ n
        go true e = sym (eqb-true n 10 e)
        go false e = refl

    placed : (n p s : ℕ) → line_place (ending_line (verdicts_refusal n p s) list) ≡ place_told n p s
    placed n p s = go (eqb n 10)
      where
        go : (t : Bool) → line_place (ending_line (cond t (VerdictsRefused s) (Refused n p)) list) ≡ cond t s p
        go true = verdicts-sets s list
        go false = refusal-place n p list

pub write-tells : (lines old list : List ℕ) → let a = composing.compose lines (length old) in
    Tells a.number a.place (body_for lines) old list (written_body lines old)
write-tells lines old list =
    let a = composing.compose lines (length old) in
    tells-so a.number a.place (LinesRefused a.number a.place) (body_for lines) old list (written_body lines old) refl refl
    (lines-refusal-place a.number a.place list) (write-answered lines old)
