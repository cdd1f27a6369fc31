-- Demand 1: any bytes may be handed in, and each call ends; a refusal gives its number exactly when its rule says so, has zero counts, and leaves
-- the lent buffer as it was. That a call ends on all bytes is proved with its function: none has a precondition. Here is when it gives
-- which number, with which place (01, Answer numbers), for every block, list, body, lines, verdicts and buffer.
use Prim.Native.Nat.{ℕ, ◌+◌, ◌≤◌, ◌<◌}
use native.Mathlib.Omega.{arith}
use mathlib.Core.Path.{◌≡◌, refl}
use mathlib.Core.Bool.{true}
use mathlib.Core.Logic.{◌⊎◌}
use mathlib.Core.List.{List, [], ◌∷◌, ◌++◌}
use lib.ListN.{length, drop}
use lib.Seq.{drop-append_seam}
use Rattle.base_readers.specs.Texts.{one_of}
use Rattle.lexis_rules.specs.Limits.{byte_limit}
use Rattle.block_rules.specs.Fields.{field_limit, fields, bytes_of}
use Rattle.block_laws.proofs.Fields.{fields-place}
use Rattle.identifier_rules.specs.Identifier.{identifier}
use Rattle.ownlist_rules.specs.OwnList.{own_list}
use Rattle.ownlist_rules.specs.Listed.{own_of}
use Rattle.ownlist_rules.specs.Calls.{Known}
use Rattle.strip_rules.specs.Terms.{kept_fields}
use Rattle.strip_laws.proofs.Numbers as numbers-of-strip
use Rattle.report_rules.specs.Body.{Head, newer, reading}
use Rattle.report_rules.specs.Report.{id_line, version_line}
use Rattle.report_rules.specs.ByCase.{number_of as answer_number, text_of, has_report}
use Rattle.report_laws.proofs.AnswersByCase as report-laws
use Rattle.report_laws.proofs.Numbers as numbers-of-report
use Rattle.blockreport_rules.specs.declared.Detail.{Detail}
use Rattle.blockreport_rules.specs.Terms.{block_text}
use Rattle.blockreport_laws.proofs.Numbers as numbers-of-block-report
use Rattle.host_whose_struct.specs.Whose.{owner_code}
use Rattle.host_whose_struct.proofs.Numbers as numbers-of-whose
use Rattle.arc_rules.specs.Chain.{outcome, built, valid_for}
use Rattle.arc_rules.specs.Terms.{Known as KnownFields, BadVerdicts}
use Rattle.arc_laws.proofs.Numbers as numbers-of-judge
use Rattle.arc_laws.proofs.BuiltExactly as judge-laws
use Rattle.block_walk_rules.specs.declared.Step.TheVariants.{Last}
use Rattle.block_walk_rules.specs.Steps.{given, last_of}
use Rattle.block_walk_rules.specs.Whole.{steps_from, in_order, AllBefore, First}
use Rattle.block_walk_rules.proofs.FieldsGiven as step-laws
use Rattle.write_rules.specs.Compose.{compose}
use Rattle.write_rules.specs.Promise.{HasBody, body_for, TooLong, TooShort, Fits, Placed}
use Rattle.write_laws.proofs.WriteTheorems as write-laws
use Rattle.promises.specs.Exactly.{Exactly}
use Rattle.promises.specs.Calls.{strips, reports, block_reports, tells, writes, judges, steps}

-- ==== stripping: 1, 5, then 2 to 4, then 6

module _ (block list old : List ℕ) where
  -- 1: block over 65,536 bytes; place 0
  pub strip-1 : Exactly ((strips block list old).answer.number ≡ 1) (byte_limit < length block)
  strip-1 = (numbers-of-strip.one-when block list (length old), λ h. search (numbers-of-strip.when-one block list (length old) h))

  pub strip-place-1 : byte_limit < length block → (strips block list old).answer.place ≡ 0
  strip-place-1 h = search (numbers-of-strip.when-one block list (length old) h)

  -- 5: bad own list; start of the first bad entry
  pub strip-5 : Exactly ((strips block list old).answer.number ≡ 5) ((length block ≤ byte_limit) × ((own_list list).number ≡ 5))
  strip-5 = (numbers-of-strip.five-when block list (length old), λ h. search (numbers-of-strip.when-five block list (length old) h.0 h.1))

  pub strip-place-5 : length block ≤ byte_limit → (own_list list).number ≡ 5 → (strips block list old).answer.place ≡ (own_list list).place
  strip-place-5 a b = search (numbers-of-strip.when-five block list (length old) a b)

  -- 2 to 4: from one walk from the front, line by line; the place of that walk
  pub strip-2-to-4 : (n : ℕ) → 2 ≤ n → n ≤ 4
      → Exactly ((strips block list old).answer.number ≡ n) ((length block ≤ byte_limit) × (((own_list list).number ≡ 0) × ((fields block).number ≡ n)))
  strip-2-to-4 n a b =
      (numbers-of-strip.walk-when block list (length old) n a b, λ h. search (numbers-of-strip.when-walk block list (length old) n a b h.0 h.1.0 h.1.1))

  pub strip-place-2-to-4 : (n : ℕ) → 2 ≤ n → n ≤ 4 → length block ≤ byte_limit → (own_list list).number ≡ 0 → (fields block).number ≡ n
      → (strips block list old).answer.place ≡ (fields block).place
  strip-place-2-to-4 n a b h k w = search (numbers-of-strip.when-walk block list (length old) n a b h k w)

  -- 6: lent output shorter than the whole output; bytes needed
  pub strip-6 : Exactly ((strips block list old).answer.number ≡ 6)
      (Known block list × (length old < length (bytes_of (kept_fields block list))))
  strip-6 = (numbers-of-strip.six-when block list (length old), λ h. search (numbers-of-strip.when-six block list (length old) h.0 h.1))

  pub strip-place-6 : Known block list → length old < length (bytes_of (kept_fields block list))
      → (strips block list old).answer.place ≡ length (bytes_of (kept_fields block list))
  strip-place-6 k h = search (numbers-of-strip.when-six block list (length old) k h)

  -- 0: done; place 0
  pub strip-0 : Exactly ((strips block list old).answer.number ≡ 0)
      (Known block list × (length (bytes_of (kept_fields block list)) ≤ length old))
  strip-0 = (numbers-of-strip.zero-when block list (length old), λ h. search (numbers-of-strip.when-zero block list (length old) h.0 h.1))

  pub strip-place-0 : Known block list → length (bytes_of (kept_fields block list)) ≤ length old → (strips block list old).answer.place ≡ 0
  strip-place-0 k h = search (numbers-of-strip.when-zero block list (length old) k h)

  -- there is no other number
  pub strip-numbers : (strips block list old).answer.number ≤ 6
  strip-numbers = numbers-of-strip.numbers block list (length old)

  -- refusals write nothing and return zero counts
  pub strip-refusal : ((strips block list old).answer.number ≡ 0 → ⊥)
      → strips block list old
      ≡ record {
        answer = record { number = (strips block list old).answer.number; place = (strips block list old).answer.place; kept = 0; removed = 0; fields = 0 };
        left = old;
      }
  strip-refusal ne = rw (numbers-of-strip.refused-silent block list (length old) ne)

  -- bytes past those written stay unchanged
  pub strip-past : drop (strips block list old).answer.kept (strips block list old).left ≡ drop (strips block list old).answer.kept old
  strip-past = numbers-of-strip.past block list old

-- ==== one body: 1, then 7, 8 or 9, then 6 (where it would have been 0 or 8)

module _ (body old : List ℕ) where
  -- 1: body over 65,536 bytes
  pub report-1 : Exactly ((reports body old).answer.number ≡ 1) (byte_limit < length body)
  report-1 = (numbers-of-report.one-when body (length old), λ h. search (numbers-of-report.when-one body (length old) h))

  -- 7: identifier unreadable; 8: header version not 1; 9: body not well-formed; 0: done. Each is the answer number of what the body says (`number_of` in ByCase)
  pub report-0-7-8-9 : (n : ℕ) → (n ≡ 1 → ⊥) → (n ≡ 6 → ⊥)
      → Exactly ((reports body old).answer.number ≡ n)
      ((length body ≤ byte_limit) × ((answer_number (reading body) ≡ n) × (length (text_of (reading body)) ≤ length old)))
  report-0-7-8-9 n a b = (numbers-of-report.told-when body (length old) n a b, λ h. search (numbers-of-report.when-told body (length old) h.0 h.1.1, h.1.0))

  -- 6: lent output shorter than the whole output
  pub report-6 : Exactly ((reports body old).answer.number ≡ 6)
      ((length body ≤ byte_limit) × ((has_report (reading body) ≡ true) × (length old < length (text_of (reading body)))))
  report-6 = (numbers-of-report.six-when body (length old), λ h. search (numbers-of-report.when-six body (length old) h.0 h.1.0 h.1.1))

  -- there is no other number
  pub report-numbers : one_of (0 ∷ 1 ∷ 6 ∷ 7 ∷ 8 ∷ 9 ∷ []) (reports body old).answer.number ≡ true
  report-numbers = report-laws.report-numbers body (length old)

  -- the place returned is the bytes needed for 6, and else 0
  pub report-place-6 : length body ≤ byte_limit → has_report (reading body) ≡ true → length old < length (text_of (reading body))
      → (reports body old).answer.place ≡ length (text_of (reading body))
  report-place-6 a b c = search (numbers-of-report.when-six body (length old) a b c)

  pub report-place : ((reports body old).answer.number ≡ 6 → ⊥) → (reports body old).answer.place ≡ 0
  report-place = report-laws.report-place body (length old)

  -- All but 0 and 8 are refusals; they write nothing and return zero counts
  pub report-refusal : ((reports body old).answer.number ≡ 0 → ⊥) → ((reports body old).answer.number ≡ 8 → ⊥)
      → reports body old
      ≡ record {
        answer = record { number = (reports body old).answer.number; place = (reports body old).answer.place; written = 0; ignored = 0 };
        left = old;
      }
  report-refusal a b = rw (numbers-of-report.refused-silent body (length old) a b)

  -- 8 writes two lines with an ignored count of zero
  pub report-8 : (h : Head) → length body ≤ byte_limit → reading body ≡ newer h → length (id_line h.identifier ++ version_line h.version) ≤ length old
      → reports body old
      ≡ record {
        answer = record { number = 8; place = 0; written = length (id_line h.identifier ++ version_line h.version); ignored = 0 };
        left =
            (id_line h.identifier ++ version_line h.version) ++ drop (length (id_line h.identifier ++ version_line h.version)) old;
      }
  report-8 h l e r = rw (numbers-of-report.when-told body (length old) l (rw e r), e)

  -- bytes past those written stay unchanged
  pub report-past : drop (reports body old).answer.written (reports body old).left ≡ drop (reports body old).answer.written old
  report-past = numbers-of-report.past body old

-- ==== the report of a block, with or without identifiers: 1, 5, then 2 to 4, then 6

module _ (detail : Detail) (block list old : List ℕ) where
  -- 1: block over 65,536 bytes; place 0
  pub block-report-1 : Exactly ((block_reports detail block list old).answer.number ≡ 1) (byte_limit < length block)
  block-report-1 = (numbers-of-block-report.one-when detail block list (length old), λ h. search (numbers-of-block-report.when-one detail block list (length old) h))

  pub block-report-place-1 : byte_limit < length block → (block_reports detail block list old).answer.place ≡ 0
  block-report-place-1 h = search (numbers-of-block-report.when-one detail block list (length old) h)

  -- 5: bad own list; start of the first bad entry
  pub block-report-5 : Exactly ((block_reports detail block list old).answer.number ≡ 5) ((length block ≤ byte_limit) × ((own_list list).number ≡ 5))
  block-report-5 =
      (numbers-of-block-report.five-when detail block list (length old), λ h. search (numbers-of-block-report.when-five detail block list (length old) h.0 h.1))

  pub block-report-place-5 : length block ≤ byte_limit → (own_list list).number ≡ 5 → (block_reports detail block list old).answer.place ≡ (own_list list).place
  block-report-place-5 a b = search (numbers-of-block-report.when-five detail block list (length old) a b)

  -- 2 to 4: from one walk from the front, line by line; the place of that walk
  pub block-report-2-to-4 : (n : ℕ) → 2 ≤ n → n ≤ 4
      → Exactly ((block_reports detail block list old).answer.number ≡ n)
      ((length block ≤ byte_limit) × (((own_list list).number ≡ 0) × ((fields block).number ≡ n)))
  block-report-2-to-4 n a b = (
    numbers-of-block-report.walk-when detail block list (length old) n a b,
    λ h. search (numbers-of-block-report.when-walk detail block list (length old) n a b h.0 h.1.0 h.1.1),
  )

  pub block-report-place-2-to-4 : (n : ℕ) → 2 ≤ n → n ≤ 4 → length block ≤ byte_limit → (own_list list).number ≡ 0 → (fields block).number ≡ n
      → (block_reports detail block list old).answer.place ≡ (fields block).place
  block-report-place-2-to-4 n a b h k w = search (numbers-of-block-report.when-walk detail block list (length old) n a b h k w)

  -- 6: lent output shorter than the whole output; bytes needed
  pub block-report-6 : Exactly ((block_reports detail block list old).answer.number ≡ 6)
      (Known block list × (length old < length (block_text detail block list)))
  block-report-6 =
      (numbers-of-block-report.six-when detail block list (length old), λ h. search (numbers-of-block-report.when-six detail block list (length old) h.0 h.1))

  pub block-report-place-6 : Known block list → length old < length (block_text detail block list)
      → (block_reports detail block list old).answer.place ≡ length (block_text detail block list)
  block-report-place-6 k h = search (numbers-of-block-report.when-six detail block list (length old) k h)

  -- 0: done; what the fields add is written (`block_text`), place 0
  pub block-report-0 : Exactly ((block_reports detail block list old).answer.number ≡ 0)
      (Known block list × (length (block_text detail block list) ≤ length old))
  block-report-0 =
      (numbers-of-block-report.zero-when detail block list (length old), λ h. search (numbers-of-block-report.when-zero detail block list (length old) h.0 h.1))

  pub block-report-done : Known block list → length (block_text detail block list) ≤ length old
      → block_reports detail block list old
      ≡ record {
        answer = record { number = 0; place = 0; written = length (block_text detail block list) };
        left = block_text detail block list ++ drop (length (block_text detail block list)) old;
      }
  block-report-done k h = rw (numbers-of-block-report.when-zero detail block list (length old) k h)

  -- there is no other number
  pub block-report-numbers : (block_reports detail block list old).answer.number ≤ 6
  block-report-numbers = numbers-of-block-report.numbers detail block list (length old)

  -- refusals write nothing and return zero counts
  pub block-report-refusal : ((block_reports detail block list old).answer.number ≡ 0 → ⊥)
      → block_reports detail block list old
      ≡ record {
        answer =
            record {
              number = (block_reports detail block list old).answer.number;
              place = (block_reports detail block list old).answer.place;
              written = 0;
            };
        left = old;
      }
  block-report-refusal ne = rw (numbers-of-block-report.refused-silent detail block list (length old) ne)

  -- bytes past those written stay unchanged
  pub block-report-past :
      drop (block_reports detail block list old).answer.written (block_reports detail block list old).left
      ≡ drop (block_reports detail block list old).answer.written old
  block-report-past = numbers-of-block-report.past detail block list old

-- ==== whose an identifier is: 1, then 5, in stripping's order

module _ (list body : List ℕ) where
  -- 1: body over 65,536 bytes; place 0
  pub whose-1 : Exactly ((tells list body).number ≡ 1) (byte_limit < length body)
  whose-1 = (numbers-of-whose.one-when list body, λ h. search (numbers-of-whose.when-one list body h))

  pub whose-place-1 : byte_limit < length body → (tells list body).place ≡ 0
  whose-place-1 h = search (numbers-of-whose.when-one list body h)

  -- 5: bad own list; start of the first bad entry
  pub whose-5 : Exactly ((tells list body).number ≡ 5) ((length body ≤ byte_limit) × ((own_list list).number ≡ 5))
  whose-5 = (numbers-of-whose.five-when list body, λ h. search (numbers-of-whose.when-five list body h.0 h.1))

  pub whose-place-5 : length body ≤ byte_limit → (own_list list).number ≡ 5 → (tells list body).place ≡ (own_list list).place
  whose-place-5 a b = search (numbers-of-whose.when-five list body a b)

  -- 0: done; ours, another's or unreadable (`owner_code`), place 0
  pub whose-0 : Exactly ((tells list body).number ≡ 0) ((length body ≤ byte_limit) × ((own_list list).number ≡ 0))
  whose-0 = (numbers-of-whose.zero-when list body, λ h. search (numbers-of-whose.when-zero list body h.0 h.1))

  pub whose-done : length body ≤ byte_limit → (own_list list).number ≡ 0
      → tells list body ≡ record { number = 0; whose = owner_code (own_of (own_list list).items (identifier body)); place = 0 }
  whose-done = numbers-of-whose.when-zero list body

  -- there is no other number
  pub whose-numbers : one_of (0 ∷ 1 ∷ 5 ∷ []) (tells list body).number ≡ true
  whose-numbers = numbers-of-whose.numbers list body

  -- refusals return zero counts
  pub whose-refusal : ((tells list body).number ≡ 0 → ⊥)
      → tells list body ≡ record { number = (tells list body).number; whose = 0; place = (tells list body).place }
  whose-refusal = numbers-of-whose.refused-blank list body

-- ==== report lines (02, ticket [1]): 11, then 1, then 6

module _ (lines old : List ℕ) where
  -- 11: no well-formed body without ignored results has that report; the first line up to which the lines can begin no such report
  pub write-11 : Exactly ((writes lines old).answer.number ≡ 11) (HasBody lines → ⊥)
  write-11 = (write-laws.refused_none lines (length old), write-laws.none-refused lines (length old))

  pub write-place-11 : (writes lines old).answer.number ≡ 11 → Placed lines (writes lines old).answer.place
  write-place-11 = write-laws.placed lines (length old)

  -- 1: for the body to be written; place 0
  pub write-1 : Exactly ((writes lines old).answer.number ≡ 1) (TooLong lines)
  write-1 = (write-laws.refused-long lines (length old), λ h. search (write-laws.long-refused lines (length old) h))

  pub write-place-1 : TooLong lines → (writes lines old).answer.place ≡ 0
  write-place-1 h = search (write-laws.long-refused lines (length old) h)

  -- 6: lent output shorter than the whole output; bytes needed
  pub write-6 : Exactly ((writes lines old).answer.number ≡ 6) (TooShort lines (length old))
  write-6 = (write-laws.refused-short lines (length old), λ h. search (write-laws.short-refused lines (length old) h))

  pub write-place-6 : TooShort lines (length old) → (writes lines old).answer.place ≡ length (body_for lines)
  write-place-6 h = search (write-laws.short-refused lines (length old) h)

  -- 0: done; the body is written, place 0
  pub write-0 : Exactly ((writes lines old).answer.number ≡ 0) (Fits lines (length old))
  write-0 = (write-laws.written-fits lines (length old), λ h. search (write-laws.fits-written lines (length old) h))

  pub write_done : Fits lines (length old)
      → writes lines old
      ≡ record {
        answer = record { number = 0; place = 0; written = length (body_for lines) };
        left = body_for lines ++ drop (length (body_for lines)) old;
      }
  write_done h = rw (write-laws.fits-written lines (length old) h)

  -- there is no other number
  pub write-numbers : one_of (0 ∷ 1 ∷ 6 ∷ 11 ∷ []) (writes lines old).answer.number ≡ true
  write-numbers = write-laws.numbers lines (length old)

  -- refusals write nothing and return zero counts
  pub write-refusal : ((writes lines old).answer.number ≡ 0 → ⊥) → ((writes lines old).answer.written ≡ 0) × ((writes lines old).left ≡ old)
  write-refusal ne = let e = write-laws.refused-unwritten lines (length old) ne in (rw e, rw e)

  -- bytes past those written stay unchanged
  pub write-past : drop (writes lines old).answer.written (writes lines old).left ≡ drop (writes lines old).answer.written old
  write-past = drop-append_seam (compose lines (length old)).written (drop (length (compose lines (length old)).written) old)

-- ==== a chain: 1, then 2 to 4, then 10

module _ (block verdicts : List ℕ) where
  -- 1: block over 65,536 bytes
  pub judge-1 : Exactly ((judges block verdicts).number ≡ 1) (byte_limit < length block)
  judge-1 = (numbers-of-judge.one-when block verdicts, λ h. search (numbers-of-judge.when-one block verdicts h))

  -- 2 to 4: from one walk from the front; the place of that walk
  pub judge-2-to-4 : (n : ℕ) → 2 ≤ n → n ≤ 4 → Exactly ((judges block verdicts).number ≡ n) ((length block ≤ byte_limit) × ((fields block).number ≡ n))
  judge-2-to-4 n a b = (numbers-of-judge.walk-when block verdicts n a b, λ h. search (numbers-of-judge.when-walk block verdicts n a b h.0 h.1))

  pub judge-place-2-to-4 : (n : ℕ) → 2 ≤ n → n ≤ 4 → length block ≤ byte_limit → (fields block).number ≡ n → (judges block verdicts).place ≡ (fields block).place
  judge-place-2-to-4 n a b h k = search (numbers-of-judge.when-walk block verdicts n a b h k)

  -- 10: bad verdicts
  pub judge-10 : Exactly ((judges block verdicts).number ≡ 10) (BadVerdicts block verdicts)
  judge-10 = judge-laws.ten-exactly block verdicts

  -- 0: done; the fields are all there, and where their chain is built, there are N verdicts from 0 to 3
  pub judge-0 : Exactly ((judges block verdicts).number ≡ 0)
      (KnownFields block × ((n : ℕ) → outcome (fields block).items ≡ built n → valid_for n verdicts ≡ true))
  judge-0 = (numbers-of-judge.zero-when block verdicts, λ h. numbers-of-judge.when-zero block verdicts h.0 h.1)

  -- the numbers are 0 to 4 and 10; but for 2 to 4 the place is 0
  pub judge-numbers : ((judges block verdicts).number ≤ 4 → ⊥) → (judges block verdicts).number ≡ 10
  judge-numbers = numbers-of-judge.numbers block verdicts

  pub judge-place : ((judges block verdicts).number ≤ 1) ⊎ (5 ≤ (judges block verdicts).number) → (judges block verdicts).place ≡ 0
  judge-place = numbers-of-judge.place-else block verdicts

  -- refusals return zero counts
  pub judge-refusal : ((judges block verdicts).number ≡ 0 → ⊥)
      → judges block verdicts
      ≡ record {
        number = (judges block verdicts).number;
        place = (judges block verdicts).place;
        outcome = 0;
        reason = 0;
        field = 0;
        instances = 0;
        status = 0;
        oldest = 0;
      }
  judge-refusal ne = rw (numbers-of-judge.refused-blank block verdicts ne)

-- ==== the walking reader: it answers 1 first, else gives each field ending before the line of a 2 to 4, then that answer (`given`)

module _ (block : List ℕ) where
  -- 1 from every place of a block that is too long, and of no other
  pub step-1 : (place : ℕ) → Exactly (steps block place ≡ Last 1 0) (byte_limit < length block)
  step-1 place = ((λ e. step-laws.last-long block place 1 0 e refl), step-laws.step-long block place)

  -- 0, and 2 to 4 with their place, where that is the answer of the walk over the block and all its fields start before the place
  pub step-0 : (place : ℕ)
      → Exactly (steps block place ≡ Last 0 0) ((length block ≤ byte_limit) × (((fields block).number ≡ 0) × AllBefore place 0 (fields block).items))
  step-0 place = (
    (λ e. (let w = step-laws.last-walk block place 0 0 e (λ z. omega (arith, z)) in (w.0, (w.1.0, w.1.1.1)))),
    λ h. step-laws.walk-last block place 0 0 h.0 h.1.0 (fields-place block h.1.0) h.1.1,
  )

  pub step-2-to-4 : (place n p : ℕ) → 2 ≤ n → n ≤ 4
      → Exactly (steps block place ≡ Last n p)
      ((length block ≤ byte_limit) × (((fields block).number ≡ n) × (((fields block).place ≡ p) × AllBefore place 0 (fields block).items)))
  step-2-to-4 place n p a b =
      ((λ e. step-laws.last-walk block place n p e (λ z. omega arith)), λ h. step-laws.walk-last block place n p h.0 h.1.0 h.1.1.0 h.1.1.1)

  -- from any place, also one that a host made up, a step gives the first of these fields that starts there or later, or else that last answer
  pub step-any : (place : ℕ) → First place 0 (given block).items (last_of (given block)) (steps block place)
  step-any = step-laws.step-any block

  -- stepping from the front, and then from each field's end, gives these fields in order and then that answer, in 513 steps at most
  pub steps_all : steps_from (field_limit + 1) block 0 ≡ in_order 0 (given block).items (last_of (given block))
  steps_all = step-laws.steps_all block

  -- a sound block gives all its fields, then 0
  pub steps-sound : length block ≤ byte_limit → (fields block).number ≡ 0 → (bytes_of (given block).items ≡ block) × (last_of (given block) ≡ Last 0 0)
  steps-sound = step-laws.given-sound block

  -- the last answer is the same from every place, and one of 0 to 4
  pub step-numbers : (place n p : ℕ) → steps block place ≡ Last n p → (Last n p ≡ last_of (given block)) × (n ≤ 4)
  step-numbers place n p e = (step-laws.last-same block place n p e, step-laws.last-four block place n p e)
