-- Demand 2: the report of a field, the stripped block and the judgement of a chain are those of RFC 8601, RFC 8617 and document 01. Each theorem
-- stands under the sentence that it proves, with examples.
use Prim.Native.Nat.{ℕ, ◌+◌, ◌*◌, ◌≤◌}
use mathlib.Core.Path.{◌≡◌, refl}
use mathlib.Core.Bool.{true, false, cond}
use mathlib.Core.List.{List, [], ◌∷◌, ◌++◌, map}
use lib.Dec.{lit≤}
use lib.ListN.{length, drop}
use Rattle.base_readers.specs.Texts.{bytes}
use Rattle.base_readers.proofs.Cases.{copies}
use Rattle.lexis_rules.specs.Limits.{byte_limit}
use Rattle.block_rules.specs.Fields.{Field, fields, bytes_of}
use Rattle.ownlist_rules.specs.OwnList.{own_list}
use Rattle.report_rules.specs.Body.{results, reading}
use Rattle.report_rules.specs.Report.{id_line, lines, ignored_of}
use Rattle.result_rules.specs.Results.{Result}
use Rattle.report_rules.specs.ByCase.{number_of as answer_number, text_of, count_of}
use Rattle.report_rules.proofs.Unfolding as body-opened
use Rattle.report_laws.proofs.Numbers as numbers-of-report
use Rattle.report_laws.proofs.Rooms as rooms
use Rattle.strip_rules.specs.Strip.{strip}
use Rattle.strip_rules.specs.ByFields.{Kept}
use Rattle.strip_rules.specs.Terms.{kept_fields, removed_fields}
use Rattle.strip_rules.proofs.Examples as strip-opened
use Rattle.strip_laws.proofs.StripTheorems as strip-laws
use Rattle.strip_laws.proofs.ByFields as strip-fields
use Rattle.strip_laws.proofs.Numbers as numbers-of-strip
use Rattle.blockreport_rules.specs.declared.Detail.{Detail}
use Rattle.blockreport_laws.proofs.RepeatedEntries as blocks-repeated
use Rattle.host_whose_struct.proofs.RepeatedEntries as whose-again
use Rattle.arc_rules.specs.Chain.{outcome, built, failed, valid_for, passes, oldest_pass}
use Rattle.arc_rules.specs.declared.Judged.{Judged}
use Rattle.arc_rules.specs.Terms.{Known as KnownFields}
use Rattle.arc_rules.specs.Accepted.{Accepted}
use Rattle.arc_rules.specs.Reasons.{first_unread, first_repeating, highest_instance, empty_place, last_fails, other_value}
use Rattle.arc_rules.proofs.Unfolding as arc-opened
use Rattle.arc_laws.proofs.Numbers as numbers-of-judge
use Rattle.arc_laws.proofs.BuiltExactly as judge-laws
use Rattle.arc_laws.proofs.ReasonsExactly as reason-laws
use Rattle.promises.specs.Exactly.{Exactly}
use Rattle.promises.specs.Calls.{strips, reports, block_reports, tells, judges}

-- ==== the report of a field: the one RFC 8601 and document 01 give

-- what a body within the limit says is told whole, in front of the lent buffer, where there is room for it
pub report-told : (body old : List ℕ) → length body ≤ byte_limit → length (text_of (reading body)) ≤ length old
    → reports body old
    ≡ record {
      answer =
          record {
            number = answer_number (reading body);
            place = 0;
            written = length (text_of (reading body));
            ignored = count_of (reading body);
          };
      left = text_of (reading body) ++ drop (length (text_of (reading body))) old;
    }
report-told body old l r = rw (numbers-of-report.when-told body (length old) l r)

-- so the results of a well-formed field are its lines but for those that are ignored, and how many these are
pub report-results : (body i : List ℕ) (rs : List Result) (old : List ℕ) → length body ≤ byte_limit → reading body ≡ results i rs
    → length (id_line i ++ lines rs) ≤ length old
    → reports body old
    ≡ record {
      answer = record { number = 0; place = 0; written = length (id_line i ++ lines rs); ignored = ignored_of rs };
      left = (id_line i ++ lines rs) ++ drop (length (id_line i ++ lines rs)) old;
    }
report-results body i rs old l e r = rw (numbers-of-report.when-told body (length old) l (rw e r), e)

results-example :
    reports (bytes "a; spf=pass; dkim/2=pass") (bytes ".....................")
    ≡ record { answer = record { number = 0; place = 0; written = 16; ignored = 1 }; left = bytes "id\ta\nm\tspf\tpass\n....." }
unfolding body-opened.opened
results-example = report-results (bytes "a; spf=pass; dkim/2=pass") (bytes "a") _ (bytes ".....................") (lit≤ tt) refl (lit≤ tt)

-- document 01's whole example: 56 bytes, in front of the lent ones
report-example : reports (bytes " example.com; spf=pass smtp.mailfrom=example.net") (bytes "........................................................!")
    ≡ record {
      answer = record { number = 0; place = 0; written = 56; ignored = 0 };
      left = bytes "id\texample.com\nm\tspf\tpass\np\tsmtp\tmailfrom\tt\texample.net\n!";
    }
unfolding body-opened.opened
report-example = refl

-- they fit 56 and not 55
report-example-room :
    map (λ (old : List ℕ). (reports (bytes " example.com; spf=pass smtp.mailfrom=example.net") old).answer) (copies 56 46 ∷ copies 55 46 ∷ [])
    ≡ record { number = 0; place = 0; written = 56; ignored = 0 } ∷ record { number = 6; place = 56; written = 0; ignored = 0 } ∷ []
unfolding body-opened.opened
report-example-room = refl

-- three times the bytes of the body and four more are always room enough
pub report-room : (body old : List ℕ) → 3 * length body + 4 ≤ length old → (reports body old).answer.number ≡ 6 → ⊥
report-room body old h = rooms.room-enough body (length old) h

room-example : (reports (bytes "a") (bytes ".......")).answer.number ≡ 6 → ⊥
room-example = report-room (bytes "a") (bytes ".......") (lit≤ tt)

-- ==== the stripped block

-- Stripping removes exactly the Authentication-Results fields whose identifier is on our own list or can't be read, and keeps every other byte in order
module _ (block list old : List ℕ) (z : (strips block list old).answer.number ≡ 0) where
  -- the block is its fields, and so is what is written; of the block's fields those that are removed are left out (`Kept`)
  pub strip-by-fields : (bytes_of (fields block).items ≡ block)
      × (Kept (own_list list).items (fields block).items (fields (strip block list (length old)).written).items
      × ((strips block list old).left ≡ bytes_of (fields (strip block list (length old)).written).items ++ drop (strips block list old).answer.kept old))
  strip-by-fields = strip-fields.strip-kept block list old z

  -- kept plus removed bytes make the block length
  pub strip-sum : (strips block list old).answer.kept + (strips block list old).answer.removed ≡ length block
  strip-sum = strip-laws.strip-sum block list (length old) z

  -- Returned: kept bytes, removed bytes and removed fields, each a sum over the fields
  pub strip-counts : ((strips block list old).answer.kept ≡ length (bytes_of (kept_fields block list)))
      × (((strips block list old).answer.removed ≡ length (bytes_of (removed_fields block list)))
      × ((strips block list old).answer.fields ≡ length (removed_fields block list)))
  strip-counts = let w = numbers-of-strip.zero-when block list (length old) z in let e = numbers-of-strip.when-zero block list (length old) w.0 w.1 in (rw e, (rw e, rw e))

  -- 02, ticket [14], its last sentence: stripping the stripped block with the same list, and room for it, gives the same bytes and removes nothing
  pub strip-twice : (room : ℕ) → (strips block list old).answer.kept ≤ room
      → strip (strip block list (length old)).written list room
      ≡ record {
        number = 0;
        place = 0;
        kept = (strips block list old).answer.kept;
        removed = 0;
        fields = 0;
        written = (strip block list (length old)).written;
      }
  strip-twice = strip-laws.strip-twice block list (length old) z

-- document 01's sample: the first field is removed, the second is kept
strip-example :
    Kept (bytes "example.com" ∷ [])
    (fields (bytes "Authentication-Results : Example.COM; none\r\nFrom: a@b.example\r\n")).items
    (fields (bytes "From: a@b.example\r\n")).items
unfolding strip-opened.opened
strip-example =
    (strip-by-fields (bytes "Authentication-Results : Example.COM; none\r\nFrom: a@b.example\r\n") (bytes "example.com\n") (bytes "....................") refl).1.0

-- what is written there, stripped again with as much room
twice-example :
    strip (bytes "From: a@b.example\r\n") (bytes "example.com\n") 19
    ≡ record { number = 0; place = 0; kept = 19; removed = 0; fields = 0; written = bytes "From: a@b.example\r\n" }
unfolding strip-opened.opened
twice-example =
    strip-twice (bytes "Authentication-Results : Example.COM; none\r\nFrom: a@b.example\r\n") (bytes "example.com\n") (bytes "....................") refl 19 (lit≤ tt)

-- a repeated entry changes nothing
pub strip-repeated : (block list list' : List ℕ) (room : ℕ) (e : List ℕ) (xs ys zs : List (List ℕ))
    → own_list list ≡ record { items = xs ++ (e ∷ (ys ++ zs)); number = 0; place = 0 }
    → own_list list' ≡ record { items = xs ++ (e ∷ (ys ++ (e ∷ zs))); number = 0; place = 0 } → strip block list' room ≡ strip block list room
strip-repeated = strip-laws.strip-repeated

repeated-example : (block : List ℕ) (room : ℕ) → strip block (bytes "a\nb\na\n") room ≡ strip block (bytes "a\nb\n") room
unfolding strip-opened.opened
repeated-example block room = strip-repeated block (bytes "a\nb\n") (bytes "a\nb\na\n") room (bytes "a") [] (bytes "b" ∷ []) [] refl refl

-- nor in the report of a block, nor in whose a field is
module _ (list list' e : List ℕ) (xs ys zs : List (List ℕ)) (once : own_list list ≡ record { items = xs ++ (e ∷ (ys ++ zs)); number = 0; place = 0 })
    (again : own_list list' ≡ record { items = xs ++ (e ∷ (ys ++ (e ∷ zs))); number = 0; place = 0 }) where
  pub block-report-repeated : (detail : Detail) (block old : List ℕ) → block_reports detail block list' old ≡ block_reports detail block list old
  block-report-repeated detail block old = rw (blocks-repeated.report-repeated detail block list list' (length old) e xs ys zs once again)

  pub whose-repeated : (body : List ℕ) → tells list' body ≡ tells list body
  whose-repeated body = whose-again.whose-repeated body list list' e xs ys zs once again

repeated-whose-example : (body : List ℕ) → tells (bytes "a\nb\na\n") body ≡ tells (bytes "a\nb\n") body
unfolding strip-opened.opened
repeated-whose-example body = whose-repeated (bytes "a\nb\n") (bytes "a\nb\na\n") (bytes "a") [] (bytes "b" ∷ []) [] refl refl body

-- ==== the judgement of a chain: built

-- An ARC structure is accepted exactly when every ARC field reads, and instances 1 to N, N from 1 to 50, each have one field of each kind and the chain
-- values RFC 8617 prescribes: for every block within the limit whose walk comes to its end, and N verdicts from 0 to 3
pub judge-built : (block verdicts : List ℕ) (n : ℕ) → KnownFields block → valid_for n verdicts ≡ true
    → Exactly (((judges block verdicts).outcome ≡ 2) × ((judges block verdicts).instances ≡ n)) (Accepted (fields block).items n)
judge-built = judge-laws.judge-built

-- one set, in an order of its own, with a field of another name between
built-example : Accepted (fields judge-laws.one).items 1
unfolding arc-opened.opened
built-example = (judge-built judge-laws.one (3 ∷ []) 1 (lit≤ tt, refl) refl).0 (refl, refl)

-- and whatever the verdicts, the outcome of its fields
pub built-exactly : (fs : List Field) (n : ℕ) → Exactly (outcome fs ≡ built n) (Accepted fs n)
built-exactly = judge-laws.built-exactly

-- built: the status is pass when all N seals and signature N are good, and then there is an oldest-pass; else it is fail
pub judge-status : (block verdicts : List ℕ) (n : ℕ) → KnownFields block → outcome (fields block).items ≡ built n → valid_for n verdicts ≡ true
    → judges block verdicts
    ≡ record {
      number = 0;
      place = 0;
      outcome = 2;
      reason = 0;
      field = 0;
      instances = n;
      status = cond (passes verdicts) 1 2;
      oldest = cond (passes verdicts) (oldest_pass verdicts) 0;
    }
judge-status block verdicts n k o v = rw (numbers-of-judge.when-built block verdicts n k o v)

-- the status of one set is pass exactly where its seal and its signature are good
status-example :
    (judges judge-laws.one (3 ∷ []) ≡ record { number = 0; place = 0; outcome = 2; reason = 0; field = 0; instances = 1; status = 1; oldest = 0 })
    × (judges judge-laws.one (2 ∷ []) ≡ record { number = 0; place = 0; outcome = 2; reason = 0; field = 0; instances = 1; status = 2; oldest = 0 })
unfolding arc-opened.opened
status-example =
    (judge-status judge-laws.one (3 ∷ []) 1 (lit≤ tt, refl) refl refl, judge-status judge-laws.one (2 ∷ []) 1 (lit≤ tt, refl) refl refl)

-- ==== the judgement of a chain: failed

-- what is answered for a reason, 1 to 5 for (a) to (e), and the number of the field that it names; N is returned as 0 unless built, and the status is
-- the outcome's, fail
abbrev pub failed_for : ℕ → ℕ → Judged
failed_for r f = record { number = 0; place = 0; outcome = 1; reason = r; field = f; instances = 0; status = 2; oldest = 0 }

-- whatever the reason is, the whole answer
pub judge-failed : (block verdicts : List ℕ) (r f : ℕ) → KnownFields block → outcome (fields block).items ≡ failed r f
    → judges block verdicts ≡ failed_for r f
judge-failed block verdicts r f k o = rw (numbers-of-judge.when-fails block verdicts r f k o)

-- Failed for the first reason that applies: each exactly where it applies (`Reasons.antt` of `arc_rules`) and none before it does
module _ (block verdicts : List ℕ) (k : KnownFields block) where
  abbrev fs : List Field
  fs = (fields block).items

  -- (a) an unreadable field
  pub judge-failed-a : Exactly ((judges block verdicts).reason ≡ 1) (1 ≤ first_unread fs)
  judge-failed-a = reason-laws.judge-unread block verdicts k

  -- (b) the first repeated kind, in block order, at one instance
  pub judge-failed-b : Exactly ((judges block verdicts).reason ≡ 2)
      ((first_unread fs ≡ 0) × (1 ≤ first_repeating fs))
  judge-failed-b = reason-laws.judge-repeated block verdicts k

  -- (c) with N the highest instance, an empty place in 1 to N
  pub judge-failed-c : Exactly ((judges block verdicts).reason ≡ 3)
      ((first_unread fs ≡ 0) × ((first_repeating fs ≡ 0) × (empty_place fs ≡ true)))
  judge-failed-c = reason-laws.judge-empty block verdicts k

  -- (d) the seal at N has cv fail
  pub judge-failed-d : Exactly ((judges block verdicts).reason ≡ 4)
      ((first_unread fs ≡ 0) × ((first_repeating fs ≡ 0) × ((empty_place fs ≡ false) × (last_fails fs ≡ true))))
  judge-failed-d = reason-laws.judge-last block verdicts k

  -- (e) the seal at 1 isn't none or a later one isn't pass
  pub judge-failed-e : Exactly ((judges block verdicts).reason ≡ 5)
      ((first_unread fs ≡ 0) × ((first_repeating fs ≡ 0) × ((empty_place fs ≡ false) × ((last_fails fs ≡ false) × (other_value fs ≡ true)))))
  judge-failed-e = reason-laws.judge-value block verdicts k

  -- there is no other reason; which field each names is in Demand2Failed
  pub judge-reasons : (judges block verdicts).reason ≤ 5
  judge-reasons = reason-laws.judge-reasons block verdicts

  -- Else built, with N
  pub judge-else : (first_unread fs ≡ 0) × ((first_repeating fs ≡ 0) × ((empty_place fs ≡ false) × ((last_fails fs ≡ false) × (other_value fs ≡ false))))
      → 1 ≤ highest_instance fs → valid_for (highest_instance fs) verdicts ≡ true
      → ((judges block verdicts).outcome ≡ 2) × ((judges block verdicts).instances ≡ highest_instance fs)
  judge-else h l v =
      (judge-built block verdicts (highest_instance fs) k v).1 ((built-exactly fs (highest_instance fs)).0 (reason-laws.else-built fs h l))
