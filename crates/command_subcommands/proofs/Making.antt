-- What a call answered and wrote is what the subcommand makes of it. The premises are literally what a need is handed.
use Prim.Native.Nat.{ℕ, zero, suc, ◌-◌, ◌<◌}
use native.Mathlib.Omega.{arith}
use mathlib.Core.Path.{◌≡◌, refl, sym, ap, ◌∙◌, subst}
use mathlib.Core.List.{List, ◌++◌, map}
use lib.ListN.{length, drop}
use lib.Seq.{take-append_seam}
use borrow.Author.Tests.{eq-eqb, ne_eqb}
use Rattle.base_sequences.specs.Spans.{span}
use Rattle.base_sequences.specs.Stored.{cap, Clipped, Put}
use Rattle.base_sequences.proofs.Clips.{clipped-long}
use Rattle.base_sequences.proofs.Splices.{put_front}
use Rattle.base_readers.specs.Lines.{lines_of}
use Rattle.punycode_rules.specs.Labels.{spelling}
use Rattle.ownlist_rules.specs.OwnList.{own_list}
use Rattle.ownlist_rules.specs.Spelled.{spelled_list}
use Rattle.ownlist_laws.proofs.Entries.{list-five}
use Rattle.ownlist_laws.proofs.AsCompared.{list-lines}
use Rattle.ownlist_laws.proofs.OwnListLaws.{list_length}
use Rattle.ownlist_check.specs.declared.Checked.{Checked}
use Rattle.ownlist_check.specs.declared.Checked.TheVariants.{Good, Bad}
use Rattle.ownlist_check.specs.Steps.{checked_of, number_of, place_of}
use Rattle.strip_rules.specs.declared.Stripped.{Stripped}
use Rattle.strip_rules.specs.Strip.{strip}
use Rattle.strip_rules.specs.Answers as stripped
use Rattle.strip_laws.proofs.Numbers as strip-laws
use Rattle.blockreport_rules.specs.declared.BlockReported.{BlockReported}
use Rattle.blockreport_rules.specs.declared.Detail.TheVariants.{Reported, Identified}
use Rattle.blockreport_rules.specs.BlockReport.{Answer, block_report}
use Rattle.blockreport_rules.specs.Answers as reported
use Rattle.blockreport_laws.proofs.Numbers as report-laws
use Rattle.write_rules.specs.declared.Written.{Written}
use Rattle.write_rules.specs.Compose.{compose}
use Rattle.write_rules.specs.Answers as composed
use Rattle.explain_rules.specs.Explained.{explained}
use Rattle.arc_rules.specs.declared.Judged.{Judged}
use Rattle.arc_rules.specs.Chain.{judge}
use Rattle.arc_rules.specs.Answers as judged
use Rattle.judgement_rules.specs.Judgement.{verdict_of, judgement}
use Rattle.command_rules.specs.declared.Ending.{Ending}
use Rattle.command_rules.specs.declared.Ending.TheVariants.{VerdictsRefused, Refused, LinesRefused}
use Rattle.command_list_rules.specs.declared.Said.TheVariants.{Compared}
use Rattle.command_list_rules.specs.Notices.{lines_from, notices, check_text}
use Rattle.command_list_rules.proofs.Fits.{check-fits}
use Rattle.command_sets.specs.Sets.{sets_of}
use Rattle.command_output_rules.specs.declared.Made.{Made}
use Rattle.command_output_rules.specs.Outputs.{Output, made_of, said_of, worded, stripped_block, reported_block, explained_block, verdicts_refusal, checked_list, judged_block, written_body}
use Rattle.command_output_rules.proofs.EndingCases.{worded-refused, worded-said, stored-front}
use Rattle.command_laws.proofs.JudgementRooms.{judgement-fits}
use Rattle.command_laws.proofs.ExplainRooms.{explained-fits}

-- this is answered, and the lent buffer holds that
abbrev pub Makes : Output → Made → List ℕ → Type 0
Makes o r new = (r ≡ o.made) × (new ≡ o.left)

-- ==== calls that write what fits

-- what stripping keeps is what it writes
kept-long : (block list : List ℕ) (room : ℕ) → (strip block list room).kept ≡ length (strip block list room).written
kept-long block list room = go (strip block list room).number refl
  where
    go : (n : ℕ) → (strip block list room).number ≡ n → (strip block list room).kept ≡ length (strip block list room).written
    go zero z = let w = strip-laws.zero-when block list room z in rw (strip-laws.when-zero block list room w.0 w.1)
    go (suc n) z = rw (strip-laws.refused-silent block list room (λ e. omega arith))

pub strip-makes : (block list old new : List ℕ) (a : Stripped) (r : Made) → a ≡ stripped.answer_of (strip block list (length old)) → new ≡ stripped.leaves (strip block list (length old)) old
    → r ≡ made_of a.number (Refused a.number a.place) a.kept → Makes (stripped_block block list old) r new
unfolding stripped_block
strip-makes block list old new a r e l q =
    let x = strip block list (length old) in (
      q
          ∙ (ap (λ (b : Stripped). made_of b.number (Refused b.number b.place) b.kept) e
          ∙ ap (made_of x.number (Refused x.number x.place)) (kept-long block list (length old))),
      l,
    )

pub report-makes : (block list old new : List ℕ) (a : BlockReported) (r : Made) → a ≡ reported.answer_of (block_report Reported block list (length old))
    → new ≡ reported.leaves (block_report Reported block list (length old)) old → r ≡ made_of a.number (Refused a.number a.place) a.written
    → Makes (reported_block block list old) r new
unfolding reported_block
report-makes block list old new a r e l q = (q ∙ ap (λ (b : BlockReported). made_of b.number (Refused b.number b.place) b.written) e, l)

pub write-makes : (lines old new : List ℕ) (a : Written) (r : Made) → a ≡ composed.answer_of (compose lines (length old)) → new ≡ composed.leaves (compose lines (length old)) old
    → r ≡ made_of a.number (LinesRefused a.number a.place) a.written → Makes (written_body lines old) r new
unfolding written_body
write-makes lines old new a r e l q = (q ∙ ap (λ (b : Written). made_of b.number (LinesRefused b.number b.place) b.written) e, l)

-- ==== words

module _ (number : ℕ) (refusal : Ending) (text old : List ℕ) where
  pub refusal-makes : (number ≡ 0 → ⊥) → Makes (worded number refusal text old) (record { ending = refusal; written = 0 }) old
  refusal-makes h =
      let w = sym (worded-refused number refusal text old h) in (ap (λ (o : Output). o.made) w, ap (λ (o : Output). o.left) w)

  -- words that are no longer than a machine number can tell
  pub words-make : number ≡ 0 → length text < cap → (new : List ℕ) (n : ℕ) (r : Made) → Clipped old 0 text new n → r ≡ said_of n (length new)
      → Makes (worded number refusal text old) r new
  words-make z h new n r w q =
      let e : n ≡ length text = omega (arith, w.place, h) in
      let s : r ≡ said_of (length text) (length old) = q ∙ (ap (λ (k : ℕ). said_of k (length new)) e ∙ ap (said_of (length text)) (clipped-long w)) in
      let d = sym (worded-said number refusal text old z) in
      (s ∙ ap (λ (o : Output). o.made) d, w.bytes ∙ (stored-front old text ∙ ap (λ (o : Output). o.left) d))

-- ==== the lines of a report, in words

module _ (block list : List ℕ) (n : ℕ) (q : 229377 ≡ n) (b : BlockReported) (e : b ≡ reported.answer_of (block_report Identified block list n)) where
  told : b ≡ reported.answer_of (block_report Identified block list 229377)
  told = e ∙ ap (λ (k : ℕ). reported.answer_of (block_report Identified block list k)) (sym q)

  number-told : b.number ≡ (block_report Identified block list 229377).number
  number-told = ap (λ (x : BlockReported). x.number) told

  pub explain-refused : (old : List ℕ) → (b.number ≡ 0 → ⊥)
      → Makes (explained_block block list old) (record { ending = Refused b.number b.place; written = 0 }) old
  unfolding explained_block
  explain-refused old h =
      let a = block_report Identified block list 229377 in
      let w = refusal-makes a.number (Refused a.number a.place) (explained a.written) old (λ z. h (number-told ∙ z)) in
      (ap (λ (x : BlockReported). record { ending = Refused x.number x.place; written = 0 }) told ∙ w.0, w.1)

  -- what was stored is what was reported
  stored : (first lines : List ℕ) → lines ≡ reported.leaves (block_report Identified block list n) first
      → span lines 0 b.written ≡ (block_report Identified block list 229377).written
  stored first lines l =
      let a = block_report Identified block list n in
      let z : b.written - 0 ≡ length a.written = let f = ap (λ (y : BlockReported). y.written) e in omega (arith, f) in
      let s : span lines 0 b.written ≡ a.written = rw (z, l) (take-append_seam a.written (drop (length a.written) first)) in
      s ∙ ap (λ (k : ℕ). (block_report Identified block list k).written) (sym q)

  -- what is said of a report is no longer than the command's buffer for it
  short : b.number ≡ 0 → length (explained (block_report Identified block list 229377).written) < cap
  short h =
      let w = report-laws.zero-when Identified block list 229377 (sym number-told ∙ h) in
      let f = ap (λ (y : Answer). length (explained y.written)) (report-laws.when-zero Identified block list 229377 w.0 w.1) in
      omega (arith, explained-fits block list w.0, f)

  pub explain-makes : (first lines : List ℕ) → lines ≡ reported.leaves (block_report Identified block list n) first → b.number ≡ 0
      → (part old new : List ℕ) (m : ℕ) (r : Made) → part ≡ span lines 0 b.written → Clipped old 0 (explained part) new m → r ≡ said_of m (length new)
      → Makes (explained_block block list old) r new
  unfolding explained_block
  explain-makes first lines l h part old new m r p w o =
      let a = block_report Identified block list 229377 in
      let v : Clipped old 0 (explained a.written) new m = subst (λ (t : List ℕ). Clipped old 0 (explained t) new m) (p ∙ stored first lines l) w in
      words-make a.number (Refused a.number a.place) (explained a.written) old (sym number-told ∙ h) (short h) new m r v o

-- ==== our own list

-- the number and the place of a list, by what a check tells of it
list-number : (list : List ℕ) → number_of (checked_of (own_list list)) ≡ (own_list list).number
list-number list = go (own_list list).number refl
  where
    go : (n : ℕ) → (own_list list).number ≡ n → number_of (checked_of (own_list list)) ≡ (own_list list).number
    go zero e = rw e
    go (suc n) e = let f : (own_list list).number ≡ 5 = e ∙ list-five list n e in rw f

bad-place : (list : List ℕ) (n : ℕ) → (own_list list).number ≡ suc n → place_of (checked_of (own_list list)) ≡ (own_list list).place
bad-place list n e = rw e

module _ (list old : List ℕ) (d : Checked) (e : d ≡ checked_of (own_list list)) where
  pub check-refused : (p : ℕ) → d ≡ Bad p → Makes (checked_list list old) (record { ending = Refused 5 p; written = 0 }) old
  unfolding checked_list
  check-refused p b =
      let c : checked_of (own_list list) ≡ Bad p = sym e ∙ b in
      let five : (own_list list).number ≡ 5 = sym (list-number list) ∙ ap number_of c in
      let place : p ≡ (own_list list).place = sym (ap place_of c) ∙ bad-place list 4 five in
      let w = refusal-makes (own_list list).number (Refused (own_list list).number (own_list list).place) (check_text list) old (λ z. omega (arith, z, five)) in
      (ap (λ (k : ℕ). record { ending = Refused k p; written = 0 }) (sym five) ∙ (ap (λ (k : ℕ). record { ending = Refused (own_list list).number k; written = 0 }) place ∙ w.0), w.1)

  -- the lines that were spelled are how the entries are compared
  pub check-makes : d ≡ Good → (first own : List ℕ) (n : ℕ) → 65344 ≡ length first → Put first 0 (spelled_list (own_list list).items) own n
      → (part new : List ℕ) (m : ℕ) (r : Made) → part ≡ span own 0 n → Clipped old 0 (lines_from Compared 0 (lines_of part) ++ notices list) new m
      → r ≡ said_of m (length new) → Makes (checked_list list old) r new
  unfolding checked_list check_text
  check-makes g first own n k w part new m r p c o =
      let zero' : (own_list list).number ≡ 0 = sym (list-number list) ∙ ap number_of (sym e ∙ g) in
      let z : n - 0 ≡ n = omega arith in
      let f : span own 0 n ≡ spelled_list (own_list list).items = rw z (put_front w (omega (arith, w.count, list_length list))) in
      let s : lines_of part ≡ map spelling (own_list list).items = ap lines_of (p ∙ f) ∙ list-lines list in
      let v : Clipped old 0 (check_text list) new m = subst (λ (ls : List (List ℕ)). Clipped old 0 (lines_from Compared 0 ls ++ notices list) new m) s c in
      words-make (own_list list).number (Refused (own_list list).number (own_list list).place) (check_text list) old zero' (omega (arith, check-fits list zero')) new m r v o

-- ==== a chain

module _ (number place sets : ℕ) where
  pub refused-verdicts : number ≡ 10 → VerdictsRefused sets ≡ verdicts_refusal number place sets
  refused-verdicts e = rw (eq-eqb number 10 e)

  pub refused-so : (number ≡ 10 → ⊥) → Refused number place ≡ verdicts_refusal number place sets
  refused-so e = rw (ne_eqb number 10 e)

module _ (block digits old vs : List ℕ) (v : vs ≡ map verdict_of digits) (j : Judged) (e : j ≡ judged.answer_of (judge block vs)) where
  is-judged : j ≡ judged.answer_of (judge block (map verdict_of digits))
  is-judged = e ∙ ap (λ (w : List ℕ). judged.answer_of (judge block w)) v

  number-judged : j.number ≡ (judge block (map verdict_of digits)).number
  number-judged = ap (λ (x : Judged). x.number) is-judged

  pub judge-refused : (j.number ≡ 0 → ⊥) → (sets : ℕ) → sets ≡ sets_of block → (f : Ending) → f ≡ verdicts_refusal j.number j.place sets
      → Makes (judged_block block digits old) (record { ending = f; written = 0 }) old
  unfolding judged_block
  judge-refused h sets s f q =
      let a = judge block (map verdict_of digits) in
      let g : f ≡ verdicts_refusal a.number a.place (sets_of block) =
      q ∙ (ap (verdicts_refusal j.number j.place) s ∙ ap (λ (x : Judged). verdicts_refusal x.number x.place (sets_of block)) is-judged) in
      let w = refusal-makes a.number (verdicts_refusal a.number a.place (sets_of block)) (judgement (judged.answer_of a)) old (λ z. h (number-judged ∙ z)) in
      (ap (λ (x : Ending). record { ending = x; written = 0 }) g ∙ w.0, w.1)

  pub judge-makes : j.number ≡ 0 → (new : List ℕ) (n : ℕ) (r : Made) → Clipped old 0 (judgement j) new n → r ≡ said_of n (length new)
      → Makes (judged_block block digits old) r new
  unfolding judged_block
  judge-makes z new n r w o =
      let a = judge block (map verdict_of digits) in
      let u : Clipped old 0 (judgement (judged.answer_of a)) new n = subst (λ (x : Judged). Clipped old 0 (judgement x) new n) is-judged w in
      words-make a.number (verdicts_refusal a.number a.place (sets_of block)) (judgement (judged.answer_of a)) old (sym number-judged ∙ z)
      (omega (arith, judgement-fits block (map verdict_of digits))) new n r u o
