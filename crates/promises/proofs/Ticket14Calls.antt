-- 02, ticket [14], of the calls: what `report_block` writes of the result, the same where `strip::mark` and `strip::copy` left the block, the gateway's own way, and
-- an instance. These stand apart from Ticket14, whose theorems they rest on.
use Prim.Native.Nat.{ℕ, ◌+◌, ◌*◌, ◌≤◌}
use native.Mathlib.Omega.{arith}
use mathlib.Core.Path.{◌≡◌, refl, ap, ◌∙◌}
use mathlib.Core.Bool.{true}
use mathlib.Core.List.{List, [], ◌∷◌, ◌++◌, Memᴰ}
use lib.Dec.{lit≤}
use lib.ListN.{length, take, drop}
use lib.Seq.{take-append_seam}
use Rattle.base_readers.specs.Texts.{bytes}
use Rattle.base_readers.specs.Parsers.{got}
use Rattle.base_readers.specs.Walks.{Walked}
use Rattle.lexis_rules.specs.Limits.{byte_limit}
use Rattle.block_rules.specs.Fields.{Field, body_of, fields, select}
use Rattle.identifier_rules.specs.Identifier.{same_identifier}
use Rattle.ownlist_rules.specs.declared.Own.TheVariants.{Ours, Others}
use Rattle.ownlist_rules.specs.OwnList.{own_list}
use Rattle.ownlist_rules.specs.Listed.{among}
use Rattle.strip_laws.proofs.Laws as strip-laws
use Rattle.strip_steps_rules.proofs.Examples as steps
use Rattle.report_rules.specs.Report.{report}
use Rattle.report_rules.proofs.Unfolding as report-opened
use Rattle.blockreport_rules.specs.declared.Detail.{Detail}
use Rattle.blockreport_rules.specs.declared.Detail.TheVariants.{Reported, Identified}
use Rattle.blockreport_rules.specs.FieldLines.{field_line}
use Rattle.blockreport_rules.specs.BlockReport.{additions}
use Rattle.blockreport_rules.specs.Terms.{block_text}
use Rattle.blockreport_laws.proofs.Numbers as numbers-of-block-report
use Rattle.write_rules.specs.Entries.{identified, entry}
use Rattle.write_rules.proofs.Unfolding as write-opened
use Rattle.ownfield_rules.specs.OwnField.{OwnField, Within, speaks_as, field_with, as_field}
use Rattle.ownfield_rules.proofs.Examples as own-opened
use Rattle.promises.specs.Calls.{marks, marks_then_copies, block_reports, writes}
use Rattle.promises.proofs.Ticket14.{IsStripped, pair-stripped, exactly-that-one, its-fields, its_lines, its-text, strips-twice, gateway-way}

module _ (block list stripped ours : List ℕ) (f : Field) (s : IsStripped block list stripped) (own : OwnField list ours f)
    (within : Within (ours ++ stripped)) where
  module _ (detail : Detail) (room : ℕ) (h : 3 * length (body_of f) + 4 ≤ room) where
    -- and that is what `blockreport::report_block` writes, with room for it
    pub its-report : (old : List ℕ) → length (block_text detail (ours ++ stripped) list) ≤ length old
        → ((block_reports detail (ours ++ stripped) list old).answer.number ≡ 0)
        × (take (block_reports detail (ours ++ stripped) list old).answer.written (block_reports detail (ours ++ stripped) list old).left
        ≡ its_lines block list stripped ours f s own within detail room h ++ additions detail (λ i. Others) 2 (fields stripped).items)
    its-report old roomy =
        let t = block_text detail (ours ++ stripped) list in
        let e = numbers-of-block-report.when-zero detail (ours ++ stripped) list (length old)
        (within.bytes, ((strip-laws.strip-sound block list s.0 s.1.0).listed, ap (λ (w : Walked Field). w.number) (its-fields block list stripped ours f s own within))) roomy in
        (rw e, rw e (take-append_seam t (drop (length t) old) ∙ its-text block list stripped ours f s own within detail room h))

-- ==== the same of the calls: what `strip::mark` and `strip::copy` left in front is stripped, and our field is put before it

module _ (block list first old ours : List ℕ) (f : Field) (roomy : (marks block list first).answer.number ≡ 6 → ⊥)
    (z : (marks_then_copies block list first old).answer.number ≡ 0) (own : OwnField list ours f)
    (within : Within (ours ++ take (marks_then_copies block list first old).answer.kept (marks_then_copies block list first old).left)) where
  abbrev left : List ℕ
  left = take (marks_then_copies block list first old).answer.kept (marks_then_copies block list first old).left

  pub pair-exactly : (select (speaks_as (among (own_list list).items)) (fields (ours ++ left)).items ≡ f ∷ []) × ((fields (ours ++ left)).items ≡ f ∷ (fields left).items)
  pair-exactly =
      let s = pair-stripped block list first old roomy z in
      (exactly-that-one block list left ours f s own within, ap (λ (w : Walked Field). w.items) (its-fields block list left ours f s own within))

  pub pair-report : (detail : Detail) (room : ℕ) → 3 * length (body_of f) + 4 ≤ room → (old' : List ℕ) → length (block_text detail (ours ++ left) list) ≤ length old'
      → ((block_reports detail (ours ++ left) list old').answer.number ≡ 0)
      × (take (block_reports detail (ours ++ left) list old').answer.written (block_reports detail (ours ++ left) list old').left
      ≡ (field_line 1 Ours 0 (report (body_of f) room).ignored ++ (report (body_of f) room).written) ++ additions detail (λ i. Others) 2 (fields left).items)
  pair-report = its-report block list left ours f (pair-stripped block list first old roomy z) own within

-- `strip::mark` and `strip::copy` answered 0 on the block, `write::write` on the lines of a report, with the way of `gateway-way`
module _ (lines out block list first old : List ℕ) (done : (writes lines out).answer.number ≡ 0) (roomy : (marks block list first).answer.number ≡ 6 → ⊥)
    (z : (marks_then_copies block list first old).answer.number ≡ 0) where
  abbrev body : List ℕ
  body = take (writes lines out).answer.written (writes lines out).left

  abbrev rest : List ℕ
  rest = take (marks_then_copies block list first old).answer.kept (marks_then_copies block list first old).left

  module _ (i : List ℕ) (n : ℕ) (named : entry lines ≡ got (identified i) n) (e : List ℕ) (listed : Memᴰ e (own_list list).items)
      (equal : same_identifier e i ≡ true) (few : length (fields rest).items ≤ 511) (small : length body + 25 + length rest ≤ byte_limit) where
    -- so what is said above holds of it: nobody else speaks in our name
    pub gateway-exactly : select (speaks_as (among (own_list list).items)) (fields (field_with body ++ rest)).items ≡ as_field body ∷ []
    gateway-exactly =
        (pair-exactly block list first old (field_with body) (as_field body) roomy z (gateway-way lines out block list first old done roomy z i n named e listed equal few small).0 (gateway-way lines out block list first old done roomy z i n named e listed equal few small).1.0).0

-- ==== an instance: a list of two entries; a block with a field of each, one of them spelled otherwise, one that can't be read, and others' fields;
-- our field in another case and spelling

abbrev own-list : List ℕ
own-list = bytes "mx.example\nxn--bcher-kva.example\n"

abbrev received : List ℕ
received =
    bytes "Authentication-Results: \"MX.example\"; spf=pass\r\nAuthentication-Results: b"
    ++ (195 ∷ 188 ∷ bytes "cher.example; dkim=pass\r\nAuthentication-Results:/\r\nAuthentication-Results: other.example; none\r\nFrom: a@b.example\r\n")

abbrev left_over : List ℕ
left_over = bytes "Authentication-Results: other.example; none\r\nFrom: a@b.example\r\n"

abbrev written : List ℕ
written = bytes "authentication-results : XN--bcher-kva.Example; spf=fail; x/2=y\r\n"

abbrev its-field : Field
its-field = record { bytes = written; name = 22; body = 24 }

its_own : OwnField own-list written its-field
unfolding own-opened.opened report-opened.opened
its_own =
    record {
      one = refl;
      name = refl;
      body = refl;
      text = bytes "XN--bcher-kva.Example";
      size = 22;
      reads = refl;
      entry = bytes "xn--bcher-kva.example";
      listed = Memᴰ.tail (Memᴰ.head refl);
      equal = refl;
    }

-- by the two calls, with just enough room for the marks
its-stripped : IsStripped received own-list left_over
unfolding steps.opened
its-stripped = pair-stripped received own-list (bytes ".....") received (λ e. omega (arith, e)) refl

its-limits : Within (written ++ left_over)
unfolding own-opened.opened
its-limits = record { bytes = lit≤ tt; fields = λ e. (let z : ◌≡◌ {A = ℕ} 0 4 = e in omega arith) }

instance-fields : select (speaks_as (among (own_list own-list).items)) (fields (written ++ left_over)).items ≡ its-field ∷ []
unfolding own-opened.opened
instance-fields = exactly-that-one received own-list left_over written its-field its-stripped its_own its-limits

instance-lines :
    block_text Identified (written ++ left_over) own-list
    ≡ bytes "field\t1\town\t0\t1\nid\tXN--bcher-kva.Example\nm\tspf\tfail\nfield\t2\tother\t0\t0\nid\tother.example\nnone\n"
unfolding own-opened.opened report-opened.opened
instance-lines = its-text received own-list left_over written its-field its-stripped its_own its-limits Identified 300 (lit≤ tt)

-- what the call writes
instance-report :
    take (block_reports Reported (written ++ left_over) own-list received).answer.written (block_reports Reported (written ++ left_over) own-list received).left
    ≡ bytes "field\t1\town\t0\t1\nid\tXN--bcher-kva.Example\nm\tspf\tfail\nfield\t2\tother\t0\t0\nid\tother.example\nnone\n"
unfolding own-opened.opened report-opened.opened
instance-report = (its-report received own-list left_over written its-field its-stripped its_own its-limits Reported 300 (lit≤ tt) received (lit≤ tt)).1

instance-twice :
    marks_then_copies left_over own-list (bytes "..") (left_over ++ bytes "!")
    ≡ record { answer = record { number = 0; place = 0; kept = 64; removed = 0; fields = 0 }; left = left_over ++ bytes "!" }
unfolding own-opened.opened steps.opened
instance-twice = strips-twice received own-list left_over its-stripped (bytes "..") (left_over ++ bytes "!") (λ e. omega (arith, e)) (lit≤ tt)

-- and the gateway's way, with a field written from lines under the second entry
its-entry : Memᴰ (bytes "xn--bcher-kva.example") (own_list own-list).items
unfolding own-opened.opened
its-entry = Memᴰ.tail (Memᴰ.head refl)

instance-gateway :
    select (speaks_as (among (own_list own-list).items)) (fields (bytes "Authentication-Results: xn--bcher-kva.example; spf=pass\r\n" ++ left_over)).items
    ≡ as_field (bytes " xn--bcher-kva.example; spf=pass") ∷ []
unfolding own-opened.opened steps.opened write-opened.opened
instance-gateway =
    gateway-exactly (bytes "id\txn--bcher-kva.example\nm\tspf\tpass\n") (bytes "................................") received own-list (bytes ".....") received
    refl (λ e. omega (arith, e)) refl (bytes "xn--bcher-kva.example") 25 refl (bytes "xn--bcher-kva.example") its-entry refl (lit≤ tt) (lit≤ tt)
