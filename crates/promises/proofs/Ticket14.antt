-- 02, ticket [14], "Nobody speaks in our name": a stripped block with one field of ours in front. Each theorem stands under the sentence that it
-- proves; what the calls write and an instance are in Ticket14Calls. Identifiers are equal by ticket [2] (`same_identifier`). What is supposed, and nothing else:
--   the block isn't refused, and stripping it by the list gives these bytes: `IsStripped`, below
--   our field is one well-formed Authentication-Results field that has an identifier from the list: `OwnField`, in ownfield_rules
--   the result is within 01's limits, 65,536 bytes and 512 fields: `Within`, in ownfield_rules
use Prim.Native.Nat.{ℕ, suc, ◌+◌, ◌*◌, ◌≤◌}
use mathlib.Core.Path.{◌≡◌, sym, ap, ◌∙◌}
use mathlib.Core.Bool.{true}
use mathlib.Core.List.{List, [], ◌∷◌, ◌++◌, Memᴰ}
use lib.ListN.{length, take, drop}
use lib.Seq.{take-append_seam}
use Rattle.base_readers.specs.Texts.{bytes}
use Rattle.base_readers.specs.Parsers.{got}
use Rattle.base_readers.specs.Walks.{Walked}
use Rattle.lexis_rules.specs.Limits.{byte_limit}
use Rattle.text_decimals_rules.specs.Decimals.{decimal}
use Rattle.block_rules.specs.Fields.{Field, name_of, body_of, fields, bytes_of, select}
use Rattle.block_laws.proofs.Fields as field_laws
use Rattle.identifier_rules.specs.Identifier.{same_identifier}
use Rattle.ownlist_rules.specs.declared.Own.TheVariants.{Ours, Others}
use Rattle.ownlist_rules.specs.OwnList.{own_list}
use Rattle.ownlist_rules.specs.Listed.{among, own_of}
use Rattle.strip_rules.specs.Strip.{Answer, strip}
use Rattle.strip_rules.specs.Terms.{kept_fields}
use Rattle.strip_rules.specs.ByFields.{Kept}
use Rattle.strip_laws.proofs.Laws as strip-laws
use Rattle.strip_laws.proofs.ByFields as kept_laws
use Rattle.strip_laws.proofs.StripTheorems as strip-theorems
use Rattle.report_rules.specs.Report.{report}
use Rattle.blockreport_rules.specs.declared.Detail.{Detail}
use Rattle.blockreport_rules.specs.declared.Detail.TheVariants.{Reported}
use Rattle.blockreport_rules.specs.FieldLines.{field_line}
use Rattle.blockreport_rules.specs.BlockReport.{addition, additions}
use Rattle.blockreport_rules.specs.Terms.{block_text}
use Rattle.write_rules.specs.Entries.{identified, entry}
use Rattle.write_rules.specs.Compose.{compose}
use Rattle.write_rules.specs.Promise.{says_lines}
use Rattle.ownfield_rules.specs.OwnField.{OwnField, Within, speaks_as, is_ours, additions_under, field_with, as_field}
use Rattle.ownfield_laws.proofs.OwnFieldFirst as own-laws
use Rattle.ownfield_laws.proofs.EachPlace as place-laws
use Rattle.ownfield_laws.proofs.WrittenIsOurs as written-laws
use Rattle.ownfield_laws.proofs.WrittenLimits as written-limits
use Rattle.promises.specs.Exactly.{Exactly}
use Rattle.promises.specs.Calls.{marks, marks_then_copies, writes}
use Rattle.promises.proofs.StrippedBlocks as facts
use Rattle.promises.proofs.Ticket7.{calls-strip, kept-is}

-- ==== Take any block that isn't refused, strip it

-- stripping the block by the list answers 0 and writes these bytes (01's stripping, with some room)
abbrev pub IsStripped : List ℕ → List ℕ → List ℕ → Type 0
IsStripped block list stripped = (room : ℕ) × (((strip block list room).number ≡ 0) × ((strip block list room).written ≡ stripped))

-- by the calls (ticket [7]): where `strip::mark` has room for its bytes and the pair answers 0, what it leaves in front is such a block, so that
-- all that is said here holds of the pair
pub pair-stripped : (block list first old : List ℕ) → ((marks block list first).answer.number ≡ 6 → ⊥) → (marks_then_copies block list first old).answer.number ≡ 0
    → IsStripped block list (take (marks_then_copies block list first old).answer.kept (marks_then_copies block list first old).left)
pair-stripped block list first old roomy z =
    (length old, (rw (calls-strip block list first old roomy) at z, sym (kept-is block list first old roomy z)))

module _ (block list stripped ours : List ℕ) (f : Field) (s : IsStripped block list stripped) (own : OwnField list ours f)
    (within : Within (ours ++ stripped)) where
  -- ==== then the Authentication-Results fields in it whose identifier is on the list are exactly that one

  pub exactly-that-one : select (speaks_as (among (own_list list).items)) (fields (ours ++ stripped)).items ≡ f ∷ []
  exactly-that-one = own-laws.own-only block list ours stripped f own (facts.fielded block list stripped ours f s.0 s.1.0 s.1.1 own within) (facts.is block list stripped ours f s.0 s.1.0 s.1.1 own within) within

  -- by place: a field g of it, with the fields xs before it, is one of them exactly when there are none before it; and that is f
  pub exactly-first : (xs : List Field) (g : Field) (ys : List Field) → (fields (ours ++ stripped)).items ≡ xs ++ (g ∷ ys)
      → Exactly (speaks_as (among (own_list list).items) g ≡ true) ((xs ≡ []) × (g ≡ f))
  exactly-first xs g ys at = (
    place-laws.speaks-first block list ours stripped f own (facts.fielded block list stripped ours f s.0 s.1.0 s.1.1 own within) (facts.is block list stripped ours f s.0 s.1.0 s.1.1 own within) within xs g ys at,
    λ w. rw w.1 (own-laws.own-speaks list ours f own),
  )

  -- that one is there, first, and of the stripped block nothing is lost: the result isn't refused, and its fields are f and then those of the
  -- stripped block, byte for byte and in order
  pub its-fields : fields (ours ++ stripped) ≡ record { items = f ∷ (fields stripped).items; number = 0; place = 0 }
  its-fields = rw (facts.kept block list stripped ours f s.0 s.1.0 s.1.1 own within) (own-laws.own-fields block list ours stripped f own (facts.fielded block list stripped ours f s.0 s.1.0 s.1.1 own within) (facts.is block list stripped ours f s.0 s.1.0 s.1.1 own within) within)

  -- which are all fields of the block, in order, but those that demand 2 removes: fields of another name and those of another's identifier stay
  pub others-stay : (bytes_of (fields block).items ≡ block) × Kept (own_list list).items (fields block).items (fields stripped).items
  others-stay = ((field_laws.fields-fine block (facts.fielded block list stripped ours f s.0 s.1.0 s.1.1 own within)).bytes, rw (facts.kept block list stripped ours f s.0 s.1.0 s.1.1 own within) (kept_laws.kept-fields (own_list list).items (fields block).items))

  -- ==== and every report line under such an identifier comes from it

  -- the body of f by itself is answered with 0
  pub its-body : (room : ℕ) → 3 * length (body_of f) + 4 ≤ room → (report (body_of f) room).number ≡ 0
  its-body room h = (own-laws.own-report list ours f own (facts.short block list stripped ours f s.0 s.1.0 s.1.1 own within) Reported room h).0

  -- in both details, with any room that is enough for a report of that body
  module _ (detail : Detail) (room : ℕ) (h : 3 * length (body_of f) + 4 ≤ room) where
    -- the line of the first field, with the word `own`, 0 and how many results are ignored; and then the report of its body
    abbrev pub its_lines : List ℕ
    its_lines = field_line 1 Ours 0 (report (body_of f) room).ignored ++ (report (body_of f) room).written

    -- of the report of the whole block, what is told of fields under an identifier of the list
    pub its-lines : additions_under is_ours detail (own_of (own_list list).items) 1 (fields (ours ++ stripped)).items ≡ its_lines
    its-lines = own-laws.own-reported block list ours stripped f own (facts.fielded block list stripped ours f s.0 s.1.0 s.1.1 own within) (facts.is block list stripped ours f s.0 s.1.0 s.1.1 own within) within detail ∙ facts.lines_are block list stripped ours f s.0 s.1.0 s.1.1 own within detail room h

    -- the whole of it: these lines, and then those of the stripped block's fields, each with the word `other`
    pub its-text : block_text detail (ours ++ stripped) list ≡ its_lines ++ additions detail (λ i. Others) 2 (fields stripped).items
    its-text = rw (facts.kept block list stripped ours f s.0 s.1.0 s.1.1 own within, ← facts.lines_are block list stripped ours f s.0 s.1.0 s.1.1 own within detail room h) (own-laws.own-text block list ours stripped f own (facts.fielded block list stripped ours f s.0 s.1.0 s.1.1 own within) (facts.is block list stripped ours f s.0 s.1.0 s.1.1 own within) within detail)

  -- by place: the report is one group of lines for each field, and a group that starts with `field`, its number and `own` is that of f
  pub headed-own : (detail : Detail) (xs : List Field) (g : Field) (ys : List Field) → (fields (ours ++ stripped)).items ≡ xs ++ (g ∷ ys)
      → (block_text detail (ours ++ stripped) list
      ≡ additions detail (own_of (own_list list).items) 1 xs
      ++ (addition detail (own_of (own_list list).items) (1 + length xs) (name_of g) (body_of g)
      ++ additions detail (own_of (own_list list).items) (suc (1 + length xs)) ys))
      × ((rest : List ℕ)
      → addition detail (own_of (own_list list).items) (1 + length xs) (name_of g) (body_of g)
      ≡ bytes "field\t" ++ (decimal (1 + length xs) ++ (bytes "\town\t" ++ rest)) → (xs ≡ []) × (g ≡ f))
  headed-own detail xs g ys at = (
    rw at (place-laws.additions-at detail (own_of (own_list list).items) 1 xs g ys),
    λ rest. place-laws.heads-first block list ours stripped f own (facts.fielded block list stripped ours f s.0 s.1.0 s.1.1 own within) (facts.is block list stripped ours f s.0 s.1.0 s.1.1 own within) within xs g ys at detail (1 + length xs) rest,
  )

-- ==== Stripping the stripped block with the same list, and room for it, gives the same bytes and removes nothing

-- by the two calls, and of every byte of the lent buffer
pub strips-twice : (block list stripped : List ℕ) → IsStripped block list stripped → (first old : List ℕ) → ((marks stripped list first).answer.number ≡ 6 → ⊥)
    → length stripped ≤ length old
    → marks_then_copies stripped list first old
    ≡ record { answer = record { number = 0; place = 0; kept = length stripped; removed = 0; fields = 0 }; left = stripped ++ drop (length stripped) old }
strips-twice block list stripped s first old roomy h =
    let e = (strip-laws.strip-sound block list s.0 s.1.0).is in
    let is : stripped ≡ bytes_of (kept_fields block list) = sym s.1.1 ∙ ap (λ (a : Answer). a.written) e in
    let b = bytes_of (kept_fields block list) in
    let t : strip b list (length old) ≡ record { number = 0; place = 0; kept = length b; removed = 0; fields = 0; written = b } =
    rw e at (strip-theorems.strip-twice block list s.0 s.1.0 (length old) (rw (e, ← is) h)) in
    calls-strip stripped list first old roomy ∙ rw (is, t)

-- ==== the gateway's own way meets what is supposed: strip, write (ticket [1]), put in front

-- `strip::mark` and `strip::copy` answered 0 on the block, `write::write` on the lines of a report
module _ (lines out block list first old : List ℕ) (done : (writes lines out).answer.number ≡ 0) (roomy : (marks block list first).answer.number ≡ 6 → ⊥)
    (z : (marks_then_copies block list first old).answer.number ≡ 0) where
  -- the body that was written, and the block that was left
  abbrev body : List ℕ
  body = take (writes lines out).answer.written (writes lines out).left

  abbrev rest : List ℕ
  rest = take (marks_then_copies block list first old).answer.kept (marks_then_copies block list first old).left

  body_is : body ≡ (compose lines (length out)).written
  body_is = take-append_seam (compose lines (length out)).written (drop (length (compose lines (length out)).written) out)

  rest-is : rest ≡ (strip block list (length old)).written
  rest-is = kept-is block list first old roomy z

  stripped : (strip block list (length old)).number ≡ 0
  stripped = rw (calls-strip block list first old roomy) at z

  rest-fields : (fields rest).items ≡ kept_fields block list
  rest-fields =
      rw rest-is (ap (λ (w : Walked Field). w.items) (strip-theorems.strip-fields block list (length old) stripped))

  -- the result is within the limits exactly where the block that was left has at most 511 fields, and with the written field, which is the body and 25
  -- bytes, at most 65,536 bytes
  pub gateway-limits : Exactly (Within (field_with body ++ rest)) ((length (fields rest).items ≤ 511) × (length body + 25 + length rest ≤ byte_limit))
  gateway-limits = (
    λ w. (let v : Within (field_with (compose lines (length out)).written ++ (strip block list (length old)).written) = rw (body_is, rest-is) at w in (
      rw rest-fields (written-limits.within-fields lines block list (length out) (length old) done stripped v),
      rw (body_is, rest-is) (written-limits.within-bytes lines block list (length out) (length old) done stripped v),
    )),
    λ h. rw (body_is, rest-is) (written-laws.front-within lines block list (length out) (length old) done stripped (rw rest-fields at h.0) (rw (body_is, rest-is) at h.1)),
  )

  -- the identifier i of the lines' first line equals an entry e of the list; the block that was left has at most 511 fields, and with the written
  -- field, which is the body and 25 bytes, at most 65,536 bytes
  module _ (i : List ℕ) (n : ℕ) (named : entry lines ≡ got (identified i) n) (e : List ℕ) (listed : Memᴰ e (own_list list).items)
      (equal : same_identifier e i ≡ true) (few : length (fields rest).items ≤ 511) (small : length body + 25 + length rest ≤ byte_limit) where
    -- then the field is one of ours, the result is within the limits, and the field's report is the lines that were handed to `write`
    pub gateway-way : OwnField list (field_with body) (as_field body)
        × (Within (field_with body ++ rest) × ((room : ℕ) → length lines ≤ room → report (body_of (as_field body)) room ≡ says_lines lines))
    gateway-way =
        let w = written-laws.gateway-way lines block list (length out) (length old) done stripped i n named e listed equal (rw rest-fields at few)
        (rw (body_is, rest-is) at small) in
        rw (body_is, rest-is) (w.0, (w.1, w.2))
