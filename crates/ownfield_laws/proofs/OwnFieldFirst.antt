-- A block of the kept fields of another one, with one field of ours in front: its fields are that one and the kept ones, and of these none speaks
-- under an identifier of the list. So with what is reported of it.
use Prim.Native.Nat.{ℕ, suc, ◌+◌, ◌*◌, ◌≤◌, zero-le}
use native.Mathlib.Omega.{arith}
use mathlib.Core.Path.{◌≡◌, refl, sym, ap, ◌∙◌}
use mathlib.Core.Bool.{Bool, true, false, not}
use mathlib.Core.List.{List, [], ◌∷◌, ◌++◌, append-nil, Memᴰ}
use borrow.Author.Tests.{ltb-true, ltb-false}
use lib.Dec.{ltb}
use lib.ListN.{length, length-append}
use Rattle.base_sequences.proofs.Booleans.{no_true}
use Rattle.base_readers.specs.Walks.{Walked}
use Rattle.lexis_rules.specs.Limits.{byte_limit}
use Rattle.block_rules.specs.Fields.{Field, name_of, body_of, named, field_limit, fields, bytes_of, select}
use Rattle.block_rules.specs.Sound.{Sound, AllSound, more}
use Rattle.block_laws.proofs.Fields.{fields-fine, walk-back, select_yes, select-sound}
use Rattle.identifier_rules.specs.Identifier.{identifier}
use Rattle.ownlist_rules.specs.declared.Own.TheVariants.{Ours, Others}
use Rattle.ownlist_rules.specs.OwnList.{own_list}
use Rattle.ownlist_rules.specs.Listed.{among, own_of}
use Rattle.strip_rules.specs.Strip.{ours_or_unreadable, is_removed}
use Rattle.strip_rules.specs.Terms.{kept_fields}
use Rattle.strip_rules.specs.ByFields.{ours}
use Rattle.strip_laws.proofs.ByFields.{removed-goes}
use Rattle.report_rules.specs.Body.{Reading, unreadable, malformed, newer, no_result, results, reading}
use Rattle.report_rules.specs.ByCase.{number_of, text_of, count_of}
use Rattle.report_rules.specs.Report.{report}
use Rattle.report_laws.proofs.Numbers.{when-told}
use Rattle.report_laws.proofs.Rooms.{text-size}
use Rattle.blockreport_rules.specs.declared.Detail.{Detail}
use Rattle.blockreport_rules.specs.declared.Detail.TheVariants.{Reported, Identified}
use Rattle.blockreport_rules.specs.FieldLines.{field_line}
use Rattle.blockreport_rules.specs.BlockReport.{detail_line, body_lines, addition, additions}
use Rattle.blockreport_rules.specs.Terms.{block_text}
use Rattle.blockreport_laws.proofs.Rooms.{body-size}
use Rattle.ownfield_rules.specs.OwnField.{OwnField, Within, speaks_as, is_ours, additions_under}
use Rattle.ownfield_laws.proofs.TooManyFields.{walk-over}
use Rattle.ownfield_laws.proofs.KeptSilent.{kept-stays, all-silent, all-additions, all-unreported}

first : {f : Field} {fs : List Field} → AllSound (f ∷ fs) → Sound f
first (more s a) = s

-- ==== a field of ours by itself

module _ (list field : List ℕ) (f : Field) (own : OwnField list field f) where
  own-sound : AllSound (f ∷ [])
  own-sound = rw own.one at (fields-fine field (ap (λ (w : Walked Field). w.number) own.one)).sound

  own-bytes : f.bytes ≡ field
  unfolding bytes_of
  own-bytes =
      let b : f.bytes ++ [] ≡ field = rw own.one at (fields-fine field (ap (λ (w : Walked Field). w.number) own.one)).bytes in
      sym (append-nil f.bytes) ∙ b

  listed : among (own_list list).items own.text ≡ true
  unfolding is_removed ours_or_unreadable named
  listed =
      let r : is_removed (among (own_list list).items) f ≡ true =
      removed-goes (own_list list).items f
      (record { name = own.name; identifier = ours own.text own.size own.entry own.reads own.listed own.equal }) in
      rw (is_removed, own.name, ours_or_unreadable, own.reads) at r

  pub own-speaks : speaks_as (among (own_list list).items) f ≡ true
  unfolding speaks_as named
  own-speaks = rw (speaks_as, own.name, own.reads, listed)

  pub own-ours : own_of (own_list list).items (identifier (body_of f)) ≡ Ours
  own-ours = rw (own.reads, listed)

  -- its body answers 0
  pub own-zero : number_of (reading (body_of f)) ≡ 0
  own-zero = go (reading (body_of f)) refl
    where
      go : (x : Reading) → reading (body_of f) ≡ x → number_of (reading (body_of f)) ≡ 0
      go unreadable q = absurd (no_true (rw q at own.body))
      go malformed q = absurd (no_true (rw q at own.body))
      go (newer h) q = absurd (no_true (rw q at own.body))
      go (no_result i) q = rw q
      go (results i rs) q = rw q

  own-lines : (detail : Detail) → body_lines detail 1 Ours (body_of f) ≡ field_line 1 Ours 0 (count_of (reading (body_of f))) ++ text_of (reading (body_of f))
  unfolding body_lines detail_line
  own-lines Reported = rw (own-zero, append-nil (text_of (reading (body_of f))))
  own-lines Identified = rw (own-zero, append-nil (text_of (reading (body_of f))))

  -- what is told of it, whatever the detail: its line, and then the report of its body
  pub own-report : length f.bytes ≤ byte_limit → (detail : Detail) (room : ℕ) → 3 * length (body_of f) + 4 ≤ room
      → ((report (body_of f) room).number ≡ 0)
      × (body_lines detail 1 Ours (body_of f) ≡ field_line 1 Ours 0 (report (body_of f) room).ignored ++ (report (body_of f) room).written)
  own-report small detail room h =
      let short : length (body_of f) ≤ byte_limit = omega (arith, small, body-size f) in
      let w = when-told (body_of f) room short (omega (arith, text-size (body_of f) short, h)) in
      (rw (w, own-zero), rw w (own-lines detail))

  pub own-addition : (detail : Detail) → addition detail (own_of (own_list list).items) 1 (name_of f) (body_of f) ≡ body_lines detail 1 Ours (body_of f)
  unfolding addition
  own-addition detail = rw (addition, own.name, own-ours)

-- ==== in front of the kept fields

module _ (block list field stripped : List ℕ) (f : Field) (own : OwnField list field f) (known : (fields block).number ≡ 0)
    (is : stripped ≡ bytes_of (kept_fields block list)) (within : Within (field ++ stripped)) where
  sound : AllSound (f ∷ kept_fields block list)
  sound =
      more (first (own-sound list field f own))
      (select-sound (λ g. not (is_removed (among (own_list list).items) g)) (fields-fine block known).sound)

  joined : bytes_of (f ∷ kept_fields block list) ≡ field ++ stripped
  unfolding bytes_of
  joined = rw (is, own-bytes list field f own)

  few : suc (length (kept_fields block list)) ≤ field_limit
  few = go (ltb field_limit (suc (length (kept_fields block list)))) refl
    where
      go : (t : Bool) → ltb field_limit (suc (length (kept_fields block list))) ≡ t → suc (length (kept_fields block list)) ≤ field_limit
      go true e = absurd (within.fields (rw joined at (walk-over 0 0 sound zero-le (omega (arith, ltb-true field_limit (suc (length (kept_fields block list))) e)))))
      go false e = ltb-false field_limit (suc (length (kept_fields block list))) e

  -- its fields are ours and the kept ones, and it is not refused
  pub own-fields : fields (field ++ stripped) ≡ record { items = f ∷ kept_fields block list; number = 0; place = 0 }
  own-fields = rw joined at (walk-back 0 0 sound (omega (arith, few)))

  items : (fields (field ++ stripped)).items ≡ f ∷ kept_fields block list
  items = ap (λ (w : Walked Field). w.items) own-fields

  stay : (g : Field) → Memᴰ g (kept_fields block list) → is_removed (among (own_list list).items) g ≡ false
  stay = kept-stays (own_list list).items (fields block).items

  -- those that speak under an identifier of the list are exactly that one
  pub own-only : select (speaks_as (among (own_list list).items)) (fields (field ++ stripped)).items ≡ f ∷ []
  own-only =
      rw (items, select_yes (speaks_as (among (own_list list).items)) f (kept_fields block list) (own-speaks list field f own))
      (ap (◌∷◌ f) (all-silent (own_list list).items (kept_fields block list) stay))

  -- what is reported under such an identifier is what is reported of it
  pub own-reported : (detail : Detail) → additions_under is_ours detail (own_of (own_list list).items) 1 (fields (field ++ stripped)).items ≡ body_lines detail 1 Ours (body_of f)
  unfolding additions_under
  own-reported detail =
      rw (items, additions_under, own-ours list field f own, own-addition list field f own detail, all-unreported (own_list list).items detail 2 (kept_fields block list) stay)
      (append-nil (body_lines detail 1 Ours (body_of f)))

  -- the whole report: what is reported of it, and then the kept fields as others'
  pub own-text : (detail : Detail) → block_text detail (field ++ stripped) list ≡ body_lines detail 1 Ours (body_of f) ++ additions detail (λ i. Others) 2 (kept_fields block list)
  unfolding additions
  own-text detail = rw (items, own-addition list field f own detail, all-additions (own_list list).items detail 2 (kept_fields block list) stay)

  -- ours is within the limit too
  pub own-short : length f.bytes ≤ byte_limit
  own-short = rw (own-bytes list field f own) (omega (arith, within.bytes, length-append field stripped))
