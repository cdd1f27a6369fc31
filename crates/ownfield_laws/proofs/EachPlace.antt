-- Our field in front of kept ones, said of each field by its place: one that has others before it speaks under no identifier of the list, and the
-- lines that are reported of it do not start as those of ours do.
use Prim.Native.Nat.{ℕ, suc, ◌+◌}
use native.Mathlib.Nat.{add-zero}
use native.Mathlib.Omega.{arith}
use mathlib.Core.Path.{◌≡◌, refl, sym, ap, ◌∙◌}
use mathlib.Core.Bool.{Bool, true, false}
use mathlib.Core.List.Memᴰ
use mathlib.Core.List.{List, [], ◌∷◌, ◌++◌, append_assoc, head-eq_of_cons-eq, tail-eq_of_cons-eq}
use mathlib.Core.Logic.{◌⊎◌, inl, inr, ⊎_elim}
use lib.ListN.{length, get_or, drop}
use lib.Seq.{drop-append_seam}
use Rattle.base_sequences.proofs.Booleans.{no_true}
use Rattle.base_readers.specs.Texts.{bytes}
use Rattle.base_readers.specs.Parsers.{Got}
use Rattle.base_readers.specs.Walks.{Walked}
use Rattle.lexis_rules.specs.Bytes.{alike}
use Rattle.text_decimals_rules.specs.Decimals.{decimal}
use Rattle.block_rules.specs.Fields.{Field, name_of, body_of, fields, bytes_of}
use Rattle.identifier_rules.specs.Identifier.{identifier}
use Rattle.ownlist_rules.specs.declared.Own.{Own}
use Rattle.ownlist_rules.specs.declared.Own.TheVariants.{Others}
use Rattle.ownlist_rules.specs.OwnList.{own_list}
use Rattle.ownlist_rules.specs.Listed.{among, own_of}
use Rattle.strip_rules.specs.Strip.{is_removed}
use Rattle.strip_rules.specs.Terms.{kept_fields}
use Rattle.report_rules.specs.Report.{line}
use Rattle.report_rules.specs.Body.{reading}
use Rattle.report_rules.specs.ByCase.{number_of, text_of, count_of}
use Rattle.blockreport_rules.specs.declared.Detail.{Detail}
use Rattle.blockreport_rules.specs.FieldLines.{word_of, field_line}
use Rattle.blockreport_rules.specs.BlockReport.{detail_line, body_lines, addition, additions}
use Rattle.ownfield_rules.specs.OwnField.{OwnField, Within, speaks_as}
use Rattle.ownfield_laws.proofs.KeptSilent.{kept-stays, stays-silent, stays-addition}
use Rattle.ownfield_laws.proofs.OwnFieldFirst.{own-fields}

-- ==== another's lines do not start as ours

-- the n-th field's line as ours: `field`, the number, `own`, and whatever follows
abbrev pub own_head : ℕ → List ℕ → List ℕ
own_head n rest = bytes "field\t" ++ (decimal n ++ (bytes "\town\t" ++ rest))

behind : (front xs ys : List ℕ) → front ++ xs ≡ front ++ ys → xs ≡ ys
behind front xs ys e = sym (drop-append_seam front xs) ∙ (ap (drop (length front)) e ∙ drop-append_seam front ys)

others-head : (detail : Detail) (n : ℕ) (body rest : List ℕ) → body_lines detail n Others body ≡ own_head n rest → ⊥
unfolding body_lines field_line word_of line
others-head detail n body rest e =
    let t : List ℕ = bytes "\tother\t" ++ line (decimal (number_of (reading body)) ∷ decimal (count_of (reading body)) ∷ []) in
    let u : List ℕ = text_of (reading body) ++ detail_line detail (number_of (reading body)) (identifier body) in
    let d : (decimal n ++ t) ++ u ≡ decimal n ++ (bytes "\town\t" ++ rest) = ap (drop 6) e in
    let h : t ++ u ≡ bytes "\town\t" ++ rest = behind (decimal n) (t ++ u) (bytes "\town\t" ++ rest) (sym (append_assoc (decimal n) t u) ∙ d) in
    let x : ◌≡◌ {A = ℕ} 116 119 = ap (λ (l : List ℕ). get_or l 2 0) h in
    omega arith

pub others-unlike : (detail : Detail) (n : ℕ) (name body rest : List ℕ) → addition detail (λ i. Others) n name body ≡ own_head n rest → ⊥
unfolding addition
others-unlike detail n name body rest e = go (alike name (bytes "Authentication-Results")) refl
  where
    go : (t : Bool) → alike name (bytes "Authentication-Results") ≡ t → ⊥
    go true a = others-head detail n body rest (rw (addition, a) at e)
    go false a = let h : [] ≡ own_head n rest = rw (addition, a) at e in let z : ◌≡◌ {A = ℕ} 0 102 = ap (λ (l : List ℕ). get_or l 0 0) h in omega arith

-- ==== fields by their places

-- what is reported of fields is what is reported of each, with its own number
pub additions-at : (detail : Detail) (whose : Got (List ℕ) → Own) (n : ℕ) (xs : List Field) (g : Field) (ys : List Field)
    → additions detail whose n (xs ++ (g ∷ ys))
    ≡ additions detail whose n xs ++ (addition detail whose (n + length xs) (name_of g) (body_of g) ++ additions detail whose (suc (n + length xs)) ys)
unfolding additions
additions-at detail whose n [] g ys = rw add-zero
additions-at detail whose n (x ∷ xs) g ys =
    let a : suc n + length xs ≡ n + suc (length xs) = omega arith in
    rw (additions-at detail whose (suc n) xs g ys, a)
    (sym (append_assoc (addition detail whose n (name_of x) (body_of x)) (additions detail whose (suc n) xs)
    (addition detail whose (n + suc (length xs)) (name_of g) (body_of g) ++ additions detail whose (suc (n + suc (length xs))) ys)))

module _ (block list field stripped : List ℕ) (f : Field) (own : OwnField list field f) (known : (fields block).number ≡ 0)
    (is : stripped ≡ bytes_of (kept_fields block list)) (within : Within (field ++ stripped)) (xs : List Field) (g : Field) (ys : List Field)
    (at : (fields (field ++ stripped)).items ≡ xs ++ (g ∷ ys)) where
  -- the field is ours, or it is one that stripping kept
  place : ((xs ≡ []) × (g ≡ f)) ⊎ (is_removed (among (own_list list).items) g ≡ false)
  place = go xs (sym (ap (λ (w : Walked Field). w.items) (own-fields block list field stripped f own known is within)) ∙ at)
    where
      go : (zs : List Field) → f ∷ kept_fields block list ≡ zs ++ (g ∷ ys) → ((zs ≡ []) × (g ≡ f)) ⊎ (is_removed (among (own_list list).items) g ≡ false)
      go [] e = inl (refl, sym (head-eq_of_cons-eq e))
      go (z ∷ zs) e =
          inr (kept-stays (own_list list).items (fields block).items g (rw (tail-eq_of_cons-eq e) (Memᴰ.append_right zs (Memᴰ.head refl))))

  -- it speaks under an identifier of the list only where no field stands before it
  pub speaks-first : speaks_as (among (own_list list).items) g ≡ true → (xs ≡ []) × (g ≡ f)
  speaks-first s = ⊎_elim (λ w. w) (λ k. absurd (no_true (sym (stays-silent (own_list list).items g k) ∙ s))) place

  -- and its lines start as those of ours only there
  pub heads-first : (detail : Detail) (n : ℕ) (rest : List ℕ) → addition detail (own_of (own_list list).items) n (name_of g) (body_of g) ≡ own_head n rest
      → (xs ≡ []) × (g ≡ f)
  heads-first detail n rest e =
      ⊎_elim (λ w. w) (λ k. absurd (others-unlike detail n (name_of g) (body_of g) rest (sym (stays-addition (own_list list).items g k detail n) ∙ e))) place
