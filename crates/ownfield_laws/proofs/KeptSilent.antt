-- No field that stripping keeps speaks under an identifier of the list, and what is reported of it is reported as another's. By cases of the test
-- by which fields are removed, and by induction on the fields.
use Prim.Native.Nat.{ℕ, suc}
use mathlib.Core.Path.{◌≡◌, refl, sym, ap, ◌∙◌}
use mathlib.Core.Bool.{Bool, true, false, not}
use mathlib.Core.List.{List, [], ◌∷◌, ◌++◌, Memᴰ}
use borrow.Author.Tests.{not-true}
use Rattle.base_sequences.proofs.Booleans.{no_true}
use Rattle.base_readers.specs.Texts.{bytes}
use Rattle.base_readers.specs.Parsers.{Got, nothing, got}
use Rattle.lexis_rules.specs.Bytes.{alike}
use Rattle.block_rules.specs.Fields.{Field, name_of, body_of, named, select}
use Rattle.block_laws.proofs.Fields.{select_yes, select_no}
use Rattle.identifier_rules.specs.Identifier.{identifier}
use Rattle.ownlist_rules.specs.declared.Own.{Own}
use Rattle.ownlist_rules.specs.declared.Own.TheVariants.{Others}
use Rattle.ownlist_rules.specs.Listed.{among, own_of}
use Rattle.strip_rules.specs.Strip.{ours_or_unreadable, is_removed, kept_of}
use Rattle.blockreport_rules.specs.declared.Detail.{Detail}
use Rattle.blockreport_rules.specs.BlockReport.{body_lines, addition, additions}
use Rattle.ownfield_rules.specs.OwnField.{speaks_as, is_ours, additions_under}

-- ==== a field that is not removed

module _ (own : List (List ℕ)) (f : Field) (stays : is_removed (among own) f ≡ false) where
  -- of the name Authentication-Results it is another's
  pub stays-others : alike (name_of f) (bytes "Authentication-Results") ≡ true → own_of own (identifier (body_of f)) ≡ Others
  unfolding is_removed ours_or_unreadable named
  stays-others n = go (identifier (body_of f)) refl
    where
      go : (i : Got (List ℕ)) → identifier (body_of f) ≡ i → own_of own (identifier (body_of f)) ≡ Others
      go nothing q = absurd (no_true (sym (let t : true ≡ false = rw (is_removed, n, ours_or_unreadable, q) at stays in t)))
      go (got i k) q = let t : among own i ≡ false = rw (is_removed, n, ours_or_unreadable, q) at stays in rw (q, t)

  -- it speaks under no identifier of the list
  pub stays-silent : speaks_as (among own) f ≡ false
  unfolding speaks_as is_removed ours_or_unreadable
  stays-silent = named-is (named (bytes "Authentication-Results") f) refl
    where
      identified : named (bytes "Authentication-Results") f ≡ true → (g : Got (List ℕ)) → identifier (body_of f) ≡ g → speaks_as (among own) f ≡ false
      identified n nothing q = rw (speaks_as, n, q)
      identified n (got i k) q = let t : among own i ≡ false = rw (is_removed, n, ours_or_unreadable, q) at stays in rw (speaks_as, n, q, t)

      named-is : (t : Bool) → named (bytes "Authentication-Results") f ≡ t → speaks_as (among own) f ≡ false
      named-is true n = identified n (identifier (body_of f)) refl
      named-is false n = rw (speaks_as, n)

  module _ (detail : Detail) (n : ℕ) where
    -- what is reported of it is reported as another's
    pub stays-addition : addition detail (own_of own) n (name_of f) (body_of f) ≡ addition detail (λ i. Others) n (name_of f) (body_of f)
    unfolding addition
    stays-addition = go (alike (name_of f) (bytes "Authentication-Results")) refl
      where
        go : (t : Bool) → alike (name_of f) (bytes "Authentication-Results") ≡ t
            → addition detail (own_of own) n (name_of f) (body_of f) ≡ addition detail (λ i. Others) n (name_of f) (body_of f)
        go true e = rw (addition, e) (ap (λ (o : Own). body_lines detail n o (body_of f)) (stays-others e))
        go false e = rw (addition, e)

    -- and nothing as ours
    pub stays-unreported : is_ours (own_of own (identifier (body_of f))) ≡ true → addition detail (own_of own) n (name_of f) (body_of f) ≡ []
    unfolding addition
    stays-unreported o = go (alike (name_of f) (bytes "Authentication-Results")) refl
      where
        go : (t : Bool) → alike (name_of f) (bytes "Authentication-Results") ≡ t → addition detail (own_of own) n (name_of f) (body_of f) ≡ []
        go true e = absurd (no_true (sym (ap is_ours (stays-others e)) ∙ o))
        go false e = rw (addition, e)

-- ==== those of the fields that are kept

-- a field of those that pass a test passes it
pub select-passes : (p : Field → Bool) (fs : List Field) (g : Field) → Memᴰ g (select p fs) → p g ≡ true
unfolding select
select-passes p [] g m = elim m [ ]
select-passes p (f ∷ fs) g m = go (p f) refl (select-passes p fs g) m
  where
    go : (t : Bool) → p f ≡ t → (Memᴰ g (select p fs) → p g ≡ true) → Memᴰ g (select p (f ∷ fs)) → p g ≡ true
    go true e ih m' = here (rw (select_yes p f fs e) at m')
      where
        here : Memᴰ g (f ∷ select p fs) → p g ≡ true
        here (Memᴰ.head q) = rw q e
        here (Memᴰ.tail k) = ih k
    go false e ih m' = ih (rw (select_no p f fs e) at m')

module _ (own : List (List ℕ)) where
  pub kept-stays : (fs : List Field) (g : Field) → Memᴰ g (kept_of (among own) fs) → is_removed (among own) g ≡ false
  kept-stays fs g m = not-true _ (select-passes (λ x. not (is_removed (among own) x)) fs g m)

  -- none of them is removed
  abbrev pub AllStay : List Field → Type 0
  AllStay fs = (g : Field) → Memᴰ g fs → is_removed (among own) g ≡ false

  pub all-silent : (fs : List Field) → AllStay fs → select (speaks_as (among own)) fs ≡ []
  unfolding select
  all-silent [] s = refl
  all-silent (f ∷ fs) s =
      rw (select_no (speaks_as (among own)) f fs (stays-silent own f (s f (Memᴰ.head refl)))) (all-silent fs (λ g m. s g (Memᴰ.tail m)))

  module _ (detail : Detail) where
    pub all-additions : (n : ℕ) (fs : List Field) → AllStay fs → additions detail (own_of own) n fs ≡ additions detail (λ i. Others) n fs
    unfolding additions
    all-additions n [] s = refl
    all-additions n (f ∷ fs) s =
        rw (stays-addition own f (s f (Memᴰ.head refl)) detail n, all-additions (suc n) fs (λ g m. s g (Memᴰ.tail m)))

    pub all-unreported : (n : ℕ) (fs : List Field) → AllStay fs → additions_under is_ours detail (own_of own) n fs ≡ []
    unfolding additions_under
    all-unreported n [] s = refl
    all-unreported n (f ∷ fs) s = go (is_ours (own_of own (identifier (body_of f)))) refl (all-unreported (suc n) fs (λ g m. s g (Memᴰ.tail m)))
      where
        go : (t : Bool) → is_ours (own_of own (identifier (body_of f))) ≡ t → additions_under is_ours detail (own_of own) (suc n) fs ≡ []
            → additions_under is_ours detail (own_of own) n (f ∷ fs) ≡ []
        go true q ih = rw (additions_under, q, stays-unreported own f (s f (Memᴰ.head refl)) detail n q) ih
        go false q ih = rw (additions_under, q) ih

-- where every identifier passes, what is told under one is the report of the block
pub under_all : (detail : Detail) (own : List (List ℕ)) (n : ℕ) (fs : List Field)
    → additions_under (λ o. true) detail (own_of own) n fs ≡ additions detail (own_of own) n fs
unfolding additions_under additions
under_all detail own n [] = refl
under_all detail own n (f ∷ fs) = ap (◌++◌ (addition detail (own_of own) n (name_of f) (body_of f))) (under_all detail own (suc n) fs)
