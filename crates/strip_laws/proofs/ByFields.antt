-- The test by which fields are removed is demand 2's sentence, and so the kept fields are those of the sentence: by cases of the test, field by
-- field.
use Prim.Native.Nat.{ℕ}
use mathlib.Core.Path.{◌≡◌, refl, sym, ap, ◌∙◌}
use mathlib.Core.Bool.{Bool, true, false, not, ◌||◌}
use mathlib.Core.List.{List, [], ◌∷◌, ◌++◌, Memᴰ}
use Rattle.base_sequences.proofs.Booleans.{no_true, and_left, and_right}
use lib.ListN.{length, drop}
use Rattle.base_readers.specs.Texts.{bytes}
use Rattle.base_readers.specs.Walks.{Walked}
use Rattle.base_readers.specs.Parsers.{Got, nothing, got}
use Rattle.block_rules.specs.Fields.{Field, body_of, named, select, fields, bytes_of}
use Rattle.block_laws.proofs.Fields.{select_yes, select_no, fields-fine}
use Rattle.ownlist_rules.specs.OwnList.{own_list}
use Rattle.identifier_rules.specs.Identifier.{identifier, same_identifier}
use Rattle.ownlist_rules.specs.Listed.{among}
use Rattle.strip_rules.specs.Strip.{ours_or_unreadable, is_removed, kept_of, strip}
use Rattle.strip_rules.specs.Answers.{leaves}
use Rattle.strip_laws.proofs.Laws.{listed_test, strip-sound}
use Rattle.strip_laws.proofs.StripTheorems.{strip-fields}
use Rattle.strip_rules.specs.ByFields as by
use Rattle.strip_rules.specs.ByFields.{OursOrUnreadable, Removed, Kept}

-- ==== an identifier on a list

among-entry : (own : List (List ℕ)) (i : List ℕ) → among own i ≡ true → (e : List ℕ) × (Memᴰ e own × (same_identifier e i ≡ true))
unfolding among
among-entry [] i h = absurd (no_true h)
among-entry (e ∷ own) i h = go (λ k. among-entry own i k) (same_identifier e i) refl
  where
    go : (among own i ≡ true → (x : List ℕ) × (Memᴰ x own × (same_identifier x i ≡ true))) → (t : Bool) → same_identifier e i ≡ t
        → (x : List ℕ) × (Memᴰ x (e ∷ own) × (same_identifier x i ≡ true))
    go ih true q = (e, (Memᴰ.head refl, q))
    go ih false q = let r = ih (rw q at h) in (r.0, (Memᴰ.tail r.1.0, r.1.1))

entry-among : (own : List (List ℕ)) (i e : List ℕ) → Memᴰ e own → same_identifier e i ≡ true → among own i ≡ true
unfolding among
entry-among [] i e m h = elim m [ ]
entry-among (x ∷ own) i e (Memᴰ.head q) h = let s : same_identifier x i ≡ true = rw q at h in rw s
entry-among (x ∷ own) i e (Memᴰ.tail m) h = go (entry-among own i e m h) (same_identifier x i) refl
  where
    go : among own i ≡ true → (t : Bool) → same_identifier x i ≡ t → (same_identifier x i || among own i) ≡ true
    go ih true q = rw q
    go ih false q = rw (q, ih)

-- ==== a field that is removed

module _ (own : List (List ℕ)) (f : Field) where
  disowned-is : ours_or_unreadable (among own) (body_of f) ≡ true → OursOrUnreadable own (body_of f)
  unfolding ours_or_unreadable
  disowned-is h = go (identifier (body_of f)) refl
    where
      go : (g : Got (List ℕ)) → identifier (body_of f) ≡ g → OursOrUnreadable own (body_of f)
      go nothing q = by.unreadable q
      go (got i n) q = let r = among-entry own i (rw (ours_or_unreadable, q) at h) in by.ours i n r.0 q r.1.0 r.1.1

  is-disowned : OursOrUnreadable own (body_of f) → ours_or_unreadable (among own) (body_of f) ≡ true
  unfolding ours_or_unreadable
  is-disowned (by.unreadable q) = rw (ours_or_unreadable, q)
  is-disowned (by.ours i n e q m h) = rw (ours_or_unreadable, q) (entry-among own i e m h)

  pub goes-removed : is_removed (among own) f ≡ true → Removed own f
  unfolding is_removed named
  goes-removed h =
      record {
        name = and_left (named (bytes "Authentication-Results") f) (ours_or_unreadable (among own) (body_of f)) h;
        identifier = disowned-is (and_right (named (bytes "Authentication-Results") f) (ours_or_unreadable (among own) (body_of f)) h);
      }

  pub removed-goes : Removed own f → is_removed (among own) f ≡ true
  unfolding is_removed named
  removed-goes r = rw (r.name, is-disowned r.identifier)

-- ==== all fields

pub kept-fields : (own : List (List ℕ)) (fs : List Field) → Kept own fs (kept_of (among own) fs)
unfolding select
kept-fields own [] = by.end
kept-fields own (f ∷ fs) = go (kept-fields own fs) (is_removed (among own) f) refl
  where
    go : Kept own fs (kept_of (among own) fs) → (t : Bool) → is_removed (among own) f ≡ t → Kept own (f ∷ fs) (kept_of (among own) (f ∷ fs))
    go ih true q = rw (select_no (λ g. not (is_removed (among own) g)) f fs (rw q)) (by.goes (goes-removed own f q) ih)
    go ih false q =
        rw (select_yes (λ g. not (is_removed (among own) g)) f fs (rw q))
        (by.stays (λ r. no_true (sym q ∙ removed-goes own f r)) ih)

-- ==== a block that is stripped

pub strip-kept : (block list old : List ℕ) → (strip block list (length old)).number ≡ 0
    → (bytes_of (fields block).items ≡ block)
    × (Kept (own_list list).items (fields block).items (fields (strip block list (length old)).written).items
    × (leaves (strip block list (length old)) old
    ≡ bytes_of (fields (strip block list (length old)).written).items ++ drop (strip block list (length old)).kept old))
strip-kept block list old z =
    let s = strip-sound block list (length old) z in
    let w : (fields (strip block list (length old)).written).items ≡ kept_of (listed_test list) (fields block).items =
    ap (λ (x : Walked Field). x.items) (strip-fields block list (length old) z) in
    ((fields-fine block s.fielded).bytes, (rw w (kept-fields (own_list list).items (fields block).items), rw (w, s.is)))
