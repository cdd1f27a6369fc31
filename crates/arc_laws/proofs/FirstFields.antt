-- Reasons (a) and (b) name the first such field by its number among all fields from 1: the numbers that gathering keeps are those of the first field
-- that doesn't read and of the first that repeats a kind at its instance. By cases on what a field says, and by induction on the fields.
use Prim.Native.Nat.{ℕ, zero, suc, ◌≤◌}
use native.Mathlib.Omega.{arith}
use mathlib.Core.Path.{◌≡◌, refl, sym, ap, ◌∙◌}
use mathlib.Core.Bool.{Bool, true, false, cond, not, ◌&&◌}
use mathlib.Core.List.{List, [], ◌∷◌, ◌++◌}
use lib.Dec.{eqb, leb}
use lib.ListN.{length, length-append}
use borrow.Author.Tests.{eqb-true, eqb-false, ne_eqb, le-leb, lt-leb}
use Rattle.base_readers.specs.Parsers.{Got, nothing, got}
use Rattle.block_rules.specs.Fields.{Field, body_of}
use Rattle.arc_rules.specs.declared.Kind.{Kind}
use Rattle.arc_rules.specs.declared.Kind.TheVariants.{Results, Signature, Seal, Other}
use Rattle.arc_rules.specs.Sets.{Said, says}
use Rattle.arc_rules.specs.Chain.{Sets, no_sets, first, placed, place_of, recorded, noted, gathered}
use Rattle.arc_rules.specs.Accepted.{kind_of, is_arc, said_by, reads, fields_at}
use Rattle.arc_rules.specs.Reasons.{unread, repeats, first_where, first_unread, first_repeating}
use Rattle.arc_laws.proofs.Counting.{says_range, says_other}
use Rattle.arc_laws.proofs.Gathering.{Told, told_none, noted_other, noted-arc, told-noted}

-- ==== the first of such fields stays

first-suc : (a n : ℕ) → first (suc a) n ≡ suc a
first-suc a n = let e : eqb (suc a) 0 ≡ false = ne_eqb (suc a) 0 (λ e. omega (arith, e)) in rw e

first-stays : (u n m : ℕ) → first (first u (suc n)) m ≡ first u (suc n)
first-stays zero n m = first-suc n m
first-stays (suc u) n m = ap (λ (v : ℕ). first v m) (first-suc u (suc n)) ∙ (first-suc u m ∙ sym (first-suc u (suc n)))

first-zero : (u : ℕ) → u ≡ first u 0
first-zero zero = refl
first-zero (suc u) = sym (first-suc u 0)

-- a number that each field replaces where a test holds of it, given the fields before it, and where no field did so before
module _ (test : List Field → Field → Bool) (part : Sets → ℕ)
    (step : (before : List Field) (f : Field) (n : ℕ) (z : Sets) → Told before z
    → part (noted (suc n) (kind_of f) (body_of f) z) ≡ cond (test before f) (first (part z) (suc n)) (part z)) where
  gathered-first : (n : ℕ) (before fs : List Field) (z : Sets) → length before ≡ n → Told before z
      → part (gathered n fs z) ≡ first (part z) (first_where test before fs)
  unfolding gathered first_where
  gathered-first n before [] z l w = first-zero (part z)
  gathered-first n before (f ∷ fs) z l w =
      let v = noted (suc n) (kind_of f) (body_of f) z in
      gathered-first (suc n) (before ++ (f ∷ [])) fs v (omega (arith, l, length-append before (f ∷ []))) (told-noted before f n z w)
      ∙ go (test before f) (part v) (step before f n z w)
    where
      rest : ℕ
      rest = first_where test (before ++ (f ∷ [])) fs

      go : (t : Bool) (u : ℕ) → u ≡ cond t (first (part z) (suc n)) (part z)
          → first u rest ≡ first (part z) (elim t [ true ↦ suc (length before) | false ↦ rest ])
      go true u e =
          ap (λ (v : ℕ). first v rest) e ∙ (first-stays (part z) n rest ∙ ap (λ (m : ℕ). first (part z) (suc m)) (sym l))
      go false u e = ap (λ (v : ℕ). first v rest) e

-- ==== (a) an unreadable field

-- a field that reads takes its place, or is a repeated one
placed-unread : (n : ℕ) (k : Kind) (x : Said) (z : Sets) → (placed n k x z).unreadable ≡ z.unreadable
unfolding placed
placed-unread n k x z = go (eqb (place_of z.places x.instance k) 0) refl
  where
    go : (t : Bool) → eqb (place_of z.places x.instance k) 0 ≡ t → (placed n k x z).unreadable ≡ z.unreadable
    go true e = rw (placed, e)
    go false e = rw (placed, e)

-- what a field says is nothing
abbrev silent : Got Said → Bool
silent g = elim g [ nothing ↦ true | got x m ↦ false ]

recorded-unread : (n : ℕ) (k : Kind) (g : Got Said) (z : Sets)
    → (recorded n k g z).unreadable ≡ cond (silent g) (first z.unreadable n) z.unreadable
recorded-unread n k nothing z = refl
recorded-unread n k (got x m) z = placed-unread n k x z

noted-unread : (n : ℕ) (k : Kind) (body : List ℕ) (z : Sets)
    → (noted n k body z).unreadable ≡ cond (is_arc k && silent (says k body)) (first z.unreadable n) z.unreadable
noted-unread n Results body z = recorded-unread n Results (says Results body) z
noted-unread n Signature body z = recorded-unread n Signature (says Signature body) z
noted-unread n Seal body z = recorded-unread n Seal (says Seal body) z
noted-unread n Other body z = refl

unread-silent : (f : Field) → not (reads f) ≡ silent (said_by f)
unfolding reads
unread-silent f = go (said_by f)
  where
    go : (g : Got Said) → not (elim g [ nothing ↦ false | got x n ↦ true ]) ≡ silent g
    go nothing = refl
    go (got x n) = refl

pub unread-told : (fs : List Field) → (gathered 0 fs no_sets).unreadable ≡ first_unread fs
unread-told fs = gathered-first (λ before f. unread f) (λ (z : Sets). z.unreadable) step 0 [] fs no_sets refl told_none
  where
    step : (before : List Field) (f : Field) (n : ℕ) (z : Sets) → Told before z
        → (noted (suc n) (kind_of f) (body_of f) z).unreadable ≡ cond (unread f) (first z.unreadable (suc n)) z.unreadable
    step before f n z w =
        noted-unread (suc n) (kind_of f) (body_of f) z
        ∙ ap (λ (t : Bool). cond (is_arc (kind_of f) && t) (first z.unreadable (suc n)) z.unreadable) (sym (unread-silent f))

-- ==== (b) the first repeated kind, in block order, at one instance

placed-repeated : (n : ℕ) (k : Kind) (x : Said) (z : Sets)
    → (placed n k x z).repeated ≡ cond (eqb (place_of z.places x.instance k) 0) z.repeated (first z.repeated n)
unfolding placed
placed-repeated n k x z = go (eqb (place_of z.places x.instance k) 0) refl
  where
    go : (t : Bool) → eqb (place_of z.places x.instance k) 0 ≡ t
        → (placed n k x z).repeated ≡ cond (eqb (place_of z.places x.instance k) 0) z.repeated (first z.repeated n)
    go true e = rw (placed, e)
    go false e = rw (placed, e)

module _ (before : List Field) (f : Field) where
  abbrev counts : Got Said → Bool
  counts g = elim g [ nothing ↦ false | got x n ↦ leb 1 (fields_at (kind_of f) x.instance before) ]

  repeats-said : (g : Got Said) → said_by f ≡ g → repeats before f ≡ counts g
  unfolding repeats
  repeats-said g q = ap counts q

  noted-said : (n : ℕ) (z : Sets) (g : Got Said) → is_arc (kind_of f) ≡ true → said_by f ≡ g
      → (noted n (kind_of f) (body_of f) z).repeated ≡ (recorded n (kind_of f) g z).repeated
  noted-said n z g a q = ap (λ (s : Sets). s.repeated) (noted-arc n (kind_of f) (body_of f) z a) ∙ ap (λ (h : Got Said). (recorded n (kind_of f) h z).repeated) q

  -- a place is taken exactly where a field before it stands there
  noted-repeated : (n : ℕ) (z : Sets) → Told before z
      → (noted (suc n) (kind_of f) (body_of f) z).repeated ≡ cond (repeats before f) (first z.repeated (suc n)) z.repeated
  noted-repeated n z w = go (is_arc (kind_of f)) refl
    where
      after : Bool → ℕ
      after b = cond b (first z.repeated (suc n)) z.repeated

      Goal : Type 0
      Goal = (noted (suc n) (kind_of f) (body_of f) z).repeated ≡ after (repeats before f)

      some : (k : ℕ) → (k ≡ 0 → ⊥) → 1 ≤ k
      some zero h = absurd (h refl)
      some (suc k) h = omega arith

      there : (x : Said) → ℕ
      there x = place_of z.places x.instance (kind_of f)

      others : (x : Said) → ℕ
      others x = fields_at (kind_of f) x.instance before

      taken : is_arc (kind_of f) ≡ true → (x : Said) (m : ℕ) → said_by f ≡ got x m → (t : Bool) → eqb (there x) 0 ≡ t → Goal
      taken a x m e true p =
          let c : others x ≡ 0 = w.empty (kind_of f) a x.instance (says_range (kind_of f) (body_of f) x m e) (eqb-true (there x) 0 p) in
          let l : leb 1 (others x) ≡ false = lt-leb 1 (others x) (omega (arith, c)) in
          let q : (placed (suc n) (kind_of f) x z).repeated ≡ z.repeated =
          placed-repeated (suc n) (kind_of f) x z ∙ ap (λ (b : Bool). cond b z.repeated (first z.repeated (suc n))) p in
          noted-said (suc n) z (got x m) a e ∙ (q ∙ sym (ap after (repeats-said (got x m) e ∙ l)))
      taken a x m e false p =
          let c : 1 ≤ others x =
          some (others x) (λ q. eqb-false (there x) 0 p (w.free (kind_of f) a x.instance (says_range (kind_of f) (body_of f) x m e) q)) in
          let l : leb 1 (others x) ≡ true = le-leb 1 (others x) c in
          let q : (placed (suc n) (kind_of f) x z).repeated ≡ first z.repeated (suc n) =
          placed-repeated (suc n) (kind_of f) x z ∙ ap (λ (b : Bool). cond b z.repeated (first z.repeated (suc n))) p in
          noted-said (suc n) z (got x m) a e ∙ (q ∙ sym (ap after (repeats-said (got x m) e ∙ l)))

      said : is_arc (kind_of f) ≡ true → (g : Got Said) → said_by f ≡ g → Goal
      said a nothing e = noted-said (suc n) z nothing a e ∙ sym (ap after (repeats-said nothing e))
      said a (got x m) e = taken a x m e (eqb (there x) 0) refl

      go : (t : Bool) → is_arc (kind_of f) ≡ t → Goal
      go true a = said a (said_by f) refl
      go false a =
          ap (λ (s : Sets). s.repeated) (noted_other (suc n) (kind_of f) (body_of f) z a)
          ∙ sym (ap after (repeats-said nothing (says_other (kind_of f) (body_of f) a)))

pub repeated-told : (fs : List Field) → (gathered 0 fs no_sets).repeated ≡ first_repeating fs
repeated-told fs = gathered-first repeats (λ (z : Sets). z.repeated) noted-repeated 0 [] fs no_sets refl told_none
