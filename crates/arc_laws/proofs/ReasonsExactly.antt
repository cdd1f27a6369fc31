-- A chain fails for the first reason that applies: each outcome comes with what the fields say of the reasons, in their order. So there is reason (x)
-- exactly where (x) applies and none before it does, and it names the field that the reading of (x) gives.
use Prim.Native.Nat.{ℕ, zero, suc, ◌-◌, ◌≤◌}
use native.Mathlib.Omega.{arith}
use mathlib.Core.Path.{◌≡◌, refl, sym, ap, ◌∙◌}
use mathlib.Core.Bool.{Bool, true, false, not}
use mathlib.Core.List.{List, []}
use lib.Dec.{eqb, lit≤}
use lib.ListN.{get_or, take}
use Rattle.base_sequences.proofs.Booleans.{both}
use Rattle.block_rules.specs.Fields.{Field, fields}
use Rattle.arc_rules.specs.Chain.{Sets, no_sets, gathered, Outcome, none, failed, built, any_empty, prescribed, complete_outcome, outcome_of, outcome, Answer, judge}
use Rattle.arc_rules.specs.Reasons.{unread, repeats, first_where, first_unread, first_repeating, FirstAt, highest_instance, lacks, any_instance, empty_place, last_fails, other_value}
use Rattle.arc_rules.specs.Terms.{Known}
use Rattle.arc_laws.proofs.Gathering.{Told, sets-told}
use Rattle.arc_laws.proofs.NamedFields.{first-at, at_first}
use Rattle.arc_laws.proofs.FirstFields.{unread-told, repeated-told}
use Rattle.arc_laws.proofs.Numbers.{reason-when, when-fails}
use Rattle.arc_laws.proofs.InstanceReasons.{highest-told, empty-told, fail-told, value-told, no-instance}

-- ==== the first reason that applies

-- without a reason: none if there are no such fields, else built, with N
abbrev unfailed : ℕ → Outcome
unfailed zero = none
unfailed (suc n) = built (suc n)

-- what the fields say of the reasons, in order, and the outcome
data First (fs : List Field) : Type 0 where
  a : (n : ℕ) → first_unread fs ≡ suc n → outcome fs ≡ failed 1 (suc n) → First fs
  b : first_unread fs ≡ 0 → (n : ℕ) → first_repeating fs ≡ suc n → outcome fs ≡ failed 2 (suc n) → First fs
  c : first_unread fs ≡ 0 → first_repeating fs ≡ 0 → empty_place fs ≡ true → outcome fs ≡ failed 3 0 → First fs
  d : first_unread fs ≡ 0 → first_repeating fs ≡ 0 → empty_place fs ≡ false → last_fails fs ≡ true → outcome fs ≡ failed 4 0 → First fs
  e : first_unread fs ≡ 0 → first_repeating fs ≡ 0 → empty_place fs ≡ false → last_fails fs ≡ false → other_value fs ≡ true → outcome fs ≡ failed 5 0
      → First fs
  no : first_unread fs ≡ 0 → first_repeating fs ≡ 0 → empty_place fs ≡ false → last_fails fs ≡ false → other_value fs ≡ false
      → outcome fs ≡ unfailed (highest_instance fs) → First fs

unfailed-not : (n r f : ℕ) → unfailed n ≡ failed r f → ⊥
unfailed-not zero r f q = let o : ◌≡◌ {A = ℕ} 0 1 = cc in omega arith
unfailed-not (suc n) r f q = let o : ◌≡◌ {A = ℕ} 0 1 = cc in omega arith

module _ (fs : List Field) where
  abbrev sets : Sets
  sets = gathered 0 fs no_sets

  told : Told fs sets
  told = sets-told fs

  -- N the highest instance
  abbrev highest : ℕ
  highest = highest_instance fs

  -- neither (a) nor (b)
  module _ (u : first_unread fs ≡ 0) (r : first_repeating fs ≡ 0) where
    read : sets.unreadable ≡ 0
    read = unread-told fs ∙ u

    once : sets.repeated ≡ 0
    once = repeated-told fs ∙ r

    module _ (m : ℕ) (h : highest ≡ suc m) where
      complete : outcome fs ≡ complete_outcome highest sets
      unfolding outcome_of complete_outcome
      complete =
          let w : sets.highest ≡ suc m = highest-told fs sets told ∙ h in
          let o : outcome fs ≡ complete_outcome (suc m) sets = rw (outcome_of, read, once, w) in
          o ∙ ap (λ (k : ℕ). complete_outcome k sets) (sym h)

      by_value : empty_place fs ≡ false → last_fails fs ≡ false → (v : Bool) → other_value fs ≡ v → First fs
      unfolding complete_outcome
      by_value p l v q = go v q (value-told fs sets told once p ∙ ap not q)
        where
          x : any_empty (take highest sets.places) ≡ false
          x = empty-told fs sets told ∙ p

          y : eqb (get_or sets.cvs (highest - 1) 0) 3 ≡ false
          y = fail-told fs sets told once p (omega (arith, h)) ∙ l

          go : (v : Bool) → other_value fs ≡ v → prescribed (take highest sets.cvs) ≡ not v → First fs
          go true q w = e u r p l q (complete ∙ rw (complete_outcome, x, y, w))
          go false q w = no u r p l q (complete ∙ (rw (complete_outcome, x, y, w) (whole h)))
            where
              whole : highest ≡ suc m → built highest ≡ unfailed highest
              whole h = rw h

      by_last : empty_place fs ≡ false → (v : Bool) → last_fails fs ≡ v → First fs
      unfolding complete_outcome
      by_last p true l =
          let x = empty-told fs sets told ∙ p in
          let y = fail-told fs sets told once p (omega (arith, h)) ∙ l in
          d u r p l (complete ∙ rw (complete_outcome, x, y))
      by_last p false l = by_value p l (other_value fs) refl

      by_place : (v : Bool) → empty_place fs ≡ v → First fs
      unfolding complete_outcome
      by_place true p = let x = empty-told fs sets told ∙ p in c u r p (complete ∙ rw (complete_outcome, x))
      by_place false p = by_last p (last_fails fs) refl

    by-instance : (m : ℕ) → highest ≡ m → First fs
    unfolding outcome_of any_instance
    by-instance (suc m) h = by_place m h (empty_place fs) refl
    by-instance zero h =
        let w : sets.highest ≡ 0 = highest-told fs sets told ∙ h in
        let o : outcome fs ≡ none = rw (outcome_of, read, once, w) in
        no u r (ap (any_instance (lacks fs)) h) (no-instance _ fs h) (no-instance _ fs h) (o ∙ ap unfailed (sym h))

  by-repeated : first_unread fs ≡ 0 → (m : ℕ) → first_repeating fs ≡ m → First fs
  unfolding outcome_of
  by-repeated u zero r = by-instance u r highest refl
  by-repeated u (suc m) r = let x = unread-told fs ∙ u in let y = repeated-told fs ∙ r in b u m r (rw (outcome_of, x, y))

  by-unread : (m : ℕ) → first_unread fs ≡ m → First fs
  unfolding outcome_of
  by-unread (suc m) u = let x = unread-told fs ∙ u in a m u (rw (outcome_of, x))
  by-unread zero u = by-repeated u (first_repeating fs) refl

  first : First fs
  first = by-unread (first_unread fs) refl

-- ==== the field that is named

named : (test : List Field → Field → Bool) (fs : List Field) (n : ℕ) → 1 ≤ first_where test [] fs → first_where test [] fs ≡ n → FirstAt test fs n
named test fs zero h q = absurd (omega (arith, h, q))
named test fs (suc n) h q = first-at test fs n q

one_field : (n r : ℕ) {m : ℕ} → failed r n ≡ failed r m → n ≡ m
one_field n r q = ap (λ (o : Outcome). elim o [ none ↦ 0 | failed x y ↦ y | built x ↦ 0 ]) q

-- ==== each reason exactly where it applies and none before it does

abbrev reason_of : Outcome → ℕ
reason_of none = 0
reason_of (failed r f) = r
reason_of (built n) = 0

-- an outcome has one reason
one-reason : {A : Type 0} (o : Outcome) (r s f g : ℕ) → o ≡ failed r f → o ≡ failed s g → (r ≡ s → ⊥) → A
one-reason o r s f g p q ne = absurd (ne (ap reason_of (sym p ∙ q)))

module _ (fs : List Field) where
  -- there is no reason but (a) to (e)
  reasons : (r f : ℕ) → outcome fs ≡ failed r f → (1 ≤ r) × (r ≤ 5)
  reasons r f q =
      elim (first fs) [
        | a n u o ↦ given 1 (suc n) o (omega arith)
        | b u n i o ↦ given 2 (suc n) o (omega arith)
        | c u i p o ↦ given 3 0 o (omega arith)
        | d u i p l o ↦ given 4 0 o (omega arith)
        | e u i p l v o ↦ given 5 0 o (omega arith)
        | no u i p l v o ↦ absurd (unfailed-not (highest_instance fs) r f (sym o ∙ q))
      ]
    where
      given : (s g : ℕ) → outcome fs ≡ failed s g → (1 ≤ s) × (s ≤ 5) → (1 ≤ r) × (r ≤ 5)
      given s g o h =
          let z : s ≡ r = ap reason_of (sym o ∙ q) in
          rw (← z) h

  -- (a) an unreadable field: the first is named
  pub unread-when : (f : ℕ) → outcome fs ≡ failed 1 f → 1 ≤ first_unread fs
  unread-when f q =
      elim (first fs) [
        | a n u o ↦ omega (arith, u)
        | b u n i o ↦ one-reason _ 2 1 (suc n) f o q (λ z. omega (arith, z))
        | c u i p o ↦ one-reason _ 3 1 0 f o q (λ z. omega (arith, z))
        | d u i p l o ↦ one-reason _ 4 1 0 f o q (λ z. omega (arith, z))
        | e u i p l v o ↦ one-reason _ 5 1 0 f o q (λ z. omega (arith, z))
        | no u i p l v o ↦ absurd (unfailed-not (highest_instance fs) 1 f (sym o ∙ q))
      ]

  pub when-unread : 1 ≤ first_unread fs → outcome fs ≡ failed 1 (first_unread fs)
  when-unread h =
      elim (first fs) [
        | a n u o ↦ o ∙ ap (failed 1) (sym u)
        | b u n i o ↦ absurd (omega (arith, h, u))
        | c u i p o ↦ absurd (omega (arith, h, u))
        | d u i p l o ↦ absurd (omega (arith, h, u))
        | e u i p l v o ↦ absurd (omega (arith, h, u))
        | no u i p l v o ↦ absurd (omega (arith, h, u))
      ]

  -- (b) the first repeated kind, in block order, at one instance: the repeating field is named
  pub repeated-when : (f : ℕ) → outcome fs ≡ failed 2 f → (first_unread fs ≡ 0) × (1 ≤ first_repeating fs)
  repeated-when f q =
      elim (first fs) [
        | a n u o ↦ one-reason _ 1 2 (suc n) f o q (λ z. omega (arith, z))
        | b u n i o ↦ (u, omega (arith, i))
        | c u i p o ↦ one-reason _ 3 2 0 f o q (λ z. omega (arith, z))
        | d u i p l o ↦ one-reason _ 4 2 0 f o q (λ z. omega (arith, z))
        | e u i p l v o ↦ one-reason _ 5 2 0 f o q (λ z. omega (arith, z))
        | no u i p l v o ↦ absurd (unfailed-not (highest_instance fs) 2 f (sym o ∙ q))
      ]

  pub when-repeated : (first_unread fs ≡ 0) × (1 ≤ first_repeating fs) → outcome fs ≡ failed 2 (first_repeating fs)
  when-repeated h =
      elim (first fs) [
        | a n u o ↦ absurd (omega (arith, h.0, u))
        | b u n i o ↦ o ∙ ap (failed 2) (sym i)
        | c u i p o ↦ absurd (omega (arith, h.1, i))
        | d u i p l o ↦ absurd (omega (arith, h.1, i))
        | e u i p l v o ↦ absurd (omega (arith, h.1, i))
        | no u i p l v o ↦ absurd (omega (arith, h.1, i))
      ]

  -- (c) with N the highest instance, an empty place in 1 to N
  pub empty-when : (f : ℕ) → outcome fs ≡ failed 3 f → (first_unread fs ≡ 0) × ((first_repeating fs ≡ 0) × (empty_place fs ≡ true))
  empty-when f q =
      elim (first fs) [
        | a n u o ↦ one-reason _ 1 3 (suc n) f o q (λ z. omega (arith, z))
        | b u n i o ↦ one-reason _ 2 3 (suc n) f o q (λ z. omega (arith, z))
        | c u i p o ↦ (u, (i, p))
        | d u i p l o ↦ one-reason _ 4 3 0 f o q (λ z. omega (arith, z))
        | e u i p l v o ↦ one-reason _ 5 3 0 f o q (λ z. omega (arith, z))
        | no u i p l v o ↦ absurd (unfailed-not (highest_instance fs) 3 f (sym o ∙ q))
      ]

  pub when-empty : (first_unread fs ≡ 0) × ((first_repeating fs ≡ 0) × (empty_place fs ≡ true)) → outcome fs ≡ failed 3 0
  when-empty h =
      elim (first fs) [
        | a n u o ↦ absurd (omega (arith, h.0, u))
        | b u n i o ↦ absurd (omega (arith, h.1.0, i))
        | c u i p o ↦ o
        | d u i p l o ↦ absurd (both (empty_place fs) p h.1.1)
        | e u i p l v o ↦ absurd (both (empty_place fs) p h.1.1)
        | no u i p l v o ↦ absurd (both (empty_place fs) p h.1.1)
      ]

  -- (d) the seal at N has cv fail
  pub last-when : (f : ℕ) → outcome fs ≡ failed 4 f → (first_unread fs ≡ 0) × ((first_repeating fs ≡ 0) × ((empty_place fs ≡ false) × (last_fails fs ≡ true)))
  last-when f q =
      elim (first fs) [
        | a n u o ↦ one-reason _ 1 4 (suc n) f o q (λ z. omega (arith, z))
        | b u n i o ↦ one-reason _ 2 4 (suc n) f o q (λ z. omega (arith, z))
        | c u i p o ↦ one-reason _ 3 4 0 f o q (λ z. omega (arith, z))
        | d u i p l o ↦ (u, (i, (p, l)))
        | e u i p l v o ↦ one-reason _ 5 4 0 f o q (λ z. omega (arith, z))
        | no u i p l v o ↦ absurd (unfailed-not (highest_instance fs) 4 f (sym o ∙ q))
      ]

  pub when-last : (first_unread fs ≡ 0) × ((first_repeating fs ≡ 0) × ((empty_place fs ≡ false) × (last_fails fs ≡ true))) → outcome fs ≡ failed 4 0
  when-last h =
      elim (first fs) [
        | a n u o ↦ absurd (omega (arith, h.0, u))
        | b u n i o ↦ absurd (omega (arith, h.1.0, i))
        | c u i p o ↦ absurd (both (empty_place fs) h.1.1.0 p)
        | d u i p l o ↦ o
        | e u i p l v o ↦ absurd (both (last_fails fs) l h.1.1.1)
        | no u i p l v o ↦ absurd (both (last_fails fs) l h.1.1.1)
      ]

  -- (e) the seal at 1 isn't none or a later one isn't pass
  pub value-when : (f : ℕ) → outcome fs ≡ failed 5 f → (first_unread fs ≡ 0) × ((first_repeating fs ≡ 0) × ((empty_place fs ≡ false) × ((last_fails fs ≡ false) × (other_value fs ≡ true))))
  value-when f q =
      elim (first fs) [
        | a n u o ↦ one-reason _ 1 5 (suc n) f o q (λ z. omega (arith, z))
        | b u n i o ↦ one-reason _ 2 5 (suc n) f o q (λ z. omega (arith, z))
        | c u i p o ↦ one-reason _ 3 5 0 f o q (λ z. omega (arith, z))
        | d u i p l o ↦ one-reason _ 4 5 0 f o q (λ z. omega (arith, z))
        | e u i p l v o ↦ (u, (i, (p, (l, v))))
        | no u i p l v o ↦ absurd (unfailed-not (highest_instance fs) 5 f (sym o ∙ q))
      ]

  pub when-value : (first_unread fs ≡ 0) × ((first_repeating fs ≡ 0) × ((empty_place fs ≡ false) × ((last_fails fs ≡ false) × (other_value fs ≡ true)))) → outcome fs ≡ failed 5 0
  when-value h =
      elim (first fs) [
        | a n u o ↦ absurd (omega (arith, h.0, u))
        | b u n i o ↦ absurd (omega (arith, h.1.0, i))
        | c u i p o ↦ absurd (both (empty_place fs) h.1.1.0 p)
        | d u i p l o ↦ absurd (both (last_fails fs) h.1.1.1.0 l)
        | e u i p l v o ↦ o
        | no u i p l v o ↦ absurd (both (other_value fs) v h.1.1.1.1)
      ]

  -- the field that (a) names, and that (b) names
  pub unread-first : (n : ℕ) → (outcome fs ≡ failed 1 n → FirstAt (λ before f. unread f) fs n) × (FirstAt (λ before f. unread f) fs n → outcome fs ≡ failed 1 n)
  unread-first n = (there, back)
    where
      there : outcome fs ≡ failed 1 n → FirstAt (λ before f. unread f) fs n
      there q = named (λ before f. unread f) fs n (unread-when n q) (one_field _ 1 (sym (when-unread (unread-when n q)) ∙ q))

      back : FirstAt (λ before f. unread f) fs n → outcome fs ≡ failed 1 n
      back w = let e = at_first (λ before f. unread f) fs n w in when-unread (omega (arith, e, w.counted)) ∙ ap (failed 1) e

  pub repeated-first : (n : ℕ) → (outcome fs ≡ failed 2 n → (first_unread fs ≡ 0) × FirstAt repeats fs n)
      × ((first_unread fs ≡ 0) × FirstAt repeats fs n → outcome fs ≡ failed 2 n)
  repeated-first n = (there, back)
    where
      there : outcome fs ≡ failed 2 n → (first_unread fs ≡ 0) × FirstAt repeats fs n
      there q =
          let w = repeated-when n q in
          (w.0, named repeats fs n w.1 (one_field _ 2 (sym (when-repeated w) ∙ q)))

      back : (first_unread fs ≡ 0) × FirstAt repeats fs n → outcome fs ≡ failed 2 n
      back w = let e = at_first repeats fs n w.1 in when-repeated (w.0, omega (arith, e, w.1.counted)) ∙ ap (failed 2) e

  -- without a reason
  when-unfailed : (first_unread fs ≡ 0) × ((first_repeating fs ≡ 0) × ((empty_place fs ≡ false) × ((last_fails fs ≡ false) × (other_value fs ≡ false))))
      → outcome fs ≡ unfailed (highest_instance fs)
  when-unfailed h =
      elim (first fs) [
        | a n u o ↦ absurd (omega (arith, h.0, u))
        | b u n i o ↦ absurd (omega (arith, h.1.0, i))
        | c u i p o ↦ absurd (both (empty_place fs) h.1.1.0 p)
        | d u i p l o ↦ absurd (both (last_fails fs) h.1.1.1.0 l)
        | e u i p l v o ↦ absurd (both (other_value fs) h.1.1.1.1 v)
        | no u i p l v o ↦ o
      ]

  -- Else built, with N
  pub else-built : (first_unread fs ≡ 0) × ((first_repeating fs ≡ 0) × ((empty_place fs ≡ false) × ((last_fails fs ≡ false) × (other_value fs ≡ false))))
      → 1 ≤ highest_instance fs → outcome fs ≡ built (highest_instance fs)
  else-built h l = when-unfailed h ∙ go (highest_instance fs) l
    where
      go : (n : ℕ) → 1 ≤ n → unfailed n ≡ built n
      go zero l = absurd (omega arith)
      go (suc n) l = refl

  -- (c) to (e) name no field
  others-when : (r f : ℕ) → 3 ≤ r → outcome fs ≡ failed r f → outcome fs ≡ failed r 0
  others-when r f h q =
      elim (first fs) [
        | a n u o ↦ one-reason _ 1 r (suc n) f o q (λ z. omega (arith, z, h))
        | b u n i o ↦ one-reason _ 2 r (suc n) f o q (λ z. omega (arith, z, h))
        | c u i p o ↦ o ∙ same 3 o
        | d u i p l o ↦ o ∙ same 4 o
        | e u i p l v o ↦ o ∙ same 5 o
        | no u i p l v o ↦ absurd (unfailed-not (highest_instance fs) r f (sym o ∙ q))
      ]
    where
      same : (s : ℕ) → outcome fs ≡ failed s 0 → failed s 0 ≡ failed r 0
      same s o = ap (λ (x : ℕ). failed x 0) (ap reason_of (sym o ∙ q))

-- ==== the answer

pub judge-reasons : (block vs : List ℕ) → (judge block vs).reason ≤ 5
judge-reasons block vs = go (judge block vs).reason refl
  where
    go : (r : ℕ) → (judge block vs).reason ≡ r → (judge block vs).reason ≤ 5
    go zero q = omega (arith, q)
    go (suc r) q = let w = reason-when block vs (suc r) (omega arith) q in omega (arith, q, reasons (fields block).items (suc r) w.0 w.1)

module _ (block vs : List ℕ) (k : Known block) where
  abbrev given : List Field
  given = (fields block).items

  -- the answer has the reason of the outcome
  pub judge-others : 3 ≤ (judge block vs).reason → outcome given ≡ failed (judge block vs).reason 0
  judge-others h =
      let w = reason-when block vs (judge block vs).reason (omega arith) refl in
      others-when given (judge block vs).reason w.0 h w.1

  pub judge-names : (r f : ℕ) → 1 ≤ r → (judge block vs).reason ≡ r → (judge block vs).field ≡ f → outcome given ≡ failed r f
  judge-names r f h p q =
      let w = reason-when block vs r h p in
      w.1 ∙ ap (failed r) (sym (ap (λ (x : Answer). x.field) (when-fails block vs r w.0 k w.1)) ∙ q)

  reasoned : (r f : ℕ) → outcome given ≡ failed r f → (judge block vs).reason ≡ r
  reasoned r f o = ap (λ (x : Answer). x.reason) (when-fails block vs r f k o)

  pub judge-unread : ((judge block vs).reason ≡ 1 → 1 ≤ first_unread given)
      × (1 ≤ first_unread given → (judge block vs).reason ≡ 1)
  judge-unread =
      ((λ e. (let w = reason-when block vs 1 (lit≤ tt) e in unread-when given w.0 w.1)), λ h. reasoned 1 (first_unread given) (when-unread given h))

  pub judge-repeated : ((judge block vs).reason ≡ 2 → (first_unread given ≡ 0) × (1 ≤ first_repeating given))
      × ((first_unread given ≡ 0) × (1 ≤ first_repeating given) → (judge block vs).reason ≡ 2)
  judge-repeated =
      ((λ e. (let w = reason-when block vs 2 (lit≤ tt) e in repeated-when given w.0 w.1)), λ h. reasoned 2 (first_repeating given) (when-repeated given h))

  pub judge-empty : ((judge block vs).reason ≡ 3 → (first_unread given ≡ 0) × ((first_repeating given ≡ 0) × (empty_place given ≡ true)))
      × ((first_unread given ≡ 0) × ((first_repeating given ≡ 0) × (empty_place given ≡ true)) → (judge block vs).reason ≡ 3)
  judge-empty =
      ((λ e. (let w = reason-when block vs 3 (lit≤ tt) e in empty-when given w.0 w.1)), λ h. reasoned 3 0 (when-empty given h))

  pub judge-last : ((judge block vs).reason ≡ 4 → (first_unread given ≡ 0) × ((first_repeating given ≡ 0) × ((empty_place given ≡ false) × (last_fails given ≡ true))))
      × ((first_unread given ≡ 0) × ((first_repeating given ≡ 0) × ((empty_place given ≡ false) × (last_fails given ≡ true))) → (judge block vs).reason ≡ 4)
  judge-last =
      ((λ e. (let w = reason-when block vs 4 (lit≤ tt) e in last-when given w.0 w.1)), λ h. reasoned 4 0 (when-last given h))

  pub judge-value : ((judge block vs).reason ≡ 5 → (first_unread given ≡ 0) × ((first_repeating given ≡ 0) × ((empty_place given ≡ false) × ((last_fails given ≡ false) × (other_value given ≡ true)))))
      × ((first_unread given ≡ 0) × ((first_repeating given ≡ 0) × ((empty_place given ≡ false) × ((last_fails given ≡ false) × (other_value given ≡ true)))) → (judge block vs).reason ≡ 5)
  judge-value =
      ((λ e. (let w = reason-when block vs 5 (lit≤ tt) e in value-when given w.0 w.1)), λ h. reasoned 5 0 (when-value given h))
