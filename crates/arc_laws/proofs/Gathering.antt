-- What the table of places says of the fields that were gathered into it, in whatever order they came: an invariant that every field
-- keeps, by cases on whether it is an ARC field, whether it reads and whether its place is taken; then by induction on the fields.
use Prim.Native.Nat.{ℕ, suc, ◌-◌, ◌≤◌, ◌<◌, zero-le}
use native.Mathlib.Omega.{arith}
use mathlib.Core.Path.{◌≡◌, refl, sym, ap, ◌∙◌}
use mathlib.Core.Bool.{Bool, true, false, cond}
use mathlib.Core.List.Memᴰ
use mathlib.Core.List.{List, [], ◌∷◌, ◌++◌, append_assoc, append-nil, Memᴰ}
use mathlib.Core.Logic.{◌⊎◌, inl, inr}
use lib.Dec.{eqb, ltb}
use lib.ListN.{length, get_or, length-replicate}
use borrow.Author.Tests.{eqb-true, eqb-false, ltb-true, ltb-false}
use Rattle.base_sequences.proofs.Booleans.{no_true, both, cond-le}
use Rattle.base_readers.specs.Parsers.{Got, nothing, got}
use Rattle.base_readers.proofs.Sequencing.{no-got}
use Rattle.block_rules.specs.Fields.{Field, body_of, select}
use Rattle.arc_rules.specs.declared.Kind.{Kind}
use Rattle.arc_rules.specs.declared.Kind.TheVariants.{Results, Signature, Seal, Other}
use Rattle.arc_rules.specs.Sets.{last_instance, Said, says}
use Rattle.arc_rules.specs.Chain.{Sets, no_sets, place_of, first, sealed, put, placed, recorded, noted, gathered}
use Rattle.arc_rules.specs.Accepted.{kind_of, is_arc, said_by, reads, stands_at, fields_at}
use Rattle.arc_laws.proofs.Counting.{InRange, says_range, says_other, reads-not, reads-said, stands-not, stands-own, stands-only, count-snoc, count-some}
use Rattle.arc_laws.proofs.Storing.{Shaped, none-shaped, none-place, stored, stored-shaped, stored-own, stored_other, sealed-long, sealed-own, sealed-other}

-- ==== the invariant

-- every ARC field reads
abbrev pub AllRead : List Field → Type 0
AllRead fs = (f : Field) → Memᴰ f fs → is_arc (kind_of f) ≡ true → reads f ≡ true

-- no field stands past h
abbrev pub NonePast : ℕ → List Field → Type 0
NonePast h fs = (k : Kind) → is_arc k ≡ true → (i : ℕ) → h < i → fields_at k i fs ≡ 0

-- what the sets say of the fields that were put in. `unreadable` is 0 exactly where all read, `repeated` exactly where no place has two
-- fields; a place is 0 exactly where no field stands there; `highest` is the least instance past which no field stands; where no place
-- has two fields, the chain values are those of the seals
pub record Told (fs : List Field) (z : Sets) : Type 0 where
  pub shaped : Shaped z.places
  pub long : length z.cvs ≡ last_instance
  pub read : z.unreadable ≡ 0 → AllRead fs
  pub unread : AllRead fs → z.unreadable ≡ 0
  pub once : z.repeated ≡ 0 → (k : Kind) → is_arc k ≡ true → (i : ℕ) → InRange i → fields_at k i fs ≤ 1
  pub single : ((k : Kind) → is_arc k ≡ true → (i : ℕ) → InRange i → fields_at k i fs ≤ 1) → z.repeated ≡ 0
  pub empty : (k : Kind) → is_arc k ≡ true → (i : ℕ) → InRange i → place_of z.places i k ≡ 0 → fields_at k i fs ≡ 0
  pub free : (k : Kind) → is_arc k ≡ true → (i : ℕ) → InRange i → fields_at k i fs ≡ 0 → place_of z.places i k ≡ 0
  pub past : NonePast z.highest fs
  pub least : (h : ℕ) → NonePast h fs → z.highest ≤ h
  pub most : z.highest ≤ last_instance
  pub cv : z.repeated ≡ 0 → (f : Field) → Memᴰ f fs → (x : Said) (m : ℕ) → kind_of f ≡ Seal → said_by f ≡ got x m
      → get_or z.cvs (x.instance - 1) 0 ≡ x.cv

pub told_none : Told [] no_sets
unfolding select
told_none =
    record {
      shaped = none-shaped;
      long = length-replicate {A = ℕ} last_instance 0;
      read = λ z f m. absurd (Memᴰ.not-nil m);
      unread = λ a. refl;
      once = λ z k a i r. zero-le;
      single = λ c. refl;
      empty = λ k a i r p. refl;
      free = λ k a i r c. none-place k i r;
      past = λ k a i h. refl;
      least = λ h c. zero-le;
      most = zero-le;
      cv = λ z f m. absurd (Memᴰ.not-nil m);
    }

-- ==== one more field

-- the number of the first such field is not 0 after one
first_some : (a n : ℕ) → first a (suc n) ≡ 0 → ⊥
first_some a n e = go (eqb a 0) refl
  where
    go : (t : Bool) → eqb a 0 ≡ t → ⊥
    go true q = let o : suc n ≡ 0 = rw q at e in omega arith
    go false q = eqb-false a 0 q (rw q at e)

-- the higher of two
pub higher : (h a : ℕ) → (h ≤ cond (ltb h a) a h) × (a ≤ cond (ltb h a) a h)
higher h a = go (ltb h a) refl
  where
    go : (t : Bool) → ltb h a ≡ t → (h ≤ cond (ltb h a) a h) × (a ≤ cond (ltb h a) a h)
    go true e = let o = ltb-true h a e in rw e (omega arith)
    go false e = let o = ltb-false h a e in rw e (omega arith)

-- a field of another name is passed over
pub noted_other : (n : ℕ) (k : Kind) (body : List ℕ) (z : Sets) → is_arc k ≡ false → noted n k body z ≡ z
noted_other n Results body z e = absurd (no_true (sym e))
noted_other n Signature body z e = absurd (no_true (sym e))
noted_other n Seal body z e = absurd (no_true (sym e))
noted_other n Other body z e = refl

pub noted-arc : (n : ℕ) (k : Kind) (body : List ℕ) (z : Sets) → is_arc k ≡ true → noted n k body z ≡ recorded n k (says k body) z
noted-arc n Results body z e = refl
noted-arc n Signature body z e = refl
noted-arc n Seal body z e = refl
noted-arc n Other body z e = absurd (no_true e)

module _ (fs : List Field) (f : Field) where
  abbrev more : List Field
  more = fs ++ (f ∷ [])

  -- it is one of those before, or itself
  newest : (g : Field) → Memᴰ g more → Memᴰ g fs ⊎ (g ≡ f)
  newest g m = go (Memᴰ.append_cases fs m)
    where
      go : Memᴰ g fs ⊎ Memᴰ g (f ∷ []) → Memᴰ g fs ⊎ (g ≡ f)
      go (inl a) = inl a
      go (inr b) = inr (Memᴰ.eq_of_singleton b)

  itself : Memᴰ f more
  itself = Memᴰ.append_right fs (Memᴰ.head refl)

  all_more : AllRead fs → (is_arc (kind_of f) ≡ true → reads f ≡ true) → AllRead more
  all_more a h g m e = go (newest g m)
    where
      go : Memᴰ g fs ⊎ (g ≡ f) → reads g ≡ true
      go (inl b) = a g b e
      go (inr q) = rw q (h (rw q at e))

  all-fewer : AllRead more → AllRead fs
  all-fewer a g m e = a g (Memᴰ.append_left (f ∷ []) m) e

  grows : (k : Kind) (i : ℕ) → fields_at k i fs ≤ fields_at k i more
  grows k i = omega (arith, count-snoc k i fs f)

  past-fewer : (h : ℕ) → NonePast h more → NonePast h fs
  past-fewer h c k e i l = omega (arith, grows k i, c k e i l)

  -- ==== a field that says nothing

  module _ (e : said_by f ≡ nothing) (z : Sets) (w : Told fs z) where
    silent : (k : Kind) (i : ℕ) → fields_at k i more ≡ fields_at k i fs
    silent k i = count-snoc k i fs f ∙ rw (stands-not f e k i) (omega arith)

    told-silent : (u : ℕ) → (u ≡ 0 → AllRead more) → (AllRead more → u ≡ 0)
        → Told more (record { places = z.places; cvs = z.cvs; unreadable = u; repeated = z.repeated; highest = z.highest })
    told-silent u read unread =
        record {
          shaped = w.shaped;
          long = w.long;
          read = read;
          unread = unread;
          once = λ q k a i r. rw (silent k i) (w.once q k a i r);
          single = λ c. w.single (λ k a i r. rw (silent k i) at (c k a i r));
          empty = λ k a i r p. silent k i ∙ w.empty k a i r p;
          free = λ k a i r c. w.free k a i r (sym (silent k i) ∙ c);
          past = λ k a i h. silent k i ∙ w.past k a i h;
          least = λ h c. w.least h (past-fewer h c);
          most = w.most;
          cv = λ q g m x n s d. go q g x n s d (newest g m);
        }
      where
        go : z.repeated ≡ 0 → (g : Field) (x : Said) (n : ℕ) → kind_of g ≡ Seal → said_by g ≡ got x n → Memᴰ g fs ⊎ (g ≡ f)
            → get_or z.cvs (x.instance - 1) 0 ≡ x.cv
        go q g x n s d (inl m) = w.cv q g m x n s d
        go q g x n s d (inr h) = absurd (no-got (sym e ∙ (ap said_by (sym h) ∙ d)))

    -- of another name
    told-passed : is_arc (kind_of f) ≡ false → Told more z
    told-passed a =
        told-silent z.unreadable (λ q. all_more (w.read q) (λ b. absurd (both _ a b))) (λ c. w.unread (all-fewer c))

    -- unreadable
    told-unread : is_arc (kind_of f) ≡ true → (n : ℕ) → Told more (recorded (suc n) (kind_of f) nothing z)
    told-unread a n =
        told-silent (first z.unreadable (suc n)) (λ q. absurd (first_some z.unreadable n q))
        (λ c. absurd (both (reads f) (reads-not f e) (c f itself a)))

  -- ==== a field that reads

  module _ (arc : is_arc (kind_of f) ≡ true) (x : Said) (m : ℕ) (e : said_by f ≡ got x m) (z : Sets) (w : Told fs z) where
    abbrev own : Kind
    own = kind_of f

    abbrev at : ℕ
    at = x.instance

    range : InRange at
    range = says_range own (body_of f) x m e

    -- its own place, or another
    data Counted (k : Kind) (i : ℕ) : Type 0 where
      here : k ≡ own → i ≡ at → fields_at k i more ≡ suc (fields_at own at fs) → Counted k i
      elsewhere : (k ≡ own → i ≡ at → ⊥) → fields_at k i more ≡ fields_at k i fs → Counted k i

    counted : (k : Kind) (i : ℕ) → Counted k i
    counted k i = go (stands_at k i f) refl
      where
        go : (t : Bool) → stands_at k i f ≡ t → Counted k i
        go true s =
            let o = stands-only f x m e k i s in
            let c : fields_at k i more ≡ suc (fields_at k i fs) = count-snoc k i fs f ∙ rw s (omega arith) in
            here o.0 (sym o.1) (c ∙ rw (o.0, ← o.1))
        go false s = elsewhere (λ p q. both _ s (rw (p, q) (stands-own f x m e))) (count-snoc k i fs f ∙ rw s (omega arith))

    said_read : z.unreadable ≡ 0 → AllRead more
    said_read q = all_more (w.read q) (λ a. reads-said f x m e)

    said-unread : AllRead more → z.unreadable ≡ 0
    said-unread c = w.unread (all-fewer c)

    -- ==== its place is empty

    module _ (n : ℕ) (p : place_of z.places at own ≡ 0) where
      none_here : fields_at own at fs ≡ 0
      none_here = w.empty own arc at range p

      put-once : z.repeated ≡ 0 → (k : Kind) → is_arc k ≡ true → (i : ℕ) → InRange i → fields_at k i more ≤ 1
      put-once q k a i r = go (counted k i)
        where
          go : Counted k i → fields_at k i more ≤ 1
          go (here s t c) = omega (arith, c, none_here)
          go (elsewhere o c) = omega (arith, c, w.once q k a i r)

      put-empty : (k : Kind) → is_arc k ≡ true → (i : ℕ) → InRange i → place_of (stored z.places at own (suc n)) i k ≡ 0 → fields_at k i more ≡ 0
      put-empty k a i r q = go (counted k i)
        where
          go : Counted k i → fields_at k i more ≡ 0
          go (here s t c) = absurd (let o : suc n ≡ 0 = sym (stored-own z.places w.shaped at range own (suc n) arc) ∙ (rw (s, t) at q) in omega arith)
          go (elsewhere o c) = c ∙ w.empty k a i r (sym (stored_other z.places w.shaped at range own (suc n) i r k o) ∙ q)

      put-free : (k : Kind) → is_arc k ≡ true → (i : ℕ) → InRange i → fields_at k i more ≡ 0 → place_of (stored z.places at own (suc n)) i k ≡ 0
      put-free k a i r q = go (counted k i)
        where
          go : Counted k i → place_of (stored z.places at own (suc n)) i k ≡ 0
          go (here s t c) = absurd (omega (arith, c, q))
          go (elsewhere o c) = stored_other z.places w.shaped at range own (suc n) i r k o ∙ w.free k a i r (sym c ∙ q)

      put-past : NonePast (cond (ltb z.highest at) at z.highest) more
      put-past k a i h = go (counted k i)
        where
          go : Counted k i → fields_at k i more ≡ 0
          go (here s t c) = absurd (omega (arith, higher z.highest at, h, t))
          go (elsewhere o c) = c ∙ w.past k a i (omega (arith, higher z.highest at, h))

      put-least : (h : ℕ) → NonePast h more → cond (ltb z.highest at) at z.highest ≤ h
      put-least h c = cond-le (ltb z.highest at) at z.highest h (λ t. go (ltb h at) refl) (w.least h (past-fewer h c))
        where
          go : (t : Bool) → ltb h at ≡ t → at ≤ h
          go true l = absurd (omega (arith, c own arc at (ltb-true h at l), count-some own at more f itself (stands-own f x m e)))
          go false l = ltb-false h at l

      put-cv : z.repeated ≡ 0 → (g : Field) → Memᴰ g more → (y : Said) (l : ℕ) → kind_of g ≡ Seal → said_by g ≡ got y l
          → get_or (sealed own at x.cv z.cvs) (y.instance - 1) 0 ≡ y.cv
      put-cv q g mem y l s d = go (newest g mem)
        where
          go : Memᴰ g fs ⊎ (g ≡ f) → get_or (sealed own at x.cv z.cvs) (y.instance - 1) 0 ≡ y.cv
          go (inl b) =
              let o : own ≡ Seal → y.instance - 1 ≡ at - 1 → ⊥ = λ k j.
              let i : y.instance ≡ at = omega (arith, range, says_range (kind_of g) (body_of g) y l d, j) in
              let t : stands_at own at g ≡ true = rw (k, ← s, ← i) (stands-own g y l d) in
              omega (arith, none_here, count-some own at fs g b t) in
              sealed-other own at x.cv z.cvs (y.instance - 1) o ∙ w.cv q g b y l s d
          go (inr h) =
              let t : got x m ≡ got y l = sym e ∙ (ap said_by (sym h) ∙ d) in
              let v : x ≡ y = cc in
              rw (← v) (sealed-own own at x.cv z.cvs (rw h at s) (omega (arith, range, w.long)))

      told-put : Told more (put (suc n) own x z)
      told-put =
          record {
            shaped = stored-shaped z.places w.shaped at range own (suc n);
            long = sealed-long own at x.cv z.cvs ∙ w.long;
            read = said_read;
            unread = said-unread;
            once = put-once;
            single = λ c. w.single (λ k a i r. omega (arith, grows k i, c k a i r));
            empty = put-empty;
            free = put-free;
            past = put-past;
            least = put-least;
            most = cond-le (ltb z.highest at) at z.highest last_instance (λ t. range.1) w.most;
            cv = put-cv;
          }

    -- ==== its place is taken

    module _ (n : ℕ) (p : place_of z.places at own ≡ 0 → ⊥) where
      some-here : fields_at own at fs ≡ 0 → ⊥
      some-here c = p (w.free own arc at range c)

      again-empty : (k : Kind) → is_arc k ≡ true → (i : ℕ) → InRange i → place_of z.places i k ≡ 0 → fields_at k i more ≡ 0
      again-empty k a i r q = go (counted k i)
        where
          go : Counted k i → fields_at k i more ≡ 0
          go (here s t c) = absurd (p (rw (s, t) at q))
          go (elsewhere o c) = c ∙ w.empty k a i r q

      again-past : NonePast z.highest more
      again-past k a i h = go (counted k i)
        where
          go : Counted k i → fields_at k i more ≡ 0
          go (here s t c) = absurd (some-here (w.past own arc at (rw t at h)))
          go (elsewhere o c) = c ∙ w.past k a i h

      again-single : ((k : Kind) → is_arc k ≡ true → (i : ℕ) → InRange i → fields_at k i more ≤ 1) → first z.repeated (suc n) ≡ 0
      again-single c = go (counted own at)
        where
          go : Counted own at → first z.repeated (suc n) ≡ 0
          go (here s t d) = absurd (some-here (omega (arith, d, c own arc at range)))
          go (elsewhere o d) = absurd (o refl refl)

      told-again : Told more (record { places = z.places; cvs = z.cvs; unreadable = z.unreadable; repeated = first z.repeated (suc n); highest = z.highest })
      told-again =
          record {
            shaped = w.shaped;
            long = w.long;
            read = said_read;
            unread = said-unread;
            once = λ q. absurd (first_some z.repeated n q);
            single = again-single;
            empty = again-empty;
            free = λ k a i r q. w.free k a i r (omega (arith, grows k i, q));
            past = again-past;
            least = λ h c. w.least h (past-fewer h c);
            most = w.most;
            cv = λ q. absurd (first_some z.repeated n q);
          }

    told-placed : (n : ℕ) → Told more (placed (suc n) own x z)
    unfolding placed
    told-placed n = go (eqb (place_of z.places at own) 0) refl
      where
        go : (t : Bool) → eqb (place_of z.places at own) 0 ≡ t → Told more (placed (suc n) own x z)
        go true q = rw (placed, q) (told-put n (eqb-true _ 0 q))
        go false q = rw (placed, q) (told-again n (eqb-false _ 0 q))

  -- ==== any field

  pub told-noted : (n : ℕ) (z : Sets) → Told fs z → Told more (noted (suc n) (kind_of f) (body_of f) z)
  told-noted n z w = go (is_arc (kind_of f)) refl
    where
      said : is_arc (kind_of f) ≡ true → (g : Got Said) → said_by f ≡ g → Told more (recorded (suc n) (kind_of f) g z)
      said a nothing e = told-unread e z w a n
      said a (got x m) e = told-placed a x m e z w n

      go : (t : Bool) → is_arc (kind_of f) ≡ t → Told more (noted (suc n) (kind_of f) (body_of f) z)
      go true a = rw (noted-arc (suc n) (kind_of f) (body_of f) z a) (said a (said_by f) refl)
      go false a = rw (noted_other (suc n) (kind_of f) (body_of f) z a) (told-passed (says_other (kind_of f) (body_of f) a) z w a)

-- ==== all of them

gathered-told : (gs : List Field) (n : ℕ) (fs : List Field) (z : Sets) → Told gs z → Told (gs ++ fs) (gathered n fs z)
unfolding gathered
gathered-told gs n [] z w = rw append-nil w
gathered-told gs n (f ∷ fs) z w =
    rw (← append_assoc gs (f ∷ []) fs) (gathered-told (gs ++ (f ∷ [])) (suc n) fs (noted (suc n) (kind_of f) (body_of f) z) (told-noted gs f n z w))

pub sets-told : (fs : List Field) → Told fs (gathered 0 fs no_sets)
sets-told fs = gathered-told [] 0 fs no_sets told_none
