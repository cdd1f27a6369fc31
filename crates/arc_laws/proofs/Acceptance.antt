-- A chain is built exactly where its fields are accepted: the tests of an outcome hold exactly at sets with no empty place and the
-- prescribed chain values up to the highest instance, by cases in their order and by induction on rows and values; what the sets say of
-- the fields is the invariant of gathering. The outcome is none only where there is no ARC field.
use Prim.Native.Nat.{ℕ, zero, suc, ◌-◌, ◌≤◌, ◌<◌, suc-le-suc}
use native.Mathlib.Nat.{le_of_suc-le-suc, not-suc-le-zero}
use native.Mathlib.Omega.{arith}
use mathlib.Core.Path.{◌≡◌, refl, sym, ap, ◌∙◌}
use mathlib.Core.Bool.{Bool, true, false, cond}
use mathlib.Core.List.{List, [], ◌∷◌, Memᴰ}
use lib.Dec.{eqb, ltb}
use lib.ListN.{length, get_or, take}
use lib.Seq.{get_or-take, length-take-le}
use borrow.Author.Tests.{eqb-true, eqb-false, eq-eqb, ne_eqb, ltb-true, ltb-false}
use Rattle.base_sequences.proofs.Booleans.{no_true, both, and_left, and_right}
use Rattle.base_readers.specs.Parsers.{Got, nothing, got}
use Rattle.block_rules.specs.Fields.{Field, body_of}
use Rattle.arc_rules.specs.declared.Kind.{Kind}
use Rattle.arc_rules.specs.declared.Kind.TheVariants.{Results, Seal}
use Rattle.arc_rules.specs.Sets.{last_instance, Said}
use Rattle.arc_rules.specs.Chain.{Sets, place_of, column, none, failed, built, row_empty, any_empty, all_pass, prescribed, complete_outcome, outcome_of, outcome, gathered, no_sets}
use Rattle.arc_rules.specs.Accepted.{kind_of, is_arc, said_by, reads, stands_at, fields_at, cv_prescribed, Accepted}
use Rattle.arc_laws.proofs.Counting.{InRange, column-arc, kind_at, says_range, reads-not, stands-not, stands-own, stands-only, count-some, count-field}
use Rattle.arc_laws.proofs.Storing.{Shaped}
use Rattle.arc_laws.proofs.Gathering.{Told, sets-told}

-- ==== no empty place

row-full : (r : List ℕ) → row_empty r ≡ false → (j : ℕ) → j < length r → get_or r j 0 ≡ 0 → ⊥
unfolding row_empty
row-full [] e j h = absurd (not-suc-le-zero h)
row-full (x ∷ r) e j h = go (eqb x 0) refl (row-full r) j h
  where
    go : (t : Bool) → eqb x 0 ≡ t → (row_empty r ≡ false → (j : ℕ) → j < length r → get_or r j 0 ≡ 0 → ⊥)
        → (j : ℕ) → j < length (x ∷ r) → get_or (x ∷ r) j 0 ≡ 0 → ⊥
    go true q ih j h = absurd (no_true (sym (rw (row_empty, q) at e)))
    go false q ih zero h = eqb-false x 0 q
    go false q ih (suc j) h = ih (rw (row_empty, q) at e) j (le_of_suc-le-suc h)

full-row : (r : List ℕ) → ((j : ℕ) → j < length r → get_or r j 0 ≡ 0 → ⊥) → row_empty r ≡ false
unfolding row_empty
full-row [] h = refl
full-row (x ∷ r) h = rw (ne_eqb x 0 (h 0 (omega arith))) (full-row r (λ j l. h (suc j) (suc-le-suc l)))

table-full : (t : List (List ℕ)) → any_empty t ≡ false → (j : ℕ) → j < length t → row_empty (get_or t j []) ≡ false
unfolding any_empty
table-full [] e j h = absurd (not-suc-le-zero h)
table-full (r ∷ t) e j h = go (row_empty r) refl (table-full t) j h
  where
    go : (b : Bool) → row_empty r ≡ b → (any_empty t ≡ false → (j : ℕ) → j < length t → row_empty (get_or t j []) ≡ false)
        → (j : ℕ) → j < length (r ∷ t) → row_empty (get_or (r ∷ t) j []) ≡ false
    go true q ih j h = absurd (no_true (sym (rw (any_empty, q) at e)))
    go false q ih zero h = q
    go false q ih (suc j) h = ih (rw (any_empty, q) at e) j (le_of_suc-le-suc h)

full-table : (t : List (List ℕ)) → ((j : ℕ) → j < length t → row_empty (get_or t j []) ≡ false) → any_empty t ≡ false
unfolding any_empty
full-table [] h = refl
full-table (r ∷ t) h = rw (h 0 (omega arith)) (full-table t (λ j l. h (suc j) (suc-le-suc l)))

-- each place of the instances up to n
abbrev pub Full : ℕ → List (List ℕ) → Type 0
Full n t = (k : Kind) → is_arc k ≡ true → (i : ℕ) → 1 ≤ i → i ≤ n → place_of t i k ≡ 0 → ⊥

module _ (n : ℕ) (t : List (List ℕ)) (w : Shaped t) (m : n ≤ last_instance) where
  front : length (take n t) ≡ n
  front = length-take-le n t (omega (arith, w.rows))

  pub places-full : any_empty (take n t) ≡ false → Full n t
  places-full e k a i l h =
      let j : i - 1 < n = omega arith in
      let r : row_empty (get_or t (i - 1) []) ≡ false = rw (get_or-take n t (i - 1) [] j) at (table-full (take n t) e (i - 1) (omega (arith, front))) in
      row-full (get_or t (i - 1) []) r (column k) (omega (arith, column-arc k a, w.columns (i - 1) (omega arith)))

  pub full-places : Full n t → any_empty (take n t) ≡ false
  full-places f = full-table (take n t) (λ j h. row j (rw front at h))
    where
      row : (j : ℕ) → j < n → row_empty (get_or (take n t) j []) ≡ false
      row j h = rw (get_or-take n t j [] h) (full-row (get_or t j []) (λ c l. cell c (rw (w.columns j (omega arith)) at l)))
        where
          cell : (c : ℕ) → c < 3 → get_or (get_or t j []) c 0 ≡ 0 → ⊥
          cell c l =
              let k = kind_at c l in
              let s : suc j - 1 ≡ j = omega arith in
              rw (k.stands, s) at (f k.kind k.arc (suc j) (omega arith) (omega arith))

-- ==== the chain values

passes-all : (cs : List ℕ) → all_pass cs ≡ true → (j : ℕ) → j < length cs → get_or cs j 0 ≡ 2
unfolding all_pass
passes-all [] e j h = absurd (not-suc-le-zero h)
passes-all (c ∷ cs) e zero h = eqb-true c 2 (and_left (eqb c 2) (all_pass cs) e)
passes-all (c ∷ cs) e (suc j) h = passes-all cs (and_right (eqb c 2) (all_pass cs) e) j (le_of_suc-le-suc h)

all-passes : (cs : List ℕ) → ((j : ℕ) → j < length cs → get_or cs j 0 ≡ 2) → all_pass cs ≡ true
unfolding all_pass
all-passes [] h = refl
all-passes (c ∷ cs) h = rw (eq-eqb c 2 (h 0 (omega arith))) (all-passes cs (λ j l. h (suc j) (suc-le-suc l)))

-- pass after the first instance
cv-later : (j : ℕ) → cv_prescribed (suc (suc j)) ≡ 2
cv-later j = rw (ne_eqb (suc (suc j)) 1 (λ e. omega (arith, e)))

prescribed-at : (cs : List ℕ) → prescribed cs ≡ true → (j : ℕ) → j < length cs → get_or cs j 0 ≡ cv_prescribed (suc j)
unfolding prescribed
prescribed-at [] e j h = absurd (not-suc-le-zero h)
prescribed-at (c ∷ cs) e zero h = eqb-true c 1 (and_left (eqb c 1) (all_pass cs) e)
prescribed-at (c ∷ cs) e (suc j) h = passes-all cs (and_right (eqb c 1) (all_pass cs) e) j (le_of_suc-le-suc h) ∙ sym (cv-later j)

at-prescribed : (cs : List ℕ) → ((j : ℕ) → j < length cs → get_or cs j 0 ≡ cv_prescribed (suc j)) → prescribed cs ≡ true
unfolding prescribed
at-prescribed [] h = refl
at-prescribed (c ∷ cs) h = rw (eq-eqb c 1 (h 0 (omega arith))) (all-passes cs (λ j l. h (suc j) (suc-le-suc l) ∙ cv-later j))

-- no prescribed value is fail
prescribed-low : (i : ℕ) → cv_prescribed i ≤ 2
prescribed-low i = go (eqb i 1)
  where
    go : (t : Bool) → cond t 1 2 ≤ 2
    go true = omega arith
    go false = omega arith

abbrev pub Prescribed : ℕ → List ℕ → Type 0
Prescribed n cs = (i : ℕ) → 1 ≤ i → i ≤ n → get_or cs (i - 1) 0 ≡ cv_prescribed i

module _ (n : ℕ) (cs : List ℕ) (m : n ≤ length cs) where
  pub values-prescribed : prescribed (take n cs) ≡ true → Prescribed n cs
  values-prescribed e i l h =
      let s : suc (i - 1) ≡ i = omega arith in
      sym (get_or-take n cs (i - 1) 0 (omega arith))
      ∙ (prescribed-at (take n cs) e (i - 1) (omega (arith, length-take-le n cs m)) ∙ ap cv_prescribed s)

  pub prescribed-values : Prescribed n cs → prescribed (take n cs) ≡ true
  prescribed-values f = at-prescribed (take n cs) (λ j h. value j (rw (length-take-le n cs m) at h))
    where
      value : (j : ℕ) → j < n → get_or (take n cs) j 0 ≡ cv_prescribed (suc j)
      value j h = let s : suc j - 1 ≡ j = omega arith in get_or-take n cs j 0 h ∙ (rw s at (f (suc j) (omega arith) h))

-- ==== outcomes

-- what is known of sets from which a chain of n instances is built
record Built (z : Sets) (n : ℕ) : Type 0 where
  read : z.unreadable ≡ 0
  once : z.repeated ≡ 0
  highest : z.highest ≡ n
  some : 1 ≤ n
  full : any_empty (take n z.places) ≡ false
  passed : eqb (get_or z.cvs (n - 1) 0) 3 ≡ false
  values : prescribed (take n z.cvs) ≡ true

built-not : (a b n : ℕ) → failed a b ≡ built n → ⊥
built-not a b n e = let o : ◌≡◌ {A = ℕ} 0 1 = cc in omega arith

pub built-none : (n : ℕ) → none ≡ built n → ⊥
built-none n e = let o : ◌≡◌ {A = ℕ} 0 1 = cc in omega arith

built-same : (n m : ℕ) → built n ≡ built m → n ≡ m
built-same n m e = cc

built-inv : (z : Sets) (n : ℕ) → outcome_of z ≡ built n → Built z n
unfolding outcome_of complete_outcome
built-inv z n e = unreadable z.unreadable refl
  where
    values : z.unreadable ≡ 0 → z.repeated ≡ 0 → (h : ℕ) → z.highest ≡ suc h → any_empty (take (suc h) z.places) ≡ false
        → eqb (get_or z.cvs (suc h - 1) 0) 3 ≡ false → (t : Bool) → prescribed (take (suc h) z.cvs) ≡ t → Built z n
    values a b h c d f false g = absurd (built-not 5 0 n (rw (outcome_of, a, b, c, complete_outcome, d, f, g) at e))
    values a b h c d f true g =
        let s : suc h ≡ n = built-same (suc h) n (rw (outcome_of, a, b, c, complete_outcome, d, f, g) at e) in
        rw (← s) (record { read = a; once = b; highest = c; some = omega arith; full = d; passed = f; values = g })

    last : z.unreadable ≡ 0 → z.repeated ≡ 0 → (h : ℕ) → z.highest ≡ suc h → any_empty (take (suc h) z.places) ≡ false
        → (t : Bool) → eqb (get_or z.cvs (suc h - 1) 0) 3 ≡ t → Built z n
    last a b h c d true f = absurd (built-not 4 0 n (rw (outcome_of, a, b, c, complete_outcome, d, f) at e))
    last a b h c d false f = values a b h c d f (prescribed (take (suc h) z.cvs)) refl

    places : z.unreadable ≡ 0 → z.repeated ≡ 0 → (h : ℕ) → z.highest ≡ suc h → (t : Bool) → any_empty (take (suc h) z.places) ≡ t → Built z n
    places a b h c true d = absurd (built-not 3 0 n (rw (outcome_of, a, b, c, complete_outcome, d) at e))
    places a b h c false d = last a b h c d (eqb (get_or z.cvs (suc h - 1) 0) 3) refl

    highest : z.unreadable ≡ 0 → z.repeated ≡ 0 → (h : ℕ) → z.highest ≡ h → Built z n
    highest a b zero c = absurd (built-none n (rw (outcome_of, a, b, c) at e))
    highest a b (suc h) c = places a b h c (any_empty (take (suc h) z.places)) refl

    repeated : z.unreadable ≡ 0 → (r : ℕ) → z.repeated ≡ r → Built z n
    repeated a zero b = highest a b z.highest refl
    repeated a (suc r) b = absurd (built-not 2 (suc r) n (rw (outcome_of, a, b) at e))

    unreadable : (u : ℕ) → z.unreadable ≡ u → Built z n
    unreadable zero a = repeated a z.repeated refl
    unreadable (suc u) a = absurd (built-not 1 (suc u) n (rw (outcome_of, a) at e))

built-is : (z : Sets) (n : ℕ) → Built z n → outcome_of z ≡ built n
unfolding outcome_of complete_outcome
built-is z zero w = absurd (not-suc-le-zero w.some)
built-is z (suc n) w = rw (outcome_of, w.read, w.once, w.highest, complete_outcome, w.full, w.passed, w.values)

-- ==== accepted fields

module _ (fs : List Field) (z : Sets) (t : Told fs z) (n : ℕ) where
  built-accepted : Built z n → Accepted fs n
  built-accepted b =
      record {
        from = b.some;
        to = omega (arith, t.most, b.highest);
        reads = t.read b.read;
        one = one;
        none = λ k a i h. t.past k a i (omega (arith, h, b.highest));
        cv = cv;
      }
    where
      low : n ≤ last_instance
      low = omega (arith, t.most, b.highest)

      one : (k : Kind) → is_arc k ≡ true → (i : ℕ) → 1 ≤ i → i ≤ n → fields_at k i fs ≡ 1
      one k a i l h =
          let r : InRange i = (l, omega (arith, low)) in
          let some : fields_at k i fs ≡ 0 → ⊥ = λ c. places-full n z.places t.shaped low b.full k a i l h (t.free k a i r c) in
          omega (arith, some, t.once b.once k a i r)

      cv : (f : Field) → Memᴰ f fs → (x : Said) (m : ℕ) → kind_of f ≡ Seal → said_by f ≡ got x m → x.cv ≡ cv_prescribed x.instance
      cv f mem x m s e =
          let r = says_range (kind_of f) (body_of f) x m e in
          let c : 1 ≤ fields_at Seal x.instance fs = count-some Seal x.instance fs f mem (rw (← s) (stands-own f x m e)) in
          let h : x.instance ≤ n = inside x.instance c (ltb n x.instance) refl in
          sym (t.cv b.once f mem x m s e) ∙ values-prescribed n z.cvs (omega (arith, low, t.long)) b.values x.instance r.0 h
        where
          inside : (i : ℕ) → 1 ≤ fields_at Seal i fs → (v : Bool) → ltb n i ≡ v → i ≤ n
          inside i c true q = absurd (omega (arith, c, t.past Seal refl i (omega (arith, ltb-true n i q, b.highest))))
          inside i c false q = ltb-false n i q

  accepted-built : Accepted fs n → Built z n
  accepted-built a =
      record {
        read = t.unread a.reads;
        once = once;
        highest = highest;
        some = a.from;
        full = full-places n z.places t.shaped a.to full;
        passed = ne_eqb (get_or z.cvs (n - 1) 0) 3 (λ e. omega (arith, e, values n a.from (omega arith), prescribed-low n));
        values = prescribed-values n z.cvs (omega (arith, a.to, t.long)) values;
      }
    where
      few : (k : Kind) → is_arc k ≡ true → (i : ℕ) → InRange i → (v : Bool) → ltb n i ≡ v → fields_at k i fs ≤ 1
      few k c i r true q = omega (arith, a.none k c i (ltb-true n i q))
      few k c i r false q = omega (arith, a.one k c i r.0 (ltb-false n i q))

      once : z.repeated ≡ 0
      once = t.single (λ k c i r. few k c i r (ltb n i) refl)

      up : (v : Bool) → ltb z.highest n ≡ v → n ≤ z.highest
      up true q = absurd (omega (arith, a.one Results refl n a.from (omega arith), t.past Results refl n (ltb-true z.highest n q)))
      up false q = ltb-false z.highest n q

      highest : z.highest ≡ n
      highest = omega (arith, t.least n a.none, up (ltb z.highest n) refl)

      full : (k : Kind) → is_arc k ≡ true → (i : ℕ) → 1 ≤ i → i ≤ n → place_of z.places i k ≡ 0 → ⊥
      full k c i l h p = omega (arith, a.one k c i l h, t.empty k c i (l, omega (arith, a.to)) p)

      values : (i : ℕ) → 1 ≤ i → i ≤ n → get_or z.cvs (i - 1) 0 ≡ cv_prescribed i
      values i l h = let s = count-field Seal i fs (omega (arith, a.one Seal refl i l h)) in go s.field s.member s.stands (said_by s.field) refl
        where
          go : (f : Field) → Memᴰ f fs → stands_at Seal i f ≡ true → (g : Got Said) → said_by f ≡ g → get_or z.cvs (i - 1) 0 ≡ cv_prescribed i
          go f mem s nothing e = absurd (both (stands_at Seal i f) (stands-not f e Seal i) s)
          go f mem s (got x m) e =
              let o = stands-only f x m e Seal i s in
              rw o.1 at (t.cv once f mem x m (sym o.0) e ∙ a.cv f mem x m (sym o.0) e)

pub accepted-exactly : (fs : List Field) (n : ℕ) → (outcome fs ≡ built n → Accepted fs n) × (Accepted fs n → outcome fs ≡ built n)
accepted-exactly fs n =
    let t = sets-told fs in
    let z = gathered 0 fs no_sets in
    ((λ e. built-accepted fs z t n (built-inv z n e)), (λ a. built-is z n (accepted-built fs z t n a)))

-- ==== none

-- what is known of sets whose outcome is none
none-inv : (z : Sets) → outcome_of z ≡ none → (z.unreadable ≡ 0) × (z.highest ≡ 0)
unfolding outcome_of complete_outcome
none-inv z e = unreadable z.unreadable refl
  where
    failed-not : (a b : ℕ) → failed a b ≡ none → ⊥
    failed-not a b q = let o : ◌≡◌ {A = ℕ} 0 1 = cc in omega arith

    complete-not : (h : ℕ) → complete_outcome h z ≡ none → ⊥
    complete-not h q = places (any_empty (take h z.places)) refl
      where
        values : any_empty (take h z.places) ≡ false → eqb (get_or z.cvs (h - 1) 0) 3 ≡ false → (t : Bool) → prescribed (take h z.cvs) ≡ t → ⊥
        values c d true f = built-none h (sym (rw (complete_outcome, c, d, f) at q))
        values c d false f = failed-not 5 0 (rw (complete_outcome, c, d, f) at q)

        last : any_empty (take h z.places) ≡ false → (t : Bool) → eqb (get_or z.cvs (h - 1) 0) 3 ≡ t → ⊥
        last c true d = failed-not 4 0 (rw (complete_outcome, c, d) at q)
        last c false d = values c d (prescribed (take h z.cvs)) refl

        places : (t : Bool) → any_empty (take h z.places) ≡ t → ⊥
        places true c = failed-not 3 0 (rw (complete_outcome, c) at q)
        places false c = last c (eqb (get_or z.cvs (h - 1) 0) 3) refl

    highest : z.unreadable ≡ 0 → z.repeated ≡ 0 → (h : ℕ) → z.highest ≡ h → (z.unreadable ≡ 0) × (z.highest ≡ 0)
    highest a b zero c = (a, c)
    highest a b (suc h) c = absurd (complete-not (suc h) (rw (outcome_of, a, b, c) at e))

    repeated : z.unreadable ≡ 0 → (r : ℕ) → z.repeated ≡ r → (z.unreadable ≡ 0) × (z.highest ≡ 0)
    repeated a zero b = highest a b z.highest refl
    repeated a (suc r) b = absurd (failed-not 2 (suc r) (rw (outcome_of, a, b) at e))

    unreadable : (u : ℕ) → z.unreadable ≡ u → (z.unreadable ≡ 0) × (z.highest ≡ 0)
    unreadable zero a = repeated a z.repeated refl
    unreadable (suc u) a = absurd (failed-not 1 (suc u) (rw (outcome_of, a) at e))

-- then no field is an ARC field: one that reads would stand past the highest instance
pub none-without : (fs : List Field) → outcome fs ≡ none → (f : Field) → Memᴰ f fs → is_arc (kind_of f) ≡ false
none-without fs e f mem = go (is_arc (kind_of f)) refl
  where
    w : Told fs (gathered 0 fs no_sets)
    w = sets-told fs

    known : ((gathered 0 fs no_sets).unreadable ≡ 0) × ((gathered 0 fs no_sets).highest ≡ 0)
    known = none-inv (gathered 0 fs no_sets) e

    said : is_arc (kind_of f) ≡ true → (g : Got Said) → said_by f ≡ g → ⊥
    said a nothing q = both (reads f) (reads-not f q) (w.read known.0 f mem a)
    said a (got x m) q =
        let r = says_range (kind_of f) (body_of f) x m q in
        let c = count-some (kind_of f) x.instance fs f mem (stands-own f x m q) in
        omega (arith, c, w.past (kind_of f) a x.instance (omega (arith, r, known.1)))

    go : (t : Bool) → is_arc (kind_of f) ≡ t → is_arc (kind_of f) ≡ false
    go true a = absurd (said a (said_by f) refl)
    go false a = a
