-- One field noted: it takes its place, is repeated, can't be read or is of another kind, and what the code leaves is what the definition
-- says. Then all fields, one turn of the loop at a time. An instance that reads is from 1 to 50, so the highest gathered from nothing is at
-- most 50, and storing keeps the lengths of the table.
use Prim.Native.Nat.{ℕ, suc, ◌+◌, ◌-◌, ◌≤◌, ◌<◌}
use native.Mathlib.Numerals.{add-one}
use native.Mathlib.Omega.{arith}
use mathlib.Core.Path.{◌≡◌, refl, sym, ap, ◌∙◌}
use mathlib.Core.Bool.{Bool, true, false, cond}
use mathlib.Core.List.{List, [], ◌∷◌}
use mathlib.Core.Option.{none, some}
use Rattle.std.specs.Prelude.{Option, Some, None}
use borrow.Author.Tests.{eqb-true, eqb-false, eq-eqb, ne_eqb}
use lib.Dec.{eqb, ltb}
use lib.ListN.{length, get_or, set, take, drop, replicate, length-drop, length-set, get_or-replicate}
use lib.Seq.{length-take-le, get_or-set_same, get_or-set_other}
use Rattle.base_sequences.proofs.Booleans.{no_true, cond-le}
use Rattle.base_readers.specs.Parsers.{Got, nothing, got}
use Rattle.lexis_rules.specs.Limits.{byte_limit}
use Rattle.block.specs.declared.Next.TheVariants as next
use Rattle.block.specs.declared.Next.TheVariants.{End, Refused}
use Rattle.block_rules.specs.Fields as blocks
use Rattle.block_rules.specs.Fields.{name_of, body_of}
use Rattle.block.specs.Steps.{next_from}
use Rattle.block.proofs.Steps.{rest_walk, field_from, Cut, step_field, step_end, step-refused, part-name, part_body}
use Rattle.arc.specs.declared.Field.{Field}
use Rattle.arc.specs.declared.Counts.{Counts}
use Rattle.arc_fields.specs.declared.Instance.{Instance}
use Rattle.arc_rules.specs.declared.Kind.{Kind}
use Rattle.arc_rules.specs.declared.Kind.TheVariants.{Results, Signature, Seal, Other}
use Rattle.arc_rules.specs.Sets.{kind_named, last_instance, Said, says}
use Rattle.arc_rules.specs.Chain.{Sets, no_sets, column, first, sealed, placed, recorded, noted, gathered}
use Rattle.arc_fields.specs.Answers.{no_instance}
use Rattle.arc_laws.proofs.Counting.{InRange, says_range}
use Rattle.arc.specs.Internal.{field_said, said_of, is_other, sets_of, no_counts, GatheredFrom, Places}

-- ==== a field that reads

module _ (kind : Kind) (n i cv : ℕ) (p : List (List ℕ)) (v : List ℕ) (c : Counts) (k : ℕ) (q : k ≡ column kind) where
  -- its place is taken
  pub place-taken : (get_or (get_or p (i - 1) []) k 0 ≡ 0 → ⊥) → (r : ℕ) → r ≡ first c.repeated n
      → sets_of p v (record { unreadable = c.unreadable; repeated = r; highest = c.highest }) ≡ placed n kind (record { instance = i; cv = cv }) (sets_of p v c)
  unfolding placed
  place-taken h r e = let t : eqb (get_or (get_or p (i - 1) []) (column kind) 0) 0 ≡ false = ne_eqb _ 0 (rw q at h) in rw (placed, t, e)

  -- its place is free
  pub place-free : get_or (get_or p (i - 1) []) k 0 ≡ 0 → (m : ℕ) → m ≡ n → (v' : List ℕ) → v' ≡ sealed kind i cv v → (r : ℕ) → r ≡ cond (ltb c.highest i) i c.highest
      → sets_of (set p (i - 1) (set (get_or p (i - 1) []) k m)) v' (record { unreadable = c.unreadable; repeated = c.repeated; highest = r })
      ≡ placed n kind (record { instance = i; cv = cv }) (sets_of p v c)
  unfolding placed
  place-free h m a v' b r e = let t : eqb (get_or (get_or p (i - 1) []) (column kind) 0) 0 ≡ true = eq-eqb _ 0 (rw q at h) in rw (placed, t, a, b, e, q)

-- ==== a field of a kind

module _ (n : ℕ) (body : List ℕ) (z : Sets) where
  -- it is passed over
  other-noted : (k : Kind) → is_other k ≡ true → z ≡ noted n k body z
  other-noted Results o = absurd (no_true o)
  other-noted Signature o = absurd (no_true o)
  other-noted Seal o = absurd (no_true o)
  other-noted Other o = refl

  -- it is heard
  note-heard : (k : Kind) → is_other k ≡ false → noted n k body z ≡ recorded n k (says k body) z
  note-heard Results o = refl
  note-heard Signature o = refl
  note-heard Seal o = refl
  note-heard Other o = absurd (no_true (sym o))

  -- the code's test says so
  pub note-other : (kind : Kind) (other : Bool) → other ≡ is_other kind → other ≡ true → z ≡ noted n kind body z
  note-other kind other h e = other-noted kind (sym h ∙ e)

-- one of the three columns
note-column : (k : Kind) → is_other k ≡ false → column k < 3
note-column Results o = omega arith
note-column Signature o = omega arith
note-column Seal o = omega arith
note-column Other o = absurd (no_true (sym o))

-- what a field says was got by its parser
record SaidBy (kind : Kind) (body : List ℕ) (x : Said) : Type 0 where
  pub end : ℕ
  pub reads : says kind body ≡ got x end

-- a reading of the code is one of the parser
said-by : (kind : Kind) (body : List ℕ) (x : Said) → some x ≡ said_of kind body → SaidBy kind body x
unfolding said_of
said-by kind body x e = go (says kind body) refl
  where
    go : (g : Got Said) → says kind body ≡ g → SaidBy kind body x
    go nothing q = absurd (let o : some x ≡ none = rw (said_of, q) at e in let z : ◌≡◌ {A = ℕ} 0 1 = cc in omega arith)
    go (got y m) q = let o : some x ≡ some y = rw (said_of, q) at e in let s : y ≡ x = cc in record { end = m; reads = q ∙ rw s }

-- .. and so is a refusal
said-none : (kind : Kind) (body : List ℕ) → none ≡ said_of kind body → says kind body ≡ nothing
unfolding said_of
said-none kind body e = go (says kind body) refl
  where
    go : (g : Got Said) → says kind body ≡ g → says kind body ≡ nothing
    go nothing q = q
    go (got y m) q = absurd (let o : none ≡ some y = rw (said_of, q) at e in let z : ◌≡◌ {A = ℕ} 0 1 = cc in omega arith)

-- ==== what the code found in a field of one of the three kinds

module _ (kind : Kind) (n : ℕ) (body : List ℕ) (other : Bool) (h : other ≡ is_other kind) (e : other ≡ false) (f : Option Field) (w : field_said f ≡ said_of kind body) where
  module _ (x : Field) (q : f ≡ Some x) where
    read : SaidBy kind body (record { instance = x.instance; cv = x.cv })
    read = said-by kind body _ (rw q at w)

    -- its instance is one of the fifty, and its kind has a column
    pub read-range : n < 65536 → ((1 ≤ x.instance) × (x.instance ≤ last_instance)) × ((column kind < 3) × (n < 65536))
    read-range l = let r = says_range kind body _ _ read.reads in (r, (note-column kind (sym h ∙ e), l))

    -- it is placed
    pub note-read : (z z' : Sets) → z' ≡ placed n kind (record { instance = x.instance; cv = x.cv }) z → z' ≡ noted n kind body z
    note-read z z' y = y ∙ sym (note-heard n body z kind (sym h ∙ e) ∙ rw read.reads)

  -- it can't be read
  pub note-unread : f ≡ None → (p : List (List ℕ)) (v : List ℕ) (c : Counts) (m : ℕ) → m ≡ first c.unreadable n
      → sets_of p v (record { unreadable = m; repeated = c.repeated; highest = c.highest }) ≡ noted n kind body (sets_of p v c)
  note-unread q p v c m y = rw y (sym (note-heard n body (sets_of p v c) kind (sym h ∙ e) ∙ rw (said-none kind body (rw q at w))))

-- ==== the table keeps its shape, and no instance is higher than 50

-- fifty rows of three, fifty chain values
pub record Fitting (z : Sets) : Type 0 where
  pub table : Places z.places
  pub values : length z.cvs ≡ last_instance
  pub highest : z.highest ≤ last_instance

-- a row that is stored keeps its length
set-kept : (p : List (List ℕ)) (j k n : ℕ) → Places p → Places (set p j (set (get_or p j []) k n))
set-kept p j k n w =
    record {
      instances = length-set p j _ ∙ w.instances;
      kinds = λ i h. go i h (eqb i j) refl;
    }
  where
    go : (i : ℕ) → i < last_instance → (t : Bool) → eqb i j ≡ t → length (get_or (set p j (set (get_or p j []) k n)) i []) ≡ 3
    go i h true q =
        let e : i ≡ j = eqb-true i j q in
        let l : j < length p = omega (arith, w.instances) in
        rw (e, get_or-set_same p j (set (get_or p j []) k n) [] l, length-set) (rw e at (w.kinds i h))
    go i h false q = rw (get_or-set_other p j i (set (get_or p j []) k n) [] (eqb-false i j q)) (w.kinds i h)

-- so does the list of chain values
sealed-kept : (k : Kind) (i c : ℕ) (v : List ℕ) → length (sealed k i c v) ≡ length v
sealed-kept Results i c v = refl
sealed-kept Signature i c v = refl
sealed-kept Seal i c v = length-set v (i - 1) c
sealed-kept Other i c v = refl

module _ (n : ℕ) (k : Kind) (z : Sets) (w : Fitting z) where
  placed-fits : (x : Said) → InRange x.instance → Fitting (placed n k x z)
  unfolding placed
  placed-fits x r = go (eqb (get_or (get_or z.places (x.instance - 1) []) (column k) 0) 0) refl
    where
      go : (t : Bool) → eqb (get_or (get_or z.places (x.instance - 1) []) (column k) 0) 0 ≡ t → Fitting (placed n k x z)
      go true q =
          rw (placed, q) (record {
            table = set-kept z.places (x.instance - 1) (column k) n w.table;
            values = sealed-kept k x.instance x.cv z.cvs ∙ w.values;
            highest = cond-le (ltb z.highest x.instance) x.instance z.highest last_instance (λ e. r.1) w.highest;
          })
      go false q = rw (placed, q) (record { table = w.table; values = w.values; highest = w.highest })

  heard-fits : (body : List ℕ) (g : Got Said) → says k body ≡ g → Fitting (recorded n k g z)
  heard-fits body nothing e = record { table = w.table; values = w.values; highest = w.highest }
  heard-fits body (got x m) e = placed-fits x (says_range k body x m e)

noted-fits : (n : ℕ) (k : Kind) (body : List ℕ) (z : Sets) → Fitting z → Fitting (noted n k body z)
noted-fits n Results body z w = heard-fits n Results z w body (says Results body) refl
noted-fits n Signature body z w = heard-fits n Signature z w body (says Signature body) refl
noted-fits n Seal body z w = heard-fits n Seal z w body (says Seal body) refl
noted-fits n Other body z w = w

gathered-fits : (n : ℕ) (fs : List blocks.Field) (z : Sets) → Fitting z → Fitting (gathered n fs z)
unfolding gathered
gathered-fits n [] z w = w
gathered-fits n (f ∷ fs) z w = gathered-fits (suc n) fs _ (noted-fits (suc n) (kind_named (name_of f)) (body_of f) z w)

-- gathered from nothing
pub nothing-fits : (fs : List blocks.Field) → Fitting (gathered 0 fs no_sets)
nothing-fits fs = gathered-fits 0 fs no_sets (record { table = record { instances = refl; kinds = λ i h. rw (get_or-replicate last_instance i (replicate {A = ℕ} 3 0) [] h) }; values = refl; highest = omega arith })

-- ==== all fields of a block

-- a field's body is no longer than the block, and its number is small
pub body-fits : (s : List ℕ) (at count a n b e : ℕ) → Cut s at count a n b e → length s ≤ byte_limit → (length (take (e - 2 - b) (drop b s)) ≤ byte_limit) × (count + 1 < 65536)
body-fits s at count a n b e u l =
    let d : length (drop b s) ≡ length s - b = length-drop b s in
    let m : length (take (e - 2 - b) (drop b s)) ≡ e - 2 - b = length-take-le (e - 2 - b) (drop b s) (rw d (omega (arith, u.labelled, u.bodied, u.inside))) in
    (rw m (omega (arith, u.inside)), omega (arith, u.below))

-- the loop stands at a place, after so many fields: what is left is gathered to what the whole is
pub record Gathering (s : List ℕ) (p₀ : List (List ℕ)) (v₀ : List ℕ) (p : List (List ℕ)) (v : List ℕ) (at count : ℕ) (c : Counts) : Type 0 where
  pub number : (rest_walk s at count).number ≡ (blocks.fields s).number
  pub place : (rest_walk s at count).place ≡ (blocks.fields s).place
  pub sets : gathered count (rest_walk s at count).items (sets_of p v c) ≡ gathered 0 (blocks.fields s).items (sets_of p₀ v₀ no_counts)
  pub inside : at ≤ length s

-- before the first field
pub read-sets-start : (s : List ℕ) (p : List (List ℕ)) (v : List ℕ) (r : Instance) → r ≡ no_instance
    → Gathering s p v p v 0 0 (record { unreadable = 0; repeated = 0; highest = r.number })
read-sets-start s p v r e = record { number = refl; place = refl; sets = rw e; inside = omega arith }

module _ (s : List ℕ) (p₀ : List (List ℕ)) (v₀ : List ℕ) (p : List (List ℕ)) (v : List ℕ) (at count : ℕ) (c : Counts) (w : Gathering s p₀ v₀ p v at count c) where
  -- nothing is left
  read-sets-ended : (n q : ℕ) → rest_walk s at count ≡ record { items = []; number = n; place = q } → GatheredFrom s p₀ v₀ p v (record { number = n; place = q; counts = c })
  unfolding gathered
  read-sets-ended n q e = record { number = rw e at w.number; place = rw e at w.place; sets = rw e at w.sets }

  pub read-sets-end : End ≡ next_from at count (drop at s) → GatheredFrom s p₀ v₀ p v (record { number = 0; place = 0; counts = c })
  read-sets-end e = read-sets-ended 0 0 (step_end s at count e)

  pub read-sets-refused : (n q : ℕ) → Refused n q ≡ next_from at count (drop at s) → GatheredFrom s p₀ v₀ p v (record { number = n; place = q; counts = c })
  read-sets-refused n q e = read-sets-ended n q (step-refused s at count n q e)

  -- one field more
  pub read-sets-more : (a n b e : ℕ) → next.Field a n b e ≡ next_from at count (drop at s) → (k : Kind) → k ≡ kind_named (take (n - a) (drop a s))
      → (p' : List (List ℕ)) (v' : List ℕ) (c' : Counts) → sets_of p' v' c' ≡ noted (count + 1) k (take (e - 2 - b) (drop b s)) (sets_of p v c)
      → Gathering s p₀ v₀ p' v' e (count + 1) c'
  unfolding gathered
  read-sets-more a n b e q k y p' v' c' z =
      let u = step_field s at count a n b e q in
      let x : kind_named (name_of (field_from s a n b e)) ≡ k = ap kind_named (part-name s a n b e u.named u.labelled u.bodied u.inside) ∙ sym y in
      let l = part_body s a n b e u.named u.labelled u.bodied u.inside in
      let m : noted (suc count) (kind_named (name_of (field_from s a n b e))) (body_of (field_from s a n b e)) (sets_of p v c) ≡ sets_of p' v' c' =
      ap (λ (t : List ℕ). noted (suc count) (kind_named (name_of (field_from s a n b e))) t (sets_of p v c)) l
      ∙ ap (λ (t : Kind). noted (suc count) t (take (e - 2 - b) (drop b s)) (sets_of p v c)) x
      ∙ sym (rw add-one at z) in
      record {
        number = rw u.more at w.number;
        place = rw u.more at w.place;
        sets = rw add-one (ap (gathered (suc count) (rest_walk s e (suc count)).items) (sym m) ∙ rw (u.more, add-one) at w.sets);
        inside = u.inside;
      }
