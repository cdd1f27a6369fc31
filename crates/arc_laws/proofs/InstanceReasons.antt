-- Reasons (c) to (e), which speak of instances: what the sets say of the highest instance, of empty places and of chain values is what the fields say.
-- By the invariant of gathering; of a test that holds somewhere, by induction.
use Prim.Native.Nat.{ℕ, zero, suc, ◌-◌, ◌≤◌, zero-le}
use native.Mathlib.Omega.{arith}
use mathlib.Core.Path.{◌≡◌, refl, sym, ap, ◌∙◌}
use mathlib.Core.Bool.{Bool, true, false, not, ◌&&◌}
use mathlib.Core.List.Memᴰ
use mathlib.Core.List.{List, [], ◌∷◌, Memᴰ}
use mathlib.Core.Logic.{◌⊎◌, inl, inr}
use lib.Dec.{eqb, ltb}
use lib.ListN.{length, get_or, take}
use borrow.Author.Tests.{eqb-true, eqb-false, eq-eqb, ne_eqb, ltb-true, ltb-false}
use Rattle.base_sequences.proofs.Booleans.{no_true, both, neither_left, neither_right, false-not, cond-le}
use Rattle.base_readers.specs.Parsers.{Got, nothing, got}
use Rattle.block_rules.specs.Fields.{Field, body_of}
use Rattle.arc_rules.specs.declared.Kind.{Kind}
use Rattle.arc_rules.specs.declared.Kind.TheVariants.{Results, Signature, Seal, Other}
use Rattle.arc_rules.specs.Sets.{last_instance, Said}
use Rattle.arc_rules.specs.Chain.{Sets, any_empty, prescribed}
use Rattle.arc_rules.specs.Accepted.{kind_of, is_arc, said_by, same_kind, stands_at, fields_at, cv_prescribed}
use Rattle.arc_rules.specs.Reasons.{instance_of, highest_instance, lacks, any_instance, empty_place, seal_has, any_seal, last_fails, other_value}
use Rattle.arc_laws.proofs.Counting.{says_range, says_other, stands-not, stands-own, stands-only, count-some, count-field}
use Rattle.arc_laws.proofs.Gathering.{Told, NonePast, higher}
use Rattle.arc_laws.proofs.Acceptance.{places-full, full-places, Prescribed, values-prescribed, prescribed-values}

-- ==== the highest instance

instance-said : (f : Field) (g : Got Said) → said_by f ≡ g → instance_of f ≡ elim g [ nothing ↦ 0 | got x n ↦ x.instance ]
instance-said f g e = ap (λ (g : Got Said). elim g [ nothing ↦ 0 | got x n ↦ x.instance ]) e

pub highest-member : (fs : List Field) (f : Field) → Memᴰ f fs → instance_of f ≤ highest_instance fs
unfolding highest_instance
highest-member [] f m = absurd (Memᴰ.not-nil m)
highest-member (g ∷ fs) f m = go (highest-member fs f) (Memᴰ.cases_cons m)
  where
    go : (Memᴰ f fs → instance_of f ≤ highest_instance fs) → (f ≡ g) ⊎ Memᴰ f fs → instance_of f ≤ highest_instance (g ∷ fs)
    go ih (inl e) = omega (arith, ap instance_of e, higher (instance_of g) (highest_instance fs))
    go ih (inr n) = omega (arith, ih n, higher (instance_of g) (highest_instance fs))

highest-most : (fs : List Field) (h : ℕ) → ((f : Field) → Memᴰ f fs → instance_of f ≤ h) → highest_instance fs ≤ h
unfolding highest_instance
highest-most [] h p = zero-le
highest-most (g ∷ fs) h p =
    cond-le (ltb (instance_of g) (highest_instance fs)) (highest_instance fs) (instance_of g) h (λ t. highest-most fs h (λ f m. p f (Memᴰ.tail m)))
    (p g (Memᴰ.head refl))

-- a field that stands at an instance has it
standing-instance : (f : Field) (k : Kind) (i : ℕ) → stands_at k i f ≡ true → instance_of f ≡ i
standing-instance f k i s = go (said_by f) refl
  where
    go : (g : Got Said) → said_by f ≡ g → instance_of f ≡ i
    go nothing e = absurd (both (stands_at k i f) (stands-not f e k i) s)
    go (got x m) e = instance-said f (got x m) e ∙ (stands-only f x m e k i s).1

highest-past : (fs : List Field) → NonePast (highest_instance fs) fs
highest-past fs k a i h = go (fields_at k i fs) refl
  where
    go : (c : ℕ) → fields_at k i fs ≡ c → fields_at k i fs ≡ 0
    go zero e = e
    go (suc c) e =
        let s = count-field k i fs (omega (arith, e)) in
        absurd (omega (arith, h, highest-member fs s.field s.member, standing-instance s.field k i s.stands))

pub highest-told : (fs : List Field) (z : Sets) → Told fs z → z.highest ≡ highest_instance fs
highest-told fs z t = omega (arith, t.least (highest_instance fs) (highest-past fs), highest-most fs z.highest below)
  where
    below : (f : Field) → Memᴰ f fs → instance_of f ≤ z.highest
    below f m = said (said_by f) refl
      where
        arc : (x : Said) (n : ℕ) → said_by f ≡ got x n → is_arc (kind_of f) ≡ true → (b : Bool) → ltb z.highest x.instance ≡ b → x.instance ≤ z.highest
        arc x n e a true l =
            absurd (omega (arith, count-some (kind_of f) x.instance fs f m (stands-own f x n e), t.past (kind_of f) a x.instance (ltb-true _ _ l)))
        arc x n e a false l = ltb-false z.highest x.instance l

        kind : (x : Said) (n : ℕ) → said_by f ≡ got x n → (b : Bool) → is_arc (kind_of f) ≡ b → x.instance ≤ z.highest
        kind x n e true a = arc x n e a (ltb z.highest x.instance) refl
        kind x n e false a = absurd (omega (arith, instance-said f (got x n) e, instance-said f nothing (says_other (kind_of f) (body_of f) a), says_range (kind_of f) (body_of f) x n e))

        said : (g : Got Said) → said_by f ≡ g → instance_of f ≤ z.highest
        said nothing e = omega (arith, instance-said f nothing e)
        said (got x n) e = omega (arith, instance-said f (got x n) e, kind x n e (is_arc (kind_of f)) refl)

-- ==== (c) an empty place in 1 to N

any_none : (test : ℕ → Bool) (n : ℕ) → any_instance test n ≡ false → (i : ℕ) → 1 ≤ i → i ≤ n → test i ≡ false
unfolding any_instance
any_none test zero e i l h = absurd (omega arith)
any_none test (suc n) e i l h = go (eqb i (suc n)) refl (any_none test n (neither_right (test (suc n)) (any_instance test n) e) i l)
  where
    go : (b : Bool) → eqb i (suc n) ≡ b → (i ≤ n → test i ≡ false) → test i ≡ false
    go true q ih = ap test (eqb-true i (suc n) q) ∙ neither_left (test (suc n)) (any_instance test n) e
    go false q ih = ih (omega (arith, h, eqb-false i (suc n) q))

none_any : (test : ℕ → Bool) (n : ℕ) → ((i : ℕ) → 1 ≤ i → i ≤ n → test i ≡ false) → any_instance test n ≡ false
unfolding any_instance
none_any test zero h = refl
none_any test (suc n) h = rw (h (suc n) (omega arith) (omega arith)) (none_any test n (λ i l m. h i l (omega arith)))

-- every place of an instance is taken
abbrev Taken : List Field → ℕ → Type 0
Taken fs i = (k : Kind) → is_arc k ≡ true → fields_at k i fs ≡ 0 → ⊥

lacks-not : (fs : List Field) (i : ℕ) → lacks fs i ≡ false → Taken fs i
lacks-not fs i e Results a = eqb-false (fields_at Results i fs) 0 (neither_left _ _ e)
lacks-not fs i e Signature a = eqb-false (fields_at Signature i fs) 0 (neither_left _ _ (neither_right (eqb (fields_at Results i fs) 0) _ e))
lacks-not fs i e Seal a =
    eqb-false (fields_at Seal i fs) 0 (neither_right (eqb (fields_at Signature i fs) 0) _ (neither_right (eqb (fields_at Results i fs) 0) _ e))
lacks-not fs i e Other a = absurd (no_true a)

not-lacks : (fs : List Field) (i : ℕ) → Taken fs i → lacks fs i ≡ false
not-lacks fs i h =
    rw (ne_eqb (fields_at Results i fs) 0 (h Results refl), ne_eqb (fields_at Signature i fs) 0 (h Signature refl))
    (ne_eqb (fields_at Seal i fs) 0 (h Seal refl))

same_false : (a b : Bool) → (a ≡ false → b ≡ false) → (b ≡ false → a ≡ false) → a ≡ b
same_false true true p q = refl
same_false true false p q = q refl
same_false false true p q = sym (p refl)
same_false false false p q = refl

same_not : (a b : Bool) → (a ≡ true → b ≡ false) → (b ≡ false → a ≡ true) → a ≡ not b
same_not true true p q = p refl
same_not true false p q = refl
same_not false true p q = refl
same_not false false p q = q refl

module _ (fs : List Field) (z : Sets) (t : Told fs z) where
  low : highest_instance fs ≤ last_instance
  low = omega (arith, t.most, highest-told fs z t)

  -- an instance up to the highest is one of the table
  pub empty-told : any_empty (take (highest_instance fs) z.places) ≡ empty_place fs
  empty-told = same_false _ _ there back
    where
      there : any_empty (take (highest_instance fs) z.places) ≡ false → empty_place fs ≡ false
      there e =
          none_any (lacks fs) (highest_instance fs)
          (λ i l h. not-lacks fs i (λ k a c. places-full (highest_instance fs) z.places t.shaped low e k a i l h (t.free k a i (l, omega (arith, h, low)) c)))

      back : empty_place fs ≡ false → any_empty (take (highest_instance fs) z.places) ≡ false
      back e =
          full-places (highest_instance fs) z.places t.shaped low
          (λ k a i l h p. lacks-not fs i (any_none (lacks fs) (highest_instance fs) e i l h) k a (t.empty k a i (l, omega (arith, h, low)) p))

-- ==== chain values

abbrev heard : (ℕ → ℕ → Bool) → Kind → Got Said → Bool
heard test k g = same_kind Seal k && (elim g [ nothing ↦ false | got x n ↦ test x.instance x.cv ])

module _ (test : ℕ → ℕ → Bool) where
  seal-heard : (f : Field) (k : Kind) (g : Got Said) → kind_of f ≡ k → said_by f ≡ g → seal_has test f ≡ heard test k g
  unfolding seal_has
  seal-heard f k g p q = ap (λ (l : Kind). heard test l (said_by f)) p ∙ ap (heard test k) q

  -- a test that holds of no seal
  abbrev NoSeal : List Field → Type 0
  NoSeal fs = (f : Field) → Memᴰ f fs → (x : Said) (m : ℕ) → kind_of f ≡ Seal → said_by f ≡ got x m → test x.instance x.cv ≡ false

  any-no-seal : (fs : List Field) → any_seal test fs ≡ false → NoSeal fs
  unfolding any_seal
  any-no-seal [] e f mem x m k s = absurd (Memᴰ.not-nil mem)
  any-no-seal (g ∷ fs) e f mem x m k s = go (any-no-seal fs (neither_right (seal_has test g) (any_seal test fs) e) f) (Memᴰ.cases_cons mem)
    where
      go : (Memᴰ f fs → (x : Said) (m : ℕ) → kind_of f ≡ Seal → said_by f ≡ got x m → test x.instance x.cv ≡ false)
          → (f ≡ g) ⊎ Memᴰ f fs → test x.instance x.cv ≡ false
      go ih (inl q) = sym (seal-heard f Seal (got x m) k s) ∙ (ap (seal_has test) q ∙ neither_left (seal_has test g) (any_seal test fs) e)
      go ih (inr n) = ih n x m k s

  pub no-seal-any : (fs : List Field) → NoSeal fs → any_seal test fs ≡ false
  unfolding any_seal
  no-seal-any [] h = refl
  no-seal-any (g ∷ fs) h = rw (kind (kind_of g) refl) (no-seal-any fs (λ f mem. h f (Memᴰ.tail mem)))
    where
      said : kind_of g ≡ Seal → (s : Got Said) → said_by g ≡ s → seal_has test g ≡ false
      said k nothing e = seal-heard g Seal nothing k e
      said k (got x m) e = seal-heard g Seal (got x m) k e ∙ h g (Memᴰ.head refl) x m k e

      kind : (k : Kind) → kind_of g ≡ k → seal_has test g ≡ false
      kind Results e = seal-heard g Results (said_by g) e refl
      kind Signature e = seal-heard g Signature (said_by g) e refl
      kind Seal e = said e (said_by g) refl
      kind Other e = seal-heard g Other (said_by g) e refl

-- a seal has an instance up to the highest
seal-inside : (fs : List Field) (f : Field) → Memᴰ f fs → (x : Said) (m : ℕ) → said_by f ≡ got x m → (1 ≤ x.instance) × (x.instance ≤ highest_instance fs)
seal-inside fs f mem x m e =
    let r = says_range (kind_of f) (body_of f) x m e in
    (r.0, omega (arith, instance-said f (got x m) e, highest-member fs f mem))

-- where there is no instance, no test holds of a seal
pub no-instance : (test : ℕ → ℕ → Bool) (fs : List Field) → highest_instance fs ≡ 0 → any_seal test fs ≡ false
no-instance test fs e = no-seal-any test fs (λ f mem x m k s. absurd (omega (arith, e, seal-inside fs f mem x m s)))

module _ (fs : List Field) (z : Sets) (t : Told fs z) (once : z.repeated ≡ 0) (full : empty_place fs ≡ false) where
  -- the seal at an instance
  record SealAt (i : ℕ) : Type 0 where
    seal : Field
    member : Memᴰ seal fs
    says : Said
    taken : ℕ
    kind : kind_of seal ≡ Seal
    said : said_by seal ≡ got says taken
    stands : says.instance ≡ i
    value : get_or z.cvs (i - 1) 0 ≡ says.cv

  seal-at : (i : ℕ) → 1 ≤ i → i ≤ highest_instance fs → SealAt i
  seal-at i l h =
      let c : fields_at Seal i fs ≡ 0 → ⊥ = lacks-not fs i (any_none (lacks fs) (highest_instance fs) full i l h) Seal refl in
      let s = count-field Seal i fs (omega (arith, c)) in
      go s.field s.member s.stands (said_by s.field) refl
    where
      go : (f : Field) → Memᴰ f fs → stands_at Seal i f ≡ true → (g : Got Said) → said_by f ≡ g → SealAt i
      go f mem s nothing e = absurd (both (stands_at Seal i f) (stands-not f e Seal i) s)
      go f mem s (got x m) e =
          let o = stands-only f x m e Seal i s in
          record {
            seal = f;
            member = mem;
            says = x;
            taken = m;
            kind = sym o.0;
            said = e;
            stands = o.1;
            value = rw o.1 at (t.cv once f mem x m (sym o.0) e);
          }

  -- (d) the seal at N has cv fail
  pub fail-told : 1 ≤ highest_instance fs → eqb (get_or z.cvs (highest_instance fs - 1) 0) 3 ≡ last_fails fs
  fail-told some = same_false _ _ there back
    where
      n : ℕ
      n = highest_instance fs

      there : eqb (get_or z.cvs (n - 1) 0) 3 ≡ false → last_fails fs ≡ false
      there e = no-seal-any (λ i c. eqb i n && eqb c 3) fs (λ f mem x m k s. go f mem x m k s (eqb x.instance n) refl)
        where
          go : (f : Field) → Memᴰ f fs → (x : Said) (m : ℕ) → kind_of f ≡ Seal → said_by f ≡ got x m → (b : Bool) → eqb x.instance n ≡ b
              → (eqb x.instance n && eqb x.cv 3) ≡ false
          go f mem x m k s false q = rw q
          go f mem x m k s true q =
              rw q
              (ap (λ (c : ℕ). eqb c 3) (sym (t.cv once f mem x m k s))
              ∙ (ap (λ (i : ℕ). eqb (get_or z.cvs (i - 1) 0) 3) (eqb-true x.instance n q) ∙ e))

      back : last_fails fs ≡ false → eqb (get_or z.cvs (n - 1) 0) 3 ≡ false
      back e =
          let s = seal-at n some (omega arith) in
          let w : (eqb s.says.instance n && eqb s.says.cv 3) ≡ false =
          any-no-seal (λ i c. eqb i n && eqb c 3) fs e s.seal s.member s.says s.taken s.kind s.said in
          ap (λ (c : ℕ). eqb c 3) s.value ∙ (rw (eq-eqb s.says.instance n s.stands) at w)

  -- (e) the seal at 1 isn't none or a later one isn't pass
  pub value-told : prescribed (take (highest_instance fs) z.cvs) ≡ not (other_value fs)
  value-told = same_not _ _ there back
    where
      long : highest_instance fs ≤ length z.cvs
      long = omega (arith, t.long, low fs z t)

      there : prescribed (take (highest_instance fs) z.cvs) ≡ true → other_value fs ≡ false
      there e =
          no-seal-any (λ i c. not (eqb c (cv_prescribed i))) fs
          (λ f mem x m k s.
          let r = seal-inside fs f mem x m s in
          false-not _ (eq-eqb x.cv (cv_prescribed x.instance) (sym (t.cv once f mem x m k s) ∙ values-prescribed (highest_instance fs) z.cvs long e x.instance r.0 r.1)))

      back : other_value fs ≡ false → prescribed (take (highest_instance fs) z.cvs) ≡ true
      back e = prescribed-values (highest_instance fs) z.cvs long value
        where
          sure : (a b : ℕ) → not (eqb a b) ≡ false → a ≡ b
          sure a b q = go (eqb a b) refl
            where
              go : (v : Bool) → eqb a b ≡ v → a ≡ b
              go true p = eqb-true a b p
              go false p = absurd (no_true (sym (rw p at q)))

          value : Prescribed (highest_instance fs) z.cvs
          value i l h =
              let s = seal-at i l h in
              let w = any-no-seal (λ i c. not (eqb c (cv_prescribed i))) fs e s.seal s.member s.says s.taken s.kind s.said in
              s.value ∙ (sure s.says.cv (cv_prescribed s.says.instance) w ∙ ap cv_prescribed s.stands)
