-- Kinds, instances, and the fields of a kind at an instance counted: an instance that reads is from 1 to 50; a field stands at its own
-- place and at no other, and one more field adds to the count there; a count is not 0 exactly where there is such a field. By cases on
-- kinds and on what a field says, and by induction on the fields.
use Prim.Native.Nat.{ℕ, zero, suc, ◌+◌, ◌≤◌, ◌<◌}
use native.Mathlib.Nat.{not-suc-le-zero}
use native.Mathlib.Omega.{arith}
use mathlib.Core.Path.{◌≡◌, refl, sym, ap, ◌∙◌, subst}
use mathlib.Core.Bool.{Bool, true, false, cond, ◌&&◌}
use mathlib.Core.List.Memᴰ
use mathlib.Core.List.{List, [], ◌∷◌, ◌++◌, Memᴰ}
use mathlib.Core.Logic.{◌⊎◌, inl, inr}
use lib.Dec.{eqb, leb}
use lib.ListN.{length, drop}
use borrow.Author.Tests.{eqb-true, eq-eqb, leb-true}
use Rattle.base_sequences.proofs.Booleans.{no_true, and_left, and_right, and_none}
use Rattle.base_readers.specs.Texts.{within}
use Rattle.base_readers.specs.Parsers.{nothing, got, Parser, ◌>>=◌, give, when}
use Rattle.base_readers.proofs.Sequencing.{no-got, bind_inv, give-inv, when-inv}
use Rattle.lexis_rules.specs.Pieces.{decimal}
use Rattle.block_rules.specs.Fields.{Field, select}
use Rattle.block_laws.proofs.Fields.{select_yes, select_no}
use Rattle.arc_rules.specs.declared.Kind.{Kind}
use Rattle.arc_rules.specs.declared.Kind.TheVariants.{Results, Signature, Seal, Other}
use Rattle.arc_rules.specs.Sets.{first_instance, last_instance, is_instance, instance, Said, says}
use Rattle.arc_rules.specs.Chain.{column}
use Rattle.arc_rules.specs.Accepted.{kind_of, is_arc, said_by, reads, same_kind, stands_at, fields_at}

-- ==== kinds

-- the kind of a column
abbrev kind_in : ℕ → Kind
kind_in zero = Results
kind_in (suc zero) = Signature
kind_in (suc (suc zero)) = Seal
kind_in (suc (suc (suc n))) = Other

kind-column : (k : Kind) → kind_in (column k) ≡ k
kind-column Results = refl
kind-column Signature = refl
kind-column Seal = refl
kind-column Other = refl

-- different kinds have different columns
pub column-other : (a b : Kind) → (a ≡ b → ⊥) → column a ≡ column b → ⊥
column-other a b ne e = ne (sym (kind-column a) ∙ (ap kind_in e ∙ kind-column b))

-- the three columns are those of the three kinds
pub column-arc : (k : Kind) → is_arc k ≡ true → column k < 3
column-arc Results e = omega arith
column-arc Signature e = omega arith
column-arc Seal e = omega arith
column-arc Other e = absurd (no_true e)

pub record KindAt (j : ℕ) : Type 0 where
  pub kind : Kind
  pub arc : is_arc kind ≡ true
  pub stands : column kind ≡ j

pub kind_at : (j : ℕ) → j < 3 → KindAt j
kind_at zero h = record { kind = Results; arc = refl; stands = refl }
kind_at (suc zero) h = record { kind = Signature; arc = refl; stands = refl }
kind_at (suc (suc zero)) h = record { kind = Seal; arc = refl; stands = refl }
kind_at (suc (suc (suc n))) h = absurd (omega arith)

same-column : (a b : Kind) → same_kind a b ≡ eqb (column a) (column b)
same-column Results Results = refl
same-column Results Signature = refl
same-column Results Seal = refl
same-column Results Other = refl
same-column Signature Results = refl
same-column Signature Signature = refl
same-column Signature Seal = refl
same-column Signature Other = refl
same-column Seal Results = refl
same-column Seal Signature = refl
same-column Seal Seal = refl
same-column Seal Other = refl
same-column Other Results = refl
same-column Other Signature = refl
same-column Other Seal = refl
same-column Other Other = refl

same-eq : (a b : Kind) → same_kind a b ≡ true → a ≡ b
same-eq a b e =
    let c : column a ≡ column b = eqb-true (column a) (column b) (sym (same-column a b) ∙ e) in
    sym (kind-column a) ∙ (ap kind_in c ∙ kind-column b)

same_refl : (a : Kind) → same_kind a a ≡ true
same_refl a = same-column a a ∙ eq-eqb (column a) (column a) refl

-- ==== an instance that reads is from 1 to 50

abbrev pub InRange : ℕ → Type 0
InRange i = (first_instance ≤ i) × (i ≤ last_instance)

-- all that a parser gives has a property
abbrev Gives : {A : Type 0} → Parser A → (A → Type 0) → Type 0
Gives {A} p P = (xs : List ℕ) (a : A) (n : ℕ) → p xs ≡ got a n → P a

module _ {A B : Type 0} (p : Parser A) (f : A → Parser B) where
  then-gives : {Q : B → Type 0} → ((a : A) → Gives (f a) Q) → Gives (◌>>=◌ p f) Q
  then-gives g xs b n h = let v = bind_inv p f xs b n h in g v.val (drop v.fst xs) b v.snd v.goes

  bind-gives : {P : A → Type 0} {Q : B → Type 0} → Gives p P → ((a : A) → P a → Gives (f a) Q) → Gives (◌>>=◌ p f) Q
  bind-gives q g xs b n h =
      let v = bind_inv p f xs b n h in
      g v.val (q xs v.val v.fst v.reads) (drop v.fst xs) b v.snd v.goes

give-gives : {A : Type 0} (P : A → Type 0) (a : A) → P a → Gives (give a) P
give-gives P a w xs b n h = subst P (give-inv a xs b n h).0 w

when-gives : (t : Bool) → Gives (when t) (λ u. t ≡ true)
when-gives t xs u n h = (when-inv t xs u n h).0

instance-in : (d : List ℕ) → is_instance d ≡ true → InRange (decimal 0 d)
unfolding is_instance within
instance-in d e =
    let w = and_right (leb (length d) 2) (leb first_instance (decimal 0 d) && leb (decimal 0 d) last_instance) e in
    (leb-true first_instance (decimal 0 d) (and_left _ _ w), leb-true (decimal 0 d) last_instance (and_right (leb first_instance (decimal 0 d)) _ w))

instance-gives : Gives instance InRange
unfolding instance
instance-gives =
    then-gives _ _ (λ a. then-gives _ _ (λ b. then-gives _ _ (λ c. then-gives _ _ (λ d. then-gives _ _ (λ e. then-gives _ _ (λ t.
    bind-gives _ _ (when-gives (is_instance t)) (λ u w. then-gives _ _ (λ f. then-gives _ _ (λ g. give-gives InRange (decimal 0 t) (instance-in t w))))))))))

-- what is said has such an instance
abbrev SaidIn : Said → Type 0
SaidIn x = InRange x.instance

pub says_range : (k : Kind) (xs : List ℕ) (x : Said) (m : ℕ) → says k xs ≡ got x m → InRange x.instance
unfolding says
says_range Results = bind-gives _ _ instance-gives (λ i r. give-gives SaidIn _ r)
says_range Signature = bind-gives _ _ instance-gives (λ i r. then-gives _ _ (λ t. then-gives _ _ (λ u. give-gives SaidIn _ r)))
says_range Seal = bind-gives _ _ instance-gives (λ i r. then-gives _ _ (λ t. then-gives _ _ (λ u. give-gives SaidIn _ r)))
says_range Other = λ xs x m h. absurd (no-got h)

-- a field of another kind says nothing
pub says_other : (k : Kind) (xs : List ℕ) → is_arc k ≡ false → says k xs ≡ nothing
unfolding says
says_other Results xs e = absurd (no_true (sym e))
says_other Signature xs e = absurd (no_true (sym e))
says_other Seal xs e = absurd (no_true (sym e))
says_other Other xs e = refl

-- ==== where a field stands

module _ (f : Field) where
  pub reads-not : said_by f ≡ nothing → reads f ≡ false
  unfolding reads
  reads-not e = rw (reads, e)

  pub reads-said : (x : Said) (m : ℕ) → said_by f ≡ got x m → reads f ≡ true
  unfolding reads
  reads-said x m e = rw (reads, e)

  -- one that says nothing stands nowhere
  pub stands-not : said_by f ≡ nothing → (k : Kind) (i : ℕ) → stands_at k i f ≡ false
  unfolding stands_at
  stands-not e k i = rw (stands_at, e) (and_none (same_kind k (kind_of f)))

  pub stands-own : (x : Said) (m : ℕ) → said_by f ≡ got x m → stands_at (kind_of f) x.instance f ≡ true
  unfolding stands_at
  stands-own x m e = rw (stands_at, e, same_refl (kind_of f)) (eq-eqb x.instance x.instance refl)

  pub stands-only : (x : Said) (m : ℕ) → said_by f ≡ got x m → (k : Kind) (i : ℕ) → stands_at k i f ≡ true → (k ≡ kind_of f) × (x.instance ≡ i)
  unfolding stands_at
  stands-only x m e k i s =
      let w : (same_kind k (kind_of f) && eqb x.instance i) ≡ true = rw (stands_at, e) at s in
      (same-eq k (kind_of f) (and_left _ _ w), eqb-true x.instance i (and_right (same_kind k (kind_of f)) _ w))

-- ==== counts

-- what one field adds
abbrev pub one : Kind → ℕ → Field → ℕ
one k i f = cond (stands_at k i f) 1 0

module _ (k : Kind) (i : ℕ) where
  count-cons : (f : Field) (fs : List Field) → fields_at k i (f ∷ fs) ≡ one k i f + fields_at k i fs
  count-cons f fs = go (stands_at k i f) refl
    where
      go : (t : Bool) → stands_at k i f ≡ t → fields_at k i (f ∷ fs) ≡ one k i f + fields_at k i fs
      go true e = rw (select_yes (stands_at k i) f fs e, e) (omega arith)
      go false e = rw (select_no (stands_at k i) f fs e, e) (omega arith)

  pub count-snoc : (fs : List Field) (f : Field) → fields_at k i (fs ++ (f ∷ [])) ≡ fields_at k i fs + one k i f
  unfolding select
  count-snoc [] f = count-cons f [] ∙ omega arith
  count-snoc (g ∷ fs) f = count-cons g (fs ++ (f ∷ [])) ∙ omega (arith, count-snoc fs f, count-cons g fs)

  -- a field that stands there is counted
  pub count-some : (fs : List Field) (f : Field) → Memᴰ f fs → stands_at k i f ≡ true → 1 ≤ fields_at k i fs
  count-some [] f m s = absurd (Memᴰ.not-nil m)
  count-some (g ∷ fs) f m s = go (count-some fs f) (Memᴰ.cases_cons m)
    where
      go : (Memᴰ f fs → stands_at k i f ≡ true → 1 ≤ fields_at k i fs) → (f ≡ g) ⊎ Memᴰ f fs → 1 ≤ fields_at k i (g ∷ fs)
      go ih (inl e) = let w : one k i g ≡ 1 = rw (← e, s) in omega (arith, w, count-cons g fs)
      go ih (inr n) = omega (arith, ih n s, count-cons g fs)

  -- and what is counted is such a field
  pub record Standing (fs : List Field) : Type 0 where
    pub field : Field
    pub member : Memᴰ field fs
    pub stands : stands_at k i field ≡ true

  pub count-field : (fs : List Field) → 1 ≤ fields_at k i fs → Standing fs
  unfolding select
  count-field [] h = absurd (not-suc-le-zero h)
  count-field (f ∷ fs) h = go (stands_at k i f) refl (count-field fs)
    where
      go : (t : Bool) → stands_at k i f ≡ t → (1 ≤ fields_at k i fs → Standing fs) → Standing (f ∷ fs)
      go true e ih = record { field = f; member = Memᴰ.head refl; stands = e }
      go false e ih =
          let w = ih (rw (select_no (stands_at k i) f fs e) at h) in
          record { field = w.field; member = Memᴰ.tail w.member; stands = w.stands }
