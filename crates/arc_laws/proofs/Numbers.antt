-- The ways in which judging answers, in the order of the answers: what holds in each, and the answer, spelled out. From it: which numbers there
-- are, and that each is given exactly when its rule says so.
use Prim.Native.Nat.{ℕ, zero, suc, ◌≤◌, ◌<◌}
use native.Mathlib.Omega.{arith}
use mathlib.Core.Path.{◌≡◌, refl, sym, ap, ◌∙◌}
use mathlib.Core.Bool.{Bool, true, false, cond}
use mathlib.Core.List.{List}
use mathlib.Core.Logic.{◌⊎◌, ⊎_elim}
use borrow.Author.Tests.{ltb-true, ltb-false}
use lib.Dec.{ltb}
use lib.ListN.{length}
use Rattle.base_sequences.proofs.Booleans.{both}
use Rattle.lexis_rules.specs.Limits.{byte_limit}
use Rattle.block_rules.specs.Fields.{fields}
use Rattle.block_laws.proofs.Fields.{fields-numbers}
use Rattle.arc_rules.specs.Terms.{Known}
use Rattle.arc_rules.specs.Chain.{Outcome, none, failed, built, outcome, valid_for, passes, oldest_pass, Answer, judged, judge}

-- a number and its place, and 0 for everything else
abbrev pub nothing_else : ℕ → ℕ → Answer
nothing_else n p = record { number = n; place = p; outcome = 0; reason = 0; field = 0; instances = 0; status = 0; oldest = 0 }

-- the chain failed for a reason
abbrev pub failing : ℕ → ℕ → Answer
failing r f = record { number = 0; place = 0; outcome = 1; reason = r; field = f; instances = 0; status = 2; oldest = 0 }

-- the chain is built, and the verdicts are read
abbrev pub building : ℕ → List ℕ → Answer
building n vs =
    record {
      number = 0;
      place = 0;
      outcome = 2;
      reason = 0;
      field = 0;
      instances = n;
      status = cond (passes vs) 1 2;
      oldest = cond (passes vs) (oldest_pass vs) 0;
    }

pub data Way (block vs : List ℕ) : Type 0 where
  long : byte_limit < length block → judge block vs ≡ nothing_else 1 0 → Way block vs
  cut : length block ≤ byte_limit → (n : ℕ) → (fields block).number ≡ n → 2 ≤ n → n ≤ 4 → judge block vs ≡ nothing_else n (fields block).place → Way block vs
  without : length block ≤ byte_limit → (fields block).number ≡ 0 → outcome (fields block).items ≡ none → judge block vs ≡ nothing_else 0 0 → Way block vs
  fails : length block ≤ byte_limit → (fields block).number ≡ 0 → (r f : ℕ) → outcome (fields block).items ≡ failed r f → judge block vs ≡ failing r f
      → Way block vs
  bad : length block ≤ byte_limit → (fields block).number ≡ 0 → (n : ℕ) → outcome (fields block).items ≡ built n → valid_for n vs ≡ false
      → judge block vs ≡ nothing_else 10 0 → Way block vs
  whole : length block ≤ byte_limit → (fields block).number ≡ 0 → (n : ℕ) → outcome (fields block).items ≡ built n → valid_for n vs ≡ true
      → judge block vs ≡ building n vs → Way block vs

judged-valid : (n : ℕ) (vs : List ℕ) → valid_for n vs ≡ true → judged (built n) vs ≡ building n vs
unfolding judged
judged-valid n vs e = go (passes vs) refl
  where
    go : (t : Bool) → passes vs ≡ t → judged (built n) vs ≡ building n vs
    go true q = rw (judged, e, q)
    go false q = rw (judged, e, q)

judged-invalid : (n : ℕ) (vs : List ℕ) → valid_for n vs ≡ false → judged (built n) vs ≡ nothing_else 10 0
unfolding judged
judged-invalid n vs e = rw (judged, e)

pub way : (block vs : List ℕ) → Way block vs
unfolding judge judged
way block vs = big (ltb byte_limit (length block)) refl
  where
    chain : length block ≤ byte_limit → (fields block).number ≡ 0 → judge block vs ≡ judged (outcome (fields block).items) vs
        → (o : Outcome) → outcome (fields block).items ≡ o → Way block vs
    chain a b i none q = without a b q (i ∙ ap (λ (x : Outcome). judged x vs) q)
    chain a b i (failed r f) q = fails a b r f q (i ∙ ap (λ (x : Outcome). judged x vs) q)
    chain a b i (built n) q = verdicts (valid_for n vs) refl
      where
        verdicts : (t : Bool) → valid_for n vs ≡ t → Way block vs
        verdicts true v = whole a b n q v (i ∙ (ap (λ (x : Outcome). judged x vs) q ∙ judged-valid n vs v))
        verdicts false v = bad a b n q v (i ∙ (ap (λ (x : Outcome). judged x vs) q ∙ judged-invalid n vs v))

    walk : length block ≤ byte_limit → ltb byte_limit (length block) ≡ false → (n : ℕ) → (fields block).number ≡ n → Way block vs
    walk a l zero c = chain a c (rw (judge, l, c)) (outcome (fields block).items) refl
    walk a l (suc n) c = let k = fields-numbers block n c in cut a (suc n) c k.0 k.1 (rw (judge, l, c))

    big : (t : Bool) → ltb byte_limit (length block) ≡ t → Way block vs
    big true l = long (ltb-true byte_limit (length block) l) (rw (judge, l))
    big false l = walk (ltb-false byte_limit (length block) l) l (fields block).number refl

-- ==== when each number is given

-- an answer with one number has no other
other : {A : Type 0} (a b : Answer) (n : ℕ) → a ≡ b → a.number ≡ n → (b.number ≡ n → ⊥) → A
other a b n e q not = absurd (not (sym (ap (λ (x : Answer). x.number) e) ∙ q))

-- built with other verdicts than there may be, or not
built-one : {A : Type 0} (n m : ℕ) (o : Outcome) (vs : List ℕ) → o ≡ built n → o ≡ built m → valid_for n vs ≡ true → valid_for m vs ≡ false → A
built-one n m o vs p q t f =
    let z : n ≡ m = ap (λ (x : Outcome). elim x [ none ↦ 0 | failed r g ↦ 0 | built k ↦ k ]) (sym p ∙ q) in
    absurd (let y : ◌≡◌ {A = ℕ} 0 1 = cc in omega arith)

module _ (block vs : List ℕ) where
  pub one-when : (judge block vs).number ≡ 1 → byte_limit < length block
  one-when e =
      elim (way block vs) [
        | long l q ↦ l
        | cut l n f i j q ↦ other _ _ 1 q e (λ z. omega arith)
        | without l f o q ↦ other _ _ 1 q e (λ z. omega arith)
        | fails l f r g o q ↦ other _ _ 1 q e (λ z. omega arith)
        | bad l f n o v q ↦ other _ _ 1 q e (λ z. omega arith)
        | whole l f n o v q ↦ other _ _ 1 q e (λ z. omega arith)
      ]

  pub when-one : byte_limit < length block → judge block vs ≡ nothing_else 1 0
  when-one h =
      elim (way block vs) [
        | long l q ↦ q
        | cut l n f i j q ↦ absurd (omega arith)
        | without l f o q ↦ absurd (omega arith)
        | fails l f r g o q ↦ absurd (omega arith)
        | bad l f n o v q ↦ absurd (omega arith)
        | whole l f n o v q ↦ absurd (omega arith)
      ]

  pub walk-when : (n : ℕ) → 2 ≤ n → n ≤ 4 → (judge block vs).number ≡ n → (length block ≤ byte_limit) × ((fields block).number ≡ n)
  walk-when n a b e =
      elim (way block vs) [
        | long l q ↦ other _ _ n q e (λ z. omega arith)
        | cut l m f i j q ↦ (l, f ∙ (sym (ap (λ (x : Answer). x.number) q) ∙ e))
        | without l f o q ↦ other _ _ n q e (λ z. omega arith)
        | fails l f r g o q ↦ other _ _ n q e (λ z. omega arith)
        | bad l f m o v q ↦ other _ _ n q e (λ z. omega arith)
        | whole l f m o v q ↦ other _ _ n q e (λ z. omega arith)
      ]

  pub when-walk : (n : ℕ) → 2 ≤ n → n ≤ 4 → length block ≤ byte_limit → (fields block).number ≡ n → judge block vs ≡ nothing_else n (fields block).place
  when-walk n a b h w =
      elim (way block vs) [
        | long l q ↦ absurd (omega arith)
        | cut l m f i j q ↦ q ∙ ap (λ (x : ℕ). nothing_else x (fields block).place) (sym f ∙ w)
        | without l f o q ↦ absurd (omega arith)
        | fails l f r g o q ↦ absurd (omega arith)
        | bad l f m o v q ↦ absurd (omega arith)
        | whole l f m o v q ↦ absurd (omega arith)
      ]

  pub when-ten : (n : ℕ) → Known block → outcome (fields block).items ≡ built n → valid_for n vs ≡ false → judge block vs ≡ nothing_else 10 0
  unfolding judge judged
  when-ten n k o v =
      elim (way block vs) [
        | long l q ↦ absurd (omega (arith, k.0))
        | cut l m f i j q ↦ absurd (omega (arith, k.1))
        | without l f p q ↦ absurd (let y : ◌≡◌ {A = ℕ} 0 1 = ap (λ (x : Outcome). elim x [ none ↦ 0 | failed r g ↦ 0 | built k ↦ 1 ]) (sym p ∙ o) in omega arith)
        | fails l f r g p q ↦ absurd (let y : ◌≡◌ {A = ℕ} 0 1 = ap (λ (x : Outcome). elim x [ none ↦ 0 | failed r g ↦ 0 | built k ↦ 1 ]) (sym p ∙ o) in omega arith)
        | bad l f m p w q ↦ q
        | whole l f m p w q ↦ built-one m n (outcome (fields block).items) vs p o w v
      ]

  -- done: the fields are all there, and where their chain is built, the verdicts are good
  pub zero-when : (judge block vs).number ≡ 0 → Known block × ((n : ℕ) → outcome (fields block).items ≡ built n → valid_for n vs ≡ true)
  zero-when e =
      elim (way block vs) [
        | long l q ↦ other _ _ 0 q e (λ z. omega arith)
        | cut l m f i j q ↦ other _ _ 0 q e (λ z. omega arith)
        | without l f p q ↦ ((l, f), λ n o. absurd (let y : ◌≡◌ {A = ℕ} 0 1 = ap (λ (x : Outcome). elim x [ none ↦ 0 | failed r g ↦ 0 | built k ↦ 1 ]) (sym p ∙ o) in omega arith))
        | fails l f r g p q ↦ ((l, f), λ n o. absurd (let y : ◌≡◌ {A = ℕ} 0 1 = ap (λ (x : Outcome). elim x [ none ↦ 0 | failed r g ↦ 0 | built k ↦ 1 ]) (sym p ∙ o) in omega arith))
        | bad l f m p w q ↦ other _ _ 0 q e (λ z. omega arith)
        | whole l f m p w q ↦ (
          (l, f),
          λ n o. (let z : m ≡ n = ap (λ (x : Outcome). elim x [ none ↦ 0 | failed r g ↦ 0 | built k ↦ k ]) (sym p ∙ o) in rw (← z) w),
        )
      ]

  pub when-zero : Known block → ((n : ℕ) → outcome (fields block).items ≡ built n → valid_for n vs ≡ true) → (judge block vs).number ≡ 0
  when-zero k h =
      elim (way block vs) [
        | long l q ↦ absurd (omega (arith, k.0))
        | cut l m f i j q ↦ absurd (omega (arith, k.1))
        | without l f p q ↦ ap (λ (x : Answer). x.number) q
        | fails l f r g p q ↦ ap (λ (x : Answer). x.number) q
        | bad l f m p w q ↦ absurd (both (valid_for m vs) w (h m p))
        | whole l f m p w q ↦ ap (λ (x : Answer). x.number) q
      ]

  -- the numbers are 0, 1 to 4 and 10
  pub numbers : ((judge block vs).number ≤ 4 → ⊥) → (judge block vs).number ≡ 10
  numbers no' =
      elim (way block vs) [
        | long l q ↦ absurd (no' (rw q (omega arith)))
        | cut l n f i j q ↦ absurd (no' (rw q j))
        | without l f o q ↦ absurd (no' (rw q (omega arith)))
        | fails l f r g o q ↦ absurd (no' (rw q (omega arith)))
        | bad l f n o v q ↦ ap (λ (x : Answer). x.number) q
        | whole l f n o v q ↦ absurd (no' (rw q (omega arith)))
      ]

  -- a refusal has 0 for everything else
  pub refused-blank : ((judge block vs).number ≡ 0 → ⊥) → judge block vs ≡ nothing_else (judge block vs).number (judge block vs).place
  refused-blank ne =
      elim (way block vs) [
        | long l q ↦ rw q
        | cut l n f i j q ↦ rw q
        | without l f o q ↦ absurd (ne (ap (λ (x : Answer). x.number) q))
        | fails l f r g o q ↦ absurd (ne (ap (λ (x : Answer). x.number) q))
        | bad l f n o v q ↦ rw q
        | whole l f n o v q ↦ absurd (ne (ap (λ (x : Answer). x.number) q))
      ]

  -- built is told exactly where the chain is built and the verdicts are good
  pub built-when : (judge block vs).outcome ≡ 2 → (n : ℕ) × (Known block × ((outcome (fields block).items ≡ built n) × (judge block vs ≡ building n vs)))
  built-when e =
      elim (way block vs) [
        | long l q ↦ absurd (let z : ◌≡◌ {A = ℕ} 0 2 = sym (ap (λ (x : Answer). x.outcome) q) ∙ e in omega arith)
        | cut l n f i j q ↦ absurd (let z : ◌≡◌ {A = ℕ} 0 2 = sym (ap (λ (x : Answer). x.outcome) q) ∙ e in omega arith)
        | without l f o q ↦ absurd (let z : ◌≡◌ {A = ℕ} 0 2 = sym (ap (λ (x : Answer). x.outcome) q) ∙ e in omega arith)
        | fails l f r g o q ↦ absurd (let z : ◌≡◌ {A = ℕ} 1 2 = sym (ap (λ (x : Answer). x.outcome) q) ∙ e in omega arith)
        | bad l f n o v q ↦ absurd (let z : ◌≡◌ {A = ℕ} 0 2 = sym (ap (λ (x : Answer). x.outcome) q) ∙ e in omega arith)
        | whole l f n o v q ↦ (n, ((l, f), (o, q)))
      ]

  pub when-built : (n : ℕ) → Known block → outcome (fields block).items ≡ built n → valid_for n vs ≡ true → judge block vs ≡ building n vs
  when-built n k o v =
      elim (way block vs) [
        | long l q ↦ absurd (omega (arith, k.0))
        | cut l m f i j q ↦ absurd (omega (arith, k.1))
        | without l f p q ↦ absurd (let y : ◌≡◌ {A = ℕ} 0 1 = ap (λ (x : Outcome). elim x [ none ↦ 0 | failed r g ↦ 0 | built k ↦ 1 ]) (sym p ∙ o) in omega arith)
        | fails l f r g p q ↦ absurd (let y : ◌≡◌ {A = ℕ} 0 1 = ap (λ (x : Outcome). elim x [ none ↦ 0 | failed r g ↦ 0 | built k ↦ 1 ]) (sym p ∙ o) in omega arith)
        | bad l f m p w q ↦ built-one n m (outcome (fields block).items) vs o p v w
        | whole l f m p w q ↦ (let z : m ≡ n = ap (λ (x : Outcome). elim x [ none ↦ 0 | failed r g ↦ 0 | built k ↦ k ]) (sym p ∙ o) in q ∙ ap (λ (x : ℕ). building x vs) z)
      ]

  -- failed: the first reason that applies and the field that it names
  pub when-fails : (r f : ℕ) → Known block → outcome (fields block).items ≡ failed r f → judge block vs ≡ failing r f
  when-fails r f k o =
      elim (way block vs) [
        | long l q ↦ absurd (omega (arith, k.0))
        | cut l m g i j q ↦ absurd (omega (arith, k.1))
        | without l g p q ↦ absurd (let y : ◌≡◌ {A = ℕ} 0 1 = ap (λ (x : Outcome). elim x [ none ↦ 0 | failed a b ↦ 1 | built c ↦ 0 ]) (sym p ∙ o) in omega arith)
        | fails l g a b p q ↦
            (let e = sym p ∙ o in
            let x : a ≡ r = ap (λ (y : Outcome). elim y [ none ↦ 0 | failed c d ↦ c | built c ↦ 0 ]) e in
            let z : b ≡ f = ap (λ (y : Outcome). elim y [ none ↦ 0 | failed c d ↦ d | built c ↦ 0 ]) e in
            q ∙ (ap (λ (c : ℕ). failing c b) x ∙ ap (λ (d : ℕ). failing r d) z))
        | bad l g m p w q ↦ absurd (let y : ◌≡◌ {A = ℕ} 0 1 = ap (λ (x : Outcome). elim x [ none ↦ 0 | failed a b ↦ 1 | built c ↦ 0 ]) (sym p ∙ o) in omega arith)
        | whole l g m p w q ↦ absurd (let y : ◌≡◌ {A = ℕ} 0 1 = ap (λ (x : Outcome). elim x [ none ↦ 0 | failed a b ↦ 1 | built c ↦ 0 ]) (sym p ∙ o) in omega arith)
      ]

  -- only a failed chain has a reason
  pub reason-when : (r : ℕ) → 1 ≤ r → (judge block vs).reason ≡ r → (f : ℕ) × (outcome (fields block).items ≡ failed r f)
  reason-when r h e =
      elim (way block vs) [
        | long l q ↦ absurd (let z : 0 ≡ r = sym (ap (λ (x : Answer). x.reason) q) ∙ e in omega arith)
        | cut l m g i j q ↦ absurd (let z : 0 ≡ r = sym (ap (λ (x : Answer). x.reason) q) ∙ e in omega arith)
        | without l g p q ↦ absurd (let z : 0 ≡ r = sym (ap (λ (x : Answer). x.reason) q) ∙ e in omega arith)
        | fails l g a b p q ↦ (b, p ∙ ap (λ (c : ℕ). failed c b) (sym (ap (λ (x : Answer). x.reason) q) ∙ e))
        | bad l g m p w q ↦ absurd (let z : 0 ≡ r = sym (ap (λ (x : Answer). x.reason) q) ∙ e in omega arith)
        | whole l g m p w q ↦ absurd (let z : 0 ≡ r = sym (ap (λ (x : Answer). x.reason) q) ∙ e in omega arith)
      ]

  -- the place is that of the walk for 2 to 4, and else 0
  pub place-else : ((judge block vs).number ≤ 1) ⊎ (5 ≤ (judge block vs).number) → (judge block vs).place ≡ 0
  place-else h =
      elim (way block vs) [
        | long l q ↦ ap (λ (x : Answer). x.place) q
        | cut l n f i j q ↦ absurd (⊎_elim (λ a. omega (arith, a, ap (λ (x : Answer). x.number) q)) (λ a. omega (arith, a, ap (λ (x : Answer). x.number) q)) h)
        | without l f o q ↦ ap (λ (x : Answer). x.place) q
        | fails l f r g o q ↦ ap (λ (x : Answer). x.place) q
        | bad l f n o v q ↦ ap (λ (x : Answer). x.place) q
        | whole l f n o v q ↦ ap (λ (x : Answer). x.place) q
      ]

  -- none is told exactly where the outcome is none
  pub none-when : Known block → (judge block vs).number ≡ 0 → (judge block vs).outcome ≡ 0 → outcome (fields block).items ≡ none
  none-when k e d =
      elim (way block vs) [
        | long l q ↦ absurd (omega (arith, k.0))
        | cut l m g i j q ↦ absurd (omega (arith, k.1))
        | without l g p q ↦ p
        | fails l g a b p q ↦ absurd (let z : ◌≡◌ {A = ℕ} 1 0 = sym (ap (λ (x : Answer). x.outcome) q) ∙ d in omega arith)
        | bad l g m p w q ↦ absurd (let z : ◌≡◌ {A = ℕ} 10 0 = sym (ap (λ (x : Answer). x.number) q) ∙ e in omega arith)
        | whole l g m p w q ↦ absurd (let z : ◌≡◌ {A = ℕ} 2 0 = sym (ap (λ (x : Answer). x.outcome) q) ∙ d in omega arith)
      ]
