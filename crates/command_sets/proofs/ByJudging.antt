-- Verdicts that are all 0 are refused with 10 exactly where a built chain has another number of sets, and where they are not, the sets are told.
use Prim.Native.Nat.{ℕ, zero, suc, ◌+◌, ◌≤◌, ◌<◌}
use native.Mathlib.Omega.{arith}
use mathlib.Core.Path.{◌≡◌, refl, sym, ap, ◌∙◌}
use mathlib.Core.Bool.{Bool, true, false}
use mathlib.Core.List.{List}
use lib.Dec.{ltb, leb}
use lib.ListN.{length, take, replicate}
use lib.Seq.{length-take-le}
use borrow.Author.Tests.{eq-eqb, leb-true, leb-false}
use Rattle.lexis_rules.specs.Limits.{byte_limit}
use Rattle.block_rules.specs.Fields.{Field, fields}
use Rattle.arc_rules.specs.declared.Judged.{Judged}
use Rattle.arc_rules.specs.Chain.{Outcome, none, failed, built, outcome, all, valid_for, passes, judged, judge}
use Rattle.arc_rules.specs.Answers.{answer_of}
use Rattle.arc_laws.proofs.Acceptance.{accepted-exactly}
use Rattle.command_sets.specs.Sets.{built_of, sets_of}

-- ==== an outcome

-- verdicts that are not refused with 10 tell the sets
told-sets : (o : Outcome) (vs : List ℕ) → ((judged o vs).number ≡ 10 → ⊥) → (judged o vs).instances ≡ built_of o
unfolding judged
told-sets none vs h = refl
told-sets (failed r f) vs h = refl
told-sets (built n) vs h = go (valid_for n vs) (passes vs) refl refl
  where
    go : (a b : Bool) → valid_for n vs ≡ a → passes vs ≡ b → (judged (built n) vs).instances ≡ n
    go false b p q = absurd (h (rw (judged, p)))
    go true true p q = rw (judged, p, q)
    go true false p q = rw (judged, p, q)

-- as many verdicts as there are sets, all good ones, are not refused
valid-taken : (o : Outcome) (vs : List ℕ) (n : ℕ) → o ≡ built n → length vs ≡ n → all (λ v. leb v 3) vs ≡ true → (judged o vs).number ≡ 0
unfolding judged valid_for
valid-taken o vs n e l a = go (passes vs) refl
  where
    v : valid_for n vs ≡ true
    v = rw (valid_for, eq-eqb (length vs) n l, a)

    go : (b : Bool) → passes vs ≡ b → (judged o vs).number ≡ 0
    go true q = rw (e, judged, v, q)
    go false q = rw (e, judged, v, q)

-- ==== a block

module _ (block : List ℕ) where
  sets-by : (a : Bool) (n : ℕ) → ltb byte_limit (length block) ≡ a → (fields block).number ≡ n → (vs : List ℕ) → ((judge block vs).number ≡ 10 → ⊥)
      → (judge block vs).instances ≡ sets_of block
  unfolding judge sets_of
  sets-by true n p q vs h = rw (judge, sets_of, p)
  sets-by false (suc n) p q vs h = rw (judge, sets_of, p, q)
  sets-by false zero p q vs h = rw (judge, sets_of, p, q) (told-sets (outcome (fields block).items) vs (λ e. h (rw (judge, p, q) e)))

  -- verdicts that are not refused with 10 tell the sets
  pub sets-told : (vs : List ℕ) → ((judge block vs).number ≡ 10 → ⊥) → (judge block vs).instances ≡ sets_of block
  sets-told vs h = sets-by (ltb byte_limit (length block)) (fields block).number refl refl vs h

  built-is : (o : Outcome) (n : ℕ) → built_of o ≡ n → 1 ≤ n → o ≡ built n
  built-is none n e h = absurd (omega arith)
  built-is (failed r f) n e h = absurd (omega arith)
  built-is (built m) n e h = ap built e

  valid-by : (a : Bool) (m : ℕ) → ltb byte_limit (length block) ≡ a → (fields block).number ≡ m → (vs : List ℕ) (n : ℕ) → sets_of block ≡ n → 1 ≤ n → length vs ≡ n
      → all (λ v. leb v 3) vs ≡ true → (judge block vs).number ≡ 0
  unfolding judge sets_of
  valid-by true m p q vs n e h l g = absurd (let z : 0 ≡ n = rw (sets_of, p) at e in omega arith)
  valid-by false (suc m) p q vs n e h l g = absurd (let z : 0 ≡ n = rw (sets_of, p, q) at e in omega arith)
  valid-by false zero p q vs n e h l g =
      let z : built_of (outcome (fields block).items) ≡ n = rw (sets_of, p, q) at e in
      rw (judge, p, q) (valid-taken (outcome (fields block).items) vs n (built-is (outcome (fields block).items) n z h) l g)

  -- as many good verdicts as there are sets are not refused
  sets-valid : (vs : List ℕ) (n : ℕ) → sets_of block ≡ n → 1 ≤ n → length vs ≡ n → all (λ v. leb v 3) vs ≡ true → (judge block vs).number ≡ 0
  sets-valid vs n e h l g = valid-by (ltb byte_limit (length block)) (fields block).number refl refl vs n e h l g

  few-built : (fs : List Field) (o : Outcome) → outcome fs ≡ o → built_of o ≤ 50
  few-built fs none e = omega arith
  few-built fs (failed r f) e = omega arith
  few-built fs (built n) e = ((accepted-exactly fs n).0 e).to

  few-by : (a : Bool) (m : ℕ) → ltb byte_limit (length block) ≡ a → (fields block).number ≡ m → sets_of block ≤ 50
  unfolding sets_of
  few-by true m p q = rw (sets_of, p) (omega arith)
  few-by false (suc m) p q = rw (sets_of, p, q) (omega arith)
  few-by false zero p q = rw (sets_of, p, q) (few-built (fields block).items (outcome (fields block).items) refl)

  -- a chain has at most 50 sets
  sets-few : sets_of block ≤ 50
  sets-few = few-by (ltb byte_limit (length block)) (fields block).number refl refl

-- ==== the loop

all-zeros : (k n : ℕ) → all (λ v. leb v 3) (take n (replicate k 0)) ≡ true
unfolding all
all-zeros zero zero = refl
all-zeros zero (suc n) = refl
all-zeros (suc k) zero = refl
all-zeros (suc k) (suc n) = all-zeros k n

-- at each turn: a chain has no sets, or at least so many
pub record From (block zeros : List ℕ) (n : ℕ) : Type 0 where
  pub low : 1 ≤ n
  pub all : zeros ≡ replicate 50 0
  pub above : 1 ≤ sets_of block → n ≤ sets_of block

pub from_start : (block zeros : List ℕ) → zeros ≡ replicate 50 0 → From block zeros 1
from_start block zeros e = record { low = omega arith; all = e; above = λ h. h }

module _ (block zeros : List ℕ) (n : ℕ) (w : From block zeros n) where
  pub zeros-long : n ≤ 50 → n ≡ length (take n zeros)
  zeros-long h = sym (length-take-le n zeros (let l : length zeros ≡ 50 = ap length w.all in omega arith))

  module _ (h : n ≤ 50) (j : Judged) (e : j ≡ answer_of (judge block (take n zeros))) where
    number_is : j.number ≡ (judge block (take n zeros)).number
    number_is = ap (λ (i : Judged). i.number) e

    pub from_told : (j.number ≡ 10 → ⊥) → j.instances ≡ sets_of block
    from_told x = ap (λ (i : Judged). i.instances) e ∙ sets-told block (take n zeros) (λ y. x (number_is ∙ y))

    pub from_more : j.number ≡ 10 → From block zeros (n + 1)
    from_more x = record { low = omega arith; all = w.all; above = λ y. next y (w.above y) }
      where
        other : sets_of block ≡ n → ⊥
        other z =
            let g : all (λ v. leb v 3) (take n zeros) ≡ true = rw w.all (all-zeros 50 n) in
            let f : (judge block (take n zeros)).number ≡ 0 = sets-valid block (take n zeros) n z w.low (sym (zeros-long h)) g in
            omega (arith, number_is)

        next : 1 ≤ sets_of block → n ≤ sets_of block → n + 1 ≤ sets_of block
        next y m = omega (arith, other)

  pub from-done : 50 < n → 0 ≡ sets_of block
  from-done h = go (leb 1 (sets_of block)) refl
    where
      go : (b : Bool) → leb 1 (sets_of block) ≡ b → 0 ≡ sets_of block
      go true e = absurd (let m : n ≤ sets_of block = w.above (leb-true 1 (sets_of block) e) in omega (arith, sets-few block))
      go false e = omega (arith, leb-false 1 (sets_of block) e)
