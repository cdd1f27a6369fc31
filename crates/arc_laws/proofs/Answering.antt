-- The answer on a block by its cases, in the order of the answers: too many bytes, a refusal of the walk, and the outcome of its fields
-- with the verdicts. Then what a block without ARC fields gathers, by induction on the fields, and when the answer is 10.
use Prim.Native.Nat.{ℕ, zero, suc, ◌≤◌}
use native.Mathlib.Omega.{arith}
use mathlib.Core.Path.{◌≡◌, refl, sym, ap, ◌∙◌}
use mathlib.Core.Bool.{Bool, true, false}
use mathlib.Core.List.{List, [], ◌∷◌, Memᴰ}
use lib.Dec.{ltb}
use lib.ListN.{length}
use borrow.Author.Tests.{ltb-false, le-ltb}
use Rattle.lexis_rules.specs.Limits.{byte_limit}
use Rattle.block_rules.specs.Fields.{Field, body_of, fields}
use Rattle.block_laws.proofs.Fields.{fields-four}
use Rattle.arc_rules.specs.Chain.{Sets, no_sets, gathered, Outcome, none, failed, built, outcome_of, outcome, valid_for, passes, Answer, blank, judged, judge}
use Rattle.arc_rules.specs.Accepted.{kind_of, is_arc}
use Rattle.arc_laws.proofs.Gathering.{noted_other}

-- ==== the answer by its cases

module _ (block verdicts : List ℕ) where
  judge-big : ltb byte_limit (length block) ≡ true → judge block verdicts ≡ blank 1 0
  unfolding judge
  judge-big e = rw (judge, e)

  judge-refused : (n : ℕ) → ltb byte_limit (length block) ≡ false → (fields block).number ≡ suc n → judge block verdicts ≡ blank (suc n) (fields block).place
  unfolding judge
  judge-refused n e q = rw (judge, e, q)

  pub judge-is : ltb byte_limit (length block) ≡ false → (fields block).number ≡ 0 → judge block verdicts ≡ judged (outcome (fields block).items) verdicts
  unfolding judge
  judge-is e q = rw (judge, e, q)

module _ (n : ℕ) (vs : List ℕ) where
  judged-bad : valid_for n vs ≡ false → judged (built n) vs ≡ blank 10 0
  unfolding judged
  judged-bad e = rw (judged, e)

  judged-good : valid_for n vs ≡ true → (judged (built n) vs).outcome ≡ 2
  unfolding judged
  judged-good e = go (passes vs) refl
    where
      go : (t : Bool) → passes vs ≡ t → (judged (built n) vs).outcome ≡ 2
      go true q = rw (judged, e, q)
      go false q = rw (judged, e, q)

  judged-done : valid_for n vs ≡ true → (judged (built n) vs).number ≡ 0
  unfolding judged
  judged-done e = go (passes vs) refl
    where
      go : (t : Bool) → passes vs ≡ t → (judged (built n) vs).number ≡ 0
      go true q = rw (judged, e, q)
      go false q = rw (judged, e, q)

-- ==== no ARC field

gathered_none : (fs : List Field) → ((f : Field) → Memᴰ f fs → is_arc (kind_of f) ≡ false) → (n : ℕ) (z : Sets) → gathered n fs z ≡ z
unfolding gathered
gathered_none [] h n z = refl
gathered_none (f ∷ fs) h n z =
    rw (noted_other (suc n) (kind_of f) (body_of f) z (h f (Memᴰ.head refl))) (gathered_none fs (λ g m. h g (Memᴰ.tail m)) (suc n) z)

pub outcome-none : (fs : List Field) → ((f : Field) → Memᴰ f fs → is_arc (kind_of f) ≡ false) → outcome fs ≡ none
unfolding outcome_of
outcome-none fs h = rw (gathered_none fs h 0 no_sets)

-- ==== verdicts

-- they change nothing where the chain isn't built
judged-unread : (o : Outcome) (vs ws : List ℕ) → ((judged o vs).outcome ≡ 2 → ⊥) → ((judged o vs).number ≡ 10 → ⊥) → judged o vs ≡ judged o ws
unfolding judged
judged-unread none vs ws a b = refl
judged-unread (failed r f) vs ws a b = refl
judged-unread (built n) vs ws a b = go (valid_for n vs) refl
  where
    go : (t : Bool) → valid_for n vs ≡ t → judged (built n) vs ≡ judged (built n) ws
    go true e = absurd (a (judged-good n vs e))
    go false e = absurd (b (ap (λ (x : Answer). x.number) (judged-bad n vs e)))

pub judge-unread : (block vs ws : List ℕ) → ((judge block vs).outcome ≡ 2 → ⊥) → ((judge block vs).number ≡ 10 → ⊥) → judge block vs ≡ judge block ws
judge-unread block vs ws a b = big (ltb byte_limit (length block)) refl
  where
    cut : ltb byte_limit (length block) ≡ false → (n : ℕ) → (fields block).number ≡ n → judge block vs ≡ judge block ws
    cut e (suc n) q = judge-refused block vs n e q ∙ sym (judge-refused block ws n e q)
    cut e zero q =
        let v = judge-is block vs e q in
        v ∙ (judged-unread (outcome (fields block).items) vs ws (rw v at a) (rw v at b) ∙ sym (judge-is block ws e q))

    big : (t : Bool) → ltb byte_limit (length block) ≡ t → judge block vs ≡ judge block ws
    big true e = judge-big block vs e ∙ sym (judge-big block ws e)
    big false e = cut e (fields block).number refl

-- ==== 10

module _ (block vs : List ℕ) where
  -- the block is within the limit and walked to its end, and its chain is built, with verdicts that aren't valid
  abbrev Bad : ℕ → Type 0
  Bad n = (length block ≤ byte_limit) × (((fields block).number ≡ 0) × ((outcome (fields block).items ≡ built n) × (valid_for n vs ≡ false)))

  pub ten-bad : (judge block vs).number ≡ 10 → (n : ℕ) × Bad n
  unfolding judged
  ten-bad z = big (ltb byte_limit (length block)) refl
    where
      verdicts : length block ≤ byte_limit → (fields block).number ≡ 0 → (n : ℕ) → outcome (fields block).items ≡ built n
          → (judged (built n) vs).number ≡ 10 → (t : Bool) → valid_for n vs ≡ t → (n : ℕ) × Bad n
      verdicts s q n c y true e = absurd (omega (arith, y, judged-done n vs e))
      verdicts s q n c y false e = (n, (s, (q, (c, e))))

      chain : length block ≤ byte_limit → (fields block).number ≡ 0 → (judged (outcome (fields block).items) vs).number ≡ 10
          → (o : Outcome) → outcome (fields block).items ≡ o → (n : ℕ) × Bad n
      chain s q y none c = absurd (let i : 0 ≡ 10 = rw c at y in omega arith)
      chain s q y (failed r f) c = absurd (let i : 0 ≡ 10 = rw c at y in omega arith)
      chain s q y (built n) c = verdicts s q n c (rw c at y) (valid_for n vs) refl

      cut : ltb byte_limit (length block) ≡ false → (n : ℕ) → (fields block).number ≡ n → (n : ℕ) × Bad n
      cut e (suc n) q = absurd (let i : suc n ≡ 10 = rw (judge-refused block vs n e q) at z in omega (arith, i, q, fields-four block))
      cut e zero q = chain (ltb-false byte_limit (length block) e) q (rw (judge-is block vs e q) at z) (outcome (fields block).items) refl

      big : (t : Bool) → ltb byte_limit (length block) ≡ t → (n : ℕ) × Bad n
      big true e = absurd (let i : 1 ≡ 10 = rw (judge-big block vs e) at z in omega arith)
      big false e = cut e (fields block).number refl

  pub bad-ten : (n : ℕ) → length block ≤ byte_limit → (fields block).number ≡ 0 → outcome (fields block).items ≡ built n → valid_for n vs ≡ false
      → (judge block vs).number ≡ 10
  bad-ten n s q c e = rw (judge-is block vs (le-ltb byte_limit (length block) s) q, c, judged-bad n vs e)
