-- The answers about a chain, one law for each way out of the code: the tests on the way are those of the definitions, in their order.
use Prim.Native.Nat.{ℕ, zero, suc, ◌-◌, ◌≤◌}
use native.Mathlib.Omega.{arith}
use mathlib.Core.Path.{◌≡◌, refl, sym, ◌∙◌}
use mathlib.Core.Bool.{Bool, true, false}
use mathlib.Core.List.{List}
use borrow.Author.Tests.{eq-eqb, ne_eqb, ltb-false}
use lib.Dec.{ltb}
use lib.ListN.{length, get_or, take, replicate}
use Rattle.lexis_rules.specs.Limits.{byte_limit}
use Rattle.block_rules.specs.Fields.{fields}
use Rattle.arc_rules.specs.declared.Judged.{Judged}
use Rattle.arc.specs.declared.Counts.{Counts}
use Rattle.arc.specs.declared.Gathered.{Gathered}
use Rattle.arc_rules.specs.Sets.{last_instance}
use Rattle.arc_rules.specs.Chain.{Outcome, none, failed, built, any_empty, prescribed, complete_outcome, outcome_of, blank, judged, judge}
use Rattle.arc_rules.specs.Answers.{answer_of}
use Rattle.arc.specs.Internal.{sets_of, GatheredFrom, Places, ranked_by}
use Rattle.arc.proofs.Noting.{Fitting, nothing-fits}

-- ==== a chain whose fields read and are not repeated

module _ (n : ℕ) (p : List (List ℕ)) (c v : List ℕ) (r : Judged) (gap : Bool) (h : gap ≡ any_empty (take n p)) where
  ranks : (o : Outcome) → ranked_by n p c ≡ o → r ≡ answer_of (judged o v) → r ≡ answer_of (judged (ranked_by n p c) v)
  ranks o q e = rw q e

  pub judge-complete-gap : gap ≡ true → r ≡ answer_of (judged (failed 3 0) v) → r ≡ answer_of (judged (ranked_by n p c) v)
  unfolding complete_outcome
  judge-complete-gap z e = ranks (failed 3 0) (let t : any_empty (take n p) ≡ true = sym h ∙ z in rw (complete_outcome, t)) e

  module _ (z : gap ≡ false) where
    full : any_empty (take n p) ≡ false
    full = sym h ∙ z

    pub judge-complete-fail : get_or c (n - 1) 0 ≡ 3 → r ≡ answer_of (judged (failed 4 0) v) → r ≡ answer_of (judged (ranked_by n p c) v)
    unfolding complete_outcome
    judge-complete-fail y e = ranks (failed 4 0) (rw (complete_outcome, full, eq-eqb (get_or c (n - 1) 0) 3 y)) e

    module _ (y : get_or c (n - 1) 0 ≡ 3 → ⊥) (good : Bool) (g : good ≡ prescribed (take n c)) where
      pub judge-complete-built : good ≡ true → r ≡ answer_of (judged (built n) v) → r ≡ answer_of (judged (ranked_by n p c) v)
      unfolding complete_outcome
      judge-complete-built x e = ranks (built n) (let t : prescribed (take n c) ≡ true = sym g ∙ x in rw (complete_outcome, full, ne_eqb (get_or c (n - 1) 0) 3 y, t)) e

      pub judge-complete-not : good ≡ false → r ≡ answer_of (judged (failed 5 0) v) → r ≡ answer_of (judged (ranked_by n p c) v)
      unfolding complete_outcome
      judge-complete-not x e = ranks (failed 5 0) (let t : prescribed (take n c) ≡ false = sym g ∙ x in rw (complete_outcome, full, ne_eqb (get_or c (n - 1) 0) 3 y, t)) e

-- ==== the whole: each answer by what was gathered

-- a chain by what was noted of its fields
module _ (p : List (List ℕ)) (v : List ℕ) (c : Counts) where
  outcome-unread : (c.unreadable ≡ 0 → ⊥) → outcome_of (sets_of p v c) ≡ failed 1 c.unreadable
  unfolding outcome_of
  outcome-unread h = go c.unreadable refl
    where
      go : (n : ℕ) → c.unreadable ≡ n → outcome_of (sets_of p v c) ≡ failed 1 c.unreadable
      go zero e = absurd (h e)
      go (suc n) e = rw (outcome_of, e)

  module _ (a : c.unreadable ≡ 0) where
    outcome-repeated : (c.repeated ≡ 0 → ⊥) → outcome_of (sets_of p v c) ≡ failed 2 c.repeated
    unfolding outcome_of
    outcome-repeated h = go c.repeated refl
      where
        go : (n : ℕ) → c.repeated ≡ n → outcome_of (sets_of p v c) ≡ failed 2 c.repeated
        go zero e = absurd (h e)
        go (suc n) e = rw (outcome_of, a, e)

    module _ (b : c.repeated ≡ 0) where
      outcome-none : c.highest ≡ 0 → outcome_of (sets_of p v c) ≡ none
      unfolding outcome_of
      outcome-none e = rw (outcome_of, a, b, e)

      outcome-ranked : (c.highest ≡ 0 → ⊥) → outcome_of (sets_of p v c) ≡ ranked_by c.highest p v
      unfolding outcome_of complete_outcome
      outcome-ranked h = go c.highest refl
        where
          go : (n : ℕ) → c.highest ≡ n → outcome_of (sets_of p v c) ≡ ranked_by c.highest p v
          go zero e = absurd (h e)
          go (suc n) e = rw (outcome_of, a, b, e)

module _ (s verdicts : List ℕ) (r : Judged) (big : Bool) (b : big ≡ ltb byte_limit (length s)) where
  pub answer-1 : big ≡ true → r ≡ answer_of (blank 1 0) → r ≡ answer_of (judge s verdicts)
  unfolding judge
  answer-1 h e = let t : ltb byte_limit (length s) ≡ true = sym b ∙ h in rw (judge, t) e

  -- a block that is not too long can be gathered
  pub judge-small : big ≡ false → length s ≤ byte_limit
  judge-small h = ltb-false byte_limit (length s) (sym b ∙ h)

  module _ (h : big ≡ false) (p : List (List ℕ)) (v : List ℕ) (g : Gathered)
      (w : GatheredFrom s (replicate last_instance (replicate 3 0)) (replicate last_instance 0) p v g) where
    small : ltb byte_limit (length s) ≡ false
    small = sym b ∙ h

    pub answer-2-4 : (g.number ≡ 0 → ⊥) → r ≡ answer_of (blank g.number g.place) → r ≡ answer_of (judge s verdicts)
    unfolding judge
    answer-2-4 ne e = go g.number refl
      where
        go : (n : ℕ) → g.number ≡ n → r ≡ answer_of (judge s verdicts)
        go zero z = absurd (ne z)
        go (suc n) z =
            let f : (fields s).number ≡ suc n = sym w.number ∙ z in
            rw (judge, small, f) (rw (z, w.place) at e)

    module _ (z : g.number ≡ 0) where
      judges : (o : Outcome) → outcome_of (sets_of p v g.counts) ≡ o → r ≡ answer_of (judged o verdicts) → r ≡ answer_of (judge s verdicts)
      unfolding judge
      judges o q e =
          let f : (fields s).number ≡ 0 = sym w.number ∙ z in
          rw (judge, small, f, ← w.sets, q) e

      pub answer-unread : (g.counts.unreadable ≡ 0 → ⊥) → r ≡ answer_of (judged (failed 1 g.counts.unreadable) verdicts) → r ≡ answer_of (judge s verdicts)
      answer-unread ne e = judges _ (outcome-unread p v g.counts ne) e

      module _ (a : g.counts.unreadable ≡ 0) where
        pub answer-repeated : (g.counts.repeated ≡ 0 → ⊥) → r ≡ answer_of (judged (failed 2 g.counts.repeated) verdicts) → r ≡ answer_of (judge s verdicts)
        answer-repeated ne e = judges _ (outcome-repeated p v g.counts a ne) e

        module _ (d : g.counts.repeated ≡ 0) where
          pub answer-none : g.counts.highest ≡ 0 → r ≡ answer_of (blank 0 0) → r ≡ answer_of (judge s verdicts)
          unfolding judged
          answer-none y e = judges none (outcome-none p v g.counts a d y) e

          pub answer-ranked : (g.counts.highest ≡ 0 → ⊥) → r ≡ answer_of (judged (ranked_by g.counts.highest p v) verdicts) → r ≡ answer_of (judge s verdicts)
          answer-ranked ne e = judges _ (outcome-ranked p v g.counts a d ne) e

-- what was gathered from nothing can be ranked
pub judge-complete-fits : (s : List ℕ) (p : List (List ℕ)) (v : List ℕ) (g : Gathered)
    → GatheredFrom s (replicate last_instance (replicate 3 0)) (replicate last_instance 0) p v g
    → (g.counts.highest ≡ 0 → ⊥) → ((1 ≤ g.counts.highest) × (g.counts.highest ≤ last_instance)) × (Places p × (length v ≡ last_instance))
judge-complete-fits s p v g w ne =
    let f : Fitting (sets_of p v g.counts) = rw w.sets (nothing-fits (fields s).items) in
    ((omega (arith, ne), f.highest), (f.table, f.values))
