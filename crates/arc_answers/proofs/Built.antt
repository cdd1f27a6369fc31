-- The answer of a chain that is built.
use Prim.Native.Nat.{ℕ}
use mathlib.Core.Path.{◌≡◌, sym, ◌∙◌}
use mathlib.Core.Bool.{Bool, true, false, not}
use mathlib.Core.List.{List}
use borrow.Author.Tests.{not-true, not-false}
use Rattle.arc_rules.specs.declared.Judged.{Judged}
use Rattle.arc_rules.specs.Chain.{built, valid_for, passes, oldest_pass, blank, judged}
use Rattle.arc_rules.specs.Answers.{answer_of}

-- ==== a chain that is built

module _ (n : ℕ) (v : List ℕ) (ok : Bool) (h : ok ≡ valid_for n v) where
  pub judge-built-bad : (r : Judged) → not ok ≡ true → r ≡ answer_of (blank 10 0) → r ≡ answer_of (judged (built n) v)
  unfolding judged
  judge-built-bad r z e = let t : valid_for n v ≡ false = sym h ∙ not-true ok z in rw (judged, t) e

  module _ (z : not ok ≡ false) (good : Bool) (g : good ≡ passes v) where
    pub judge-built-pass : good ≡ true → (o : ℕ) → o ≡ oldest_pass v
        → record { number = 0; place = 0; outcome = 2; reason = 0; field = 0; instances = n; status = 1; oldest = o } ≡ answer_of (judged (built n) v)
    unfolding judged
    judge-built-pass y o e =
        let t : valid_for n v ≡ true = sym h ∙ not-false ok z in
        let u : passes v ≡ true = sym g ∙ y in
        rw (judged, t, u, e)

    pub judge-built-fail : good ≡ false
        → record { number = 0; place = 0; outcome = 2; reason = 0; field = 0; instances = n; status = 2; oldest = 0 } ≡ answer_of (judged (built n) v)
    unfolding judged
    judge-built-fail y =
        let t : valid_for n v ≡ true = sym h ∙ not-false ok z in
        let u : passes v ≡ false = sym g ∙ y in
        rw (judged, t, u)
