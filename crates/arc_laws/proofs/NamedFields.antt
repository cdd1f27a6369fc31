-- The first field of which a test holds, given those before it, as the number that `first_where` gives and as a field with those before and after it: by
-- induction on the fields.
use Prim.Native.Nat.{ℕ, suc, ◌+◌}
use native.Mathlib.Omega.{arith}
use mathlib.Core.Path.{◌≡◌, refl, ap, ◌∙◌}
use mathlib.Core.Bool.{Bool, true, false}
use mathlib.Core.List.{List, [], ◌∷◌, ◌++◌, append_assoc, append-nil}
use lib.ListN.{length, length-append}
use Rattle.block_rules.specs.Fields.{Field}
use Rattle.arc_rules.specs.Reasons.{first_where, FirstAt}

nil_not : (xs ys : List Field) (f : Field) → [] ≡ xs ++ (f ∷ ys) → ⊥
nil_not xs ys f e = omega (arith, ap length e, length-append xs (f ∷ ys))

module _ (test : List Field → Field → Bool) where
  -- behind some fields
  record Found (past fs : List Field) (n : ℕ) : Type 0 where
    before : List Field
    named : Field
    after : List Field
    split : fs ≡ before ++ (named ∷ after)
    counted : n ≡ length past + length before
    holds : test (past ++ before) named ≡ true
    first : (xs ys : List Field) (f : Field) → before ≡ xs ++ (f ∷ ys) → test (past ++ xs) f ≡ false

  module _ (past : List Field) (f : Field) where
    -- the field behind them, and more
    moved : (xs : List Field) → (past ++ (f ∷ [])) ++ xs ≡ past ++ (f ∷ xs)
    moved xs = append_assoc past (f ∷ []) xs

    found_here : (fs : List Field) (n : ℕ) → test past f ≡ true → suc (length past) ≡ suc n → Found past (f ∷ fs) n
    found_here fs n t e =
        record {
          before = [];
          named = f;
          after = fs;
          split = refl;
          counted = omega (arith, e);
          holds = rw (append-nil past) t;
          first = λ xs ys g q. absurd (nil_not xs ys g q);
        }

    found-later : (fs : List Field) (n : ℕ) → test past f ≡ false → Found (past ++ (f ∷ [])) fs n → Found past (f ∷ fs) n
    found-later fs n t w =
        record {
          before = f ∷ w.before;
          named = w.named;
          after = w.after;
          split = ap (◌∷◌ f) w.split;
          counted = omega (arith, w.counted, length-append past (f ∷ []));
          holds = rw (← moved w.before) w.holds;
          first = first;
        }
      where
        first : (xs ys : List Field) (g : Field) → f ∷ w.before ≡ xs ++ (g ∷ ys) → test (past ++ xs) g ≡ false
        first [] ys g q = let e : f ≡ g = cc in rw (append-nil past, ← e) t
        first (x ∷ xs) ys g q =
            let e : f ≡ x = cc in
            let r : w.before ≡ xs ++ (g ∷ ys) = cc in
            rw (← e, ← moved xs) (w.first xs ys g r)

  found : (past fs : List Field) (n : ℕ) → first_where test past fs ≡ suc n → Found past fs n
  unfolding first_where
  found past [] n e = absurd (omega (arith, e))
  found past (f ∷ fs) n e = go (test past f) refl (found (past ++ (f ∷ [])) fs n)
    where
      go : (t : Bool) → test past f ≡ t → (first_where test (past ++ (f ∷ [])) fs ≡ suc n → Found (past ++ (f ∷ [])) fs n) → Found past (f ∷ fs) n
      go true t ih = found_here past f fs n t (rw (first_where, t) at e)
      go false t ih = found-later past f fs n t (ih (rw (first_where, t) at e))

  pub first-at : (fs : List Field) (n : ℕ) → first_where test [] fs ≡ suc n → FirstAt test fs (suc n)
  first-at fs n e =
      let w = found [] fs n e in
      record {
        before = w.before;
        named = w.named;
        after = w.after;
        split = w.split;
        counted = omega (arith, w.counted);
        holds = w.holds;
        first = w.first;
      }

  is_found : (past before : List Field) (f : Field) (after : List Field) → test (past ++ before) f ≡ true
      → ((xs ys : List Field) (g : Field) → before ≡ xs ++ (g ∷ ys) → test (past ++ xs) g ≡ false)
      → first_where test past (before ++ (f ∷ after)) ≡ suc (length past + length before)
  unfolding first_where
  is_found past [] f after h none = rw (first_where, rw (append-nil past) at h) (omega arith)
  is_found past (b ∷ before) f after h none =
      let t : test past b ≡ false = rw (append-nil past) at (none [] before b refl) in
      let i =
      is_found (past ++ (b ∷ [])) before f after (rw (moved past b before) h)
      (λ xs ys g q. rw (moved past b xs) (none (b ∷ xs) ys g (ap (◌∷◌ b) q))) in
      rw (first_where, t) (i ∙ omega (arith, length-append past (b ∷ [])))

  pub at_first : (fs : List Field) (n : ℕ) → FirstAt test fs n → first_where test [] fs ≡ n
  at_first fs n w = rw w.split (is_found [] w.before w.named w.after w.holds w.first ∙ omega (arith, w.counted))
