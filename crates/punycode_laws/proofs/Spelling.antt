-- Labels, and the text as it is compared, one label after the other.
use Prim.Native.Nat.{ℕ, suc, ◌+◌, ◌-◌, ◌≤◌, ◌<◌}
use native.Mathlib.Omega.{arith}
use mathlib.Core.Path.{◌≡◌, refl, sym, ap, ◌∙◌}
use mathlib.Core.Bool.{Bool, true, false, ◌&&◌}
use mathlib.Core.List.{List, [], ◌∷◌, ◌++◌}
use mathlib.Core.Option.{Option, none, some}
use lib.Dec.{eqb, leb}
use lib.ListN.{length, take, drop, length-drop}
use lib.Seq.{take_all, drop-drop}
use borrow.Author.Tests.{leb-true, leb-false, eqb-true}
use Rattle.base_sequences.proofs.Booleans.{no_true}
use Rattle.base_readers.specs.Texts.{one_of}
use Rattle.base_readers.specs.Readers.{run}
use Rattle.base_readers.proofs.Readers.{run_more, run_fits}
use Rattle.punycode_rules.specs.Unicode.{scalars, utf8s}
use Rattle.base_readers.specs.Lines.{on_first}
use Rattle.punycode_rules.specs.Labels.{kept, decoded, prefixed, spelled, in_label, labels, joined, spelling}

-- ==== the prefix

pub prefixed-long : (l : List ℕ) → prefixed l ≡ true → 4 ≤ length l
unfolding prefixed one_of
prefixed-long [] h = absurd (no_true h)
prefixed-long (a ∷ []) h = absurd (no_true (sym (short (one_of (120 ∷ 88 ∷ []) a)) ∙ h))
  where
    short : (t : Bool) → (t && false && false && false) ≡ false
    short true = refl
    short false = refl
prefixed-long (a ∷ b ∷ []) h = absurd (no_true (sym (short (one_of (120 ∷ 88 ∷ []) a) (one_of (110 ∷ 78 ∷ []) b)) ∙ h))
  where
    short : (t u : Bool) → (t && u && false && false) ≡ false
    short true true = refl
    short true false = refl
    short false u = refl
prefixed-long (a ∷ b ∷ c ∷ []) h = absurd (no_true (sym (short (one_of (120 ∷ 88 ∷ []) a) (one_of (110 ∷ 78 ∷ []) b) (eqb c 45)) ∙ h))
  where
    short : (t u v : Bool) → (t && u && v && false) ≡ false
    short true true true = refl
    short true true false = refl
    short true false v = refl
    short false u v = refl
prefixed-long (a ∷ b ∷ c ∷ d ∷ l) h = omega arith

-- ==== a label

module _ (l : List ℕ) where
  pub spelled-plain : prefixed l ≡ false → spelled l ≡ l
  unfolding spelled
  spelled-plain h = rw (spelled, h)

  pub spelled-failed : prefixed l ≡ true → decoded (drop 4 l) ≡ none → spelled l ≡ l
  unfolding spelled
  spelled-failed h e = rw (spelled, h, e)

  pub spelled-some : prefixed l ≡ true → (u : List ℕ) → decoded (drop 4 l) ≡ some u → spelled l ≡ utf8s u
  unfolding spelled
  spelled-some h u e = rw (spelled, h, e)

decoded-scalars : (o : Option (List ℕ)) (u : List ℕ) → kept o ≡ some u → scalars u ≡ true
unfolding kept
decoded-scalars none u e = absurd (let z : ◌≡◌ {A = ℕ} 0 1 = cc in omega arith)
decoded-scalars (some v) u e = go (scalars v) refl e
  where
    go : (t : Bool) → scalars v ≡ t → elim t [ true ↦ some v | false ↦ none ] ≡ some u → scalars u ≡ true
    go true h e = let z : v ≡ u = cc in rw (← z) h
    go false h e = absurd (let z : ◌≡◌ {A = ℕ} 0 1 = cc in omega arith)

pub scalars-of : (xs u : List ℕ) → decoded xs ≡ some u → scalars u ≡ true
unfolding decoded
scalars-of xs u e = decoded-scalars _ u e

-- ==== labels

pub in-other : (x : ℕ) → eqb x 46 ≡ false → in_label x ≡ true
unfolding in_label
in-other x h = rw h

run-dot : (x : ℕ) (xs : List ℕ) → eqb x 46 ≡ true → run in_label (x ∷ xs) ≡ 0
unfolding run in_label
run-dot x xs h = rw (run, h)

labels-last : (xs : List ℕ) → run in_label xs ≡ length xs → labels xs ≡ xs ∷ []
unfolding labels
labels-last [] h = refl
labels-last (x ∷ xs) h = go (eqb x 46) refl (labels-last xs)
  where
    go : (t : Bool) → eqb x 46 ≡ t → (run in_label xs ≡ length xs → labels xs ≡ xs ∷ []) → labels (x ∷ xs) ≡ (x ∷ xs) ∷ []
    go true e ih = absurd (omega (arith, run-dot x xs e, h))
    go false e ih = rw (labels, e, ih (omega (arith, run_more in_label x xs (in-other x e), h)))

labels-more : (xs : List ℕ) → run in_label xs < length xs → labels xs ≡ take (run in_label xs) xs ∷ labels (drop (suc (run in_label xs)) xs)
unfolding labels
labels-more [] h = absurd (omega arith)
labels-more (x ∷ xs) h = go (eqb x 46) refl (labels-more xs)
  where
    go : (t : Bool) → eqb x 46 ≡ t → (run in_label xs < length xs → labels xs ≡ take (run in_label xs) xs ∷ labels (drop (suc (run in_label xs)) xs))
        → labels (x ∷ xs) ≡ take (run in_label (x ∷ xs)) (x ∷ xs) ∷ labels (drop (suc (run in_label (x ∷ xs))) (x ∷ xs))
    go true e ih = rw (run-dot x xs e, labels, e)
    go false e ih =
        let r : run in_label (x ∷ xs) ≡ suc (run in_label xs) = run_more in_label x xs (in-other x e) in
        rw r (ap (λ (t : Bool). elim t [ true ↦ [] ∷ labels xs | false ↦ on_first x (labels xs) ]) e ∙ ap (on_first x) (ih (omega (arith, r, h))))

pub labels-some : (xs : List ℕ) → (l : List ℕ) × (ls : List (List ℕ)) × (labels xs ≡ l ∷ ls)
labels-some xs = go (leb (length xs) (run in_label xs)) refl
  where
    go : (t : Bool) → leb (length xs) (run in_label xs) ≡ t → (l : List ℕ) × (ls : List (List ℕ)) × (labels xs ≡ l ∷ ls)
    go true e = (xs, [], labels-last xs (omega (arith, leb-true (length xs) (run in_label xs) e, run_fits in_label xs)))
    go false e = (take (run in_label xs) xs, labels (drop (suc (run in_label xs)) xs), labels-more xs (leb-false (length xs) (run in_label xs) e))

-- the labels joined again are the text
joined-front : (x : ℕ) (ls : List (List ℕ)) → joined (on_first x ls) ≡ x ∷ joined ls
unfolding joined
joined-front x [] = refl
joined-front x (l ∷ []) = refl
joined-front x (l ∷ m ∷ ms) = refl

pub joined-labels : (xs : List ℕ) → joined (labels xs) ≡ xs
unfolding labels joined
joined-labels [] = refl
joined-labels (x ∷ xs) = go (eqb x 46) refl (joined-labels xs)
  where
    dot : (ls : List (List ℕ)) → (l : List ℕ) × (ms : List (List ℕ)) × (ls ≡ l ∷ ms) → joined ([] ∷ ls) ≡ 46 ∷ joined ls
    dot [] s = absurd (let e : [] ≡ s.0 ∷ s.1 = s.2 in let z : ◌≡◌ {A = ℕ} 0 1 = cc in omega arith)
    dot (m ∷ ms) s = refl

    go : (t : Bool) → eqb x 46 ≡ t → joined (labels xs) ≡ xs → joined (labels (x ∷ xs)) ≡ x ∷ xs
    go true e ih = rw (labels, e) (dot (labels xs) (labels-some xs) ∙ rw (ih, eqb-true x 46 e))
    go false e ih = rw (labels, e) (joined-front x (labels xs) ∙ rw ih)

-- ==== the text

pub spelling-last : (xs : List ℕ) → run in_label xs ≡ length xs → spelling xs ≡ spelled xs
unfolding spelling joined
spelling-last xs h = rw (labels-last xs h)

pub spelling-more : (xs : List ℕ) → run in_label xs < length xs
    → spelling xs ≡ spelled (take (run in_label xs) xs) ++ (46 ∷ spelling (drop (suc (run in_label xs)) xs))
unfolding spelling joined
spelling-more xs h =
    let ys = drop (suc (run in_label xs)) xs in
    let s = labels-some ys in
    rw (labels-more xs h, s.2)

-- ==== at a place of a text

module _ (t : List ℕ) (at e : ℕ) (q : e ≡ at + run in_label (drop at t)) (low : at ≤ length t) where
  m : ℕ
  m = run in_label (drop at t)

  pub end_low : (at ≤ e) × (e ≤ length t)
  end_low = (omega arith, omega (arith, run_fits in_label (drop at t), length-drop at t))

  j : e - at ≡ run in_label (drop at t)
  j = omega arith

  pub here-last : e ≡ length t → spelling (drop at t) ≡ spelled (take (e - at) (drop at t))
  here-last h =
      let r : run in_label (drop at t) ≡ length (drop at t) = omega (arith, length-drop at t) in
      spelling-last (drop at t) r ∙ ap spelled (sym (take_all (e - at) (drop at t) (omega (arith, r))))

  pub here-more : (e ≡ length t → ⊥) → spelling (drop at t) ≡ spelled (take (e - at) (drop at t)) ++ (46 ∷ spelling (drop (e + 1) t))
  here-more h =
      let r : run in_label (drop at t) < length (drop at t) = omega (arith, length-drop at t, end_low) in
      let s : at + suc (run in_label (drop at t)) ≡ e + 1 = omega arith in
      spelling-more (drop at t) r ∙ rw (j, drop-drop, s)
