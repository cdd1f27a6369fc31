-- Lines one after the other: a walk goes through the lines that may follow one another, up to the end or the first that can't go on.
use Prim.Native.Nat.{ℕ, zero, suc, ◌+◌, ◌-◌, ◌≤◌, ◌<◌, zero-le, suc-le-suc}
use native.Mathlib.Nat.{add-zero, le_refl}
use native.Mathlib.Omega.{arith}
use mathlib.Core.Path.{◌≡◌, refl, sym, ap, ◌∙◌}
use mathlib.Core.Bool.{Bool, true, false}
use mathlib.Core.List.{List, [], ◌∷◌, ◌++◌, append_assoc, append-nil}
use mathlib.Core.Option.{Option, none, some}
use lib.ListN.{length, drop, take, length-drop, take-append-drop}
use lib.Seq.{drop-nil, drop-append_seam}
use Rattle.base_readers.specs.Parsers.{Got, nothing, got}
use Rattle.base_readers.specs.Locality.{Any}
use Rattle.base_readers.specs.Walks.{Walked, ended, before}
use Rattle.base_readers.proofs.Sequencing.{no-got}
use Rattle.report_rules.specs.Report.{line, id_line, none_line, method_line, reason_line, property_line}
use Rattle.write_rules.specs.Entries.{Entry, identified, unstated, judged, reasoned, shown, line_of, entry}
use Rattle.write_rules.specs.Compose.{State, goes, final, Step, steps, step, walked}
use Rattle.write_laws.proofs.Readback.{Reads, Each, last-reads, joined}
use Rattle.write_laws.proofs.Finds.{Finds, bind-finds}
use Rattle.write_laws.proofs.Lines.{Good, Lined, entry-reads, entry-finds}

-- lines that may follow one another, from a state to another
pub data Runs : State → List Entry → State → Type 0 where
  over : {s : State} → Runs s [] s
  more : {s t u : State} {e : Entry} {es : List Entry} → goes s e ≡ some t → Runs t es u → Runs s (e ∷ es) u

pub no-some : {A : Type 0} {a : A} → none ≡ some a → ⊥
no-some e = let z : ◌≡◌ {A = ℕ} 0 1 = cc in omega arith

-- ==== one line

abbrev at : Entry → State → Step
at e t = record { entry = e; state = t }

pub step-reads : (s t : State) (e : Entry) → Good e → goes s e ≡ some t → Reads (step s) (line_of e) (at e t) Any
unfolding step steps
step-reads s t e h g = last-reads entry _ (line_of e) e (at e t) Any (entry-reads e h) (λ xs k. rw (steps, g))

abbrev pub Stepped : State → Step → List ℕ → Type 0
Stepped s v u = Lined v.entry u × (goes s v.entry ≡ some v.state)

steps-finds : (s : State) (e : Entry) (u : List ℕ) → Lined e u → Finds (steps s e) (λ v w. Stepped s v (u ++ w))
unfolding steps
steps-finds s e u l xs v n h = go (goes s e) refl
  where
    go : (o : Option State) → goes s e ≡ o → Stepped s v (u ++ take n xs)
    go none q = absurd (no-got (rw (steps, q) at h))
    go (some t) q =
        let w : got (at e t) 0 ≡ got v n = rw (steps, q) at h in
        let i : at e t ≡ v = cc in
        let z : 0 ≡ n = cc in
        rw (← i, ← z, append-nil u) (l, q)

pub step-finds : (s : State) → Finds (step s) (Stepped s)
unfolding step
step-finds s = bind-finds entry _ Lined (Stepped s) entry-finds (λ e u l. steps-finds s e u l)

-- a line isn't empty
pub line_first : (e : Entry) → 1 ≤ length (line_of e)
unfolding line_of id_line none_line method_line reason_line property_line line
line_first (identified i) = suc-le-suc zero-le
line_first unstated = suc-le-suc zero-le
line_first (judged m r) = suc-le-suc zero-le
line_first (reasoned t) = suc-le-suc zero-le
line_first (shown p) = suc-le-suc zero-le

-- ==== the walk

walked_skip : (s : State) (n k : ℕ) (xs : List ℕ) → walked s n k xs ≡ walked s n 0 (drop k xs)
unfolding walked
walked_skip s n k [] = rw drop-nil
walked_skip s n zero (x ∷ xs) = refl
walked_skip s n (suc k) (x ∷ xs) = walked_skip s n k xs

pub walked_none : (s : State) (n x : ℕ) (xs : List ℕ) → step s (x ∷ xs) ≡ nothing → walked s n 0 (x ∷ xs) ≡ ended 11 n
unfolding walked
walked_none s n x xs e = rw (walked, e)

pub walked_more : (s : State) (n x : ℕ) (xs : List ℕ) (v : Step) (m : ℕ) → step s (x ∷ xs) ≡ got v (suc m)
    → walked s n 0 (x ∷ xs) ≡ before v.entry (walked v.state (suc n) 0 (drop m xs))
unfolding walked
walked_more s n x xs v m e = let j : suc m - 1 ≡ m = omega arith in rw (walked, e, j, walked_skip v.state (suc n) m xs)

pub walked-last : (s : State) (n : ℕ) → final s ≡ true → walked s n 0 [] ≡ ended 0 0
unfolding walked
walked-last s n e = rw (walked, e)

pub walked-early : (s : State) (n : ℕ) → final s ≡ false → walked s n 0 [] ≡ ended 11 n
unfolding walked
walked-early s n e = rw (walked, e)

-- the same where the lines that are left aren't in two parts
pub walked-stops : (s : State) (n : ℕ) (xs : List ℕ) → 0 < length xs → step s xs ≡ nothing → walked s n 0 xs ≡ ended 11 n
walked-stops s n [] l e = absurd (omega arith)
walked-stops s n (x ∷ xs) l e = walked_none s n x xs e

pub walked-goes : (s : State) (n : ℕ) (xs : List ℕ) (v : Step) (m : ℕ) → 0 < length xs → 0 < m → step s xs ≡ got v m
    → walked s n 0 xs ≡ before v.entry (walked v.state (suc n) 0 (drop m xs))
walked-goes s n [] v m l k e = absurd (omega arith)
walked-goes s n (x ∷ xs) v zero l k e = absurd (omega arith)
walked-goes s n (x ∷ xs) v (suc m) l k e = walked_more s n x xs v m e

-- why a walk stops before its end
pub data Stuck (t : State) (rest : List ℕ) : Type 0 where
  early : rest ≡ [] → final t ≡ false → Stuck t rest
  bad : (x : ℕ) (xs : List ℕ) → rest ≡ x ∷ xs → step t rest ≡ nothing → Stuck t rest

abbrev pub walked_as : List Entry → ℕ → ℕ → Walked Entry
walked_as es n p = record { items = es; number = n; place = p }

pub data Walk (s : State) (n : ℕ) (src : List ℕ) : Type 0 where
  accepted : (es : List Entry) (t : State) → Runs s es t → Each Good es → final t ≡ true → src ≡ joined line_of es
      → walked s n 0 src ≡ walked_as es 0 0 → Walk s n src
  refused : (es : List Entry) (t : State) (rest : List ℕ) → Runs s es t → Each Good es → Stuck t rest → src ≡ joined line_of es ++ rest
      → walked s n 0 src ≡ walked_as es 11 (n + length es) → Walk s n src

-- one line more in front
module _ (s : State) (n : ℕ) (src : List ℕ) (e : Entry) (t : State) (ys : List ℕ) (g : goes s e ≡ some t) (h : Good e) (c : src ≡ line_of e ++ ys)
    (q : walked s n 0 src ≡ before e (walked t (suc n) 0 ys)) where
  walk_more : Walk t (suc n) ys → Walk s n src
  walk_more (accepted es u r k f d w) = accepted (e ∷ es) u (more g r) (h, k) f (c ∙ ap (λ (l : List ℕ). line_of e ++ l) d) (q ∙ rw w)
  walk_more (refused es u rest r k x d w) =
      let j : suc n + length es ≡ n + suc (length es) = omega arith in
      refused (e ∷ es) u rest (more g r) (h, k) x (c ∙ (ap (λ (l : List ℕ). line_of e ++ l) d ∙ sym (append_assoc (line_of e) (joined line_of es) rest))) (q ∙ rw (w, j))

walk_at : (s : State) (n : ℕ) (src : List ℕ) → ((t : State) (m : ℕ) (ys : List ℕ) → length ys < length src → Walk t m ys) → Walk s n src
walk_at s n [] ih = go (final s) refl
  where
    go : (f : Bool) → final s ≡ f → Walk s n []
    go true e = accepted [] s over tt e refl (walked-last s n e)
    go false e = refused [] s [] over tt (early refl e) refl (rw add-zero (walked-early s n e))
walk_at s n (x ∷ xs) ih = go (step s (x ∷ xs)) refl
  where
    go : (o : Got Step) → step s (x ∷ xs) ≡ o → Walk s n (x ∷ xs)
    go nothing e = refused [] s (x ∷ xs) over tt (bad x xs refl e) refl (rw add-zero (walked_none s n x xs e))
    go (got v zero) e =
        let k = step-finds s (x ∷ xs) v 0 e in
        absurd (let z : length (line_of v.entry) ≡ 0 = ap length (sym k.0.0) in omega (arith, line_first v.entry))
    go (got v (suc m)) e =
        let k = step-finds s (x ∷ xs) v (suc m) e in
        let c : x ∷ xs ≡ line_of v.entry ++ drop m xs = sym (take-append-drop (suc m) (x ∷ xs)) ∙ ap (λ (l : List ℕ). l ++ drop m xs) k.0.0 in
        walk_more s n (x ∷ xs) v.entry v.state (drop m xs) k.1 k.0.1 c (walked_more s n x xs v m e)
        (ih v.state (suc n) (drop m xs) (omega (arith, length-drop m xs)))

walk_from : (b : ℕ) (s : State) (n : ℕ) (src : List ℕ) → length src ≤ b → Walk s n src
walk_from zero s n src l = walk_at s n src (λ t m ys k. absurd (omega arith))
walk_from (suc b) s n src l = walk_at s n src (λ t m ys k. walk_from b t m ys (omega arith))

pub walk : (s : State) (n : ℕ) (src : List ℕ) → Walk s n src
walk s n src = walk_from (length src) s n src (le_refl _)

-- lines that may follow one another are walked through
pub walked_all : (es : List Entry) (s t : State) (n : ℕ) → Runs s es t → Each Good es → final t ≡ true → walked s n 0 (joined line_of es) ≡ walked_as es 0 0
walked_all [] s t n over h f = walked-last s n f
walked_all (e ∷ es) s t n (more {t = u} g r) h f = go (walked_all es u t (suc n) r h.1 f) (line_of e) refl
  where
    go : walked u (suc n) 0 (joined line_of es) ≡ walked_as es 0 0 → (l : List ℕ) → line_of e ≡ l → walked s n 0 (line_of e ++ joined line_of es) ≡ walked_as (e ∷ es) 0 0
    go ih [] q = absurd (let z : length (line_of e) ≡ 0 = ap length q in omega (arith, line_first e))
    go ih (x ∷ xs) q =
        let k : step s (x ∷ (xs ++ joined line_of es)) ≡ got (at e u) (suc (length xs)) = rw q at (step-reads s u e h.0 g (joined line_of es) tt) in
        rw (q, walked_more s n x (xs ++ joined line_of es) (at e u) (length xs) k, drop-append_seam xs (joined line_of es), ih)
