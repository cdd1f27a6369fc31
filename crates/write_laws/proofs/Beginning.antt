-- The place: where a walk along the lines is stuck, no report has the same lines one line further, because a line says one thing only; and up
-- to there one has, because every state has lines that complete it.
use Prim.Native.Nat.{ℕ, suc, ◌≤◌}
use native.Mathlib.Omega.{arith}
use mathlib.Core.Path.{◌≡◌, refl, sym, ap, ◌∙◌, subst}
use mathlib.Core.Bool.{true}
use mathlib.Core.List.{List, [], ◌∷◌, ◌++◌, append-nil, map}
use mathlib.Core.Option.{some}
use lib.ListN.{length, take}
use lib.Seq.{take-take, take-append_seam}
use Rattle.base_sequences.proofs.Booleans.{both}
use Rattle.base_readers.specs.Parsers.{got}
use Rattle.base_readers.proofs.Sequencing.{no-got}
use Rattle.write_rules.specs.Entries.{Entry, identified, unstated, line_of, each, is_text, entry}
use Rattle.write_rules.specs.Compose.{State, front, named, closed, stated, detailed, goes, final, step}
use Rattle.write_rules.specs.Promise.{lines_with_feeds, Begins}
use Rattle.write_laws.proofs.Readback.{Each, joined}
use Rattle.write_laws.proofs.Lines.{Good, entry-reads}
use Rattle.write_laws.proofs.Runs.{Runs, over, more, Stuck, early, bad, step-reads}
use Rattle.write_laws.proofs.Flat.{Ran, ran-none, each_append}
use Rattle.write_laws.proofs.Splits.{lines-joined, lines_join}
use Rattle.write_laws.proofs.Reporting.{written-reported}

-- ==== what can't be begun

-- two lines that are the same say the same
pub line_same : (e f : Entry) → Good e → Good f → line_of e ≡ line_of f → e ≡ f
line_same e f g h q =
    let a : entry (line_of e ++ []) ≡ got e (length (line_of e)) = entry-reads e g [] tt in
    let b : entry (line_of f ++ []) ≡ got f (length (line_of f)) = entry-reads f h [] tt in
    let c : got e (length (line_of e)) ≡ got f (length (line_of f)) = sym a ∙ (ap (λ (l : List ℕ). entry (l ++ [])) q ∙ b) in
    cc

-- a line that may follow, and those behind it
record Next (s : State) (f : Entry) (fs : List Entry) : Type 0 where
  state : State
  goes : goes s f ≡ some state
  ran : Ran state fs

runs-next : (s u : State) (f : Entry) (fs : List Entry) → Runs s (f ∷ fs) u → final u ≡ true → Next s f fs
runs-next s u f fs (more {t = w} {u = z} g r) e = record { state = w; goes = g; ran = record { last = z; runs = r; ends = e } }

runs_none : (s u : State) → Runs s [] u → s ≡ u
runs_none s u over = refl

no_line : {l : List ℕ} {ls : List (List ℕ)} → [] ≡ l ∷ ls → ⊥
no_line {l} {ls} e = let z : 0 ≡ suc (length ls) = ap length e in omega arith

-- where a walk is stuck, no line may follow
stuck-not : (t : State) (rest : List ℕ) → Stuck t rest → (fs : List Entry) → Ran t fs → Each Good fs → take 1 (map line_of fs) ≡ take 1 (lines_with_feeds rest) → ⊥
unfolding lines_with_feeds
stuck-not t rest (early z f) [] r k q = both (final t) f (rw (runs_none t r.last r.runs) r.ends)
stuck-not t rest (early z f) (g ∷ fs) r k q = no_line (sym (q ∙ ap (λ (l : List ℕ). take 1 (lines_with_feeds l)) z))
stuck-not t rest (bad x xs z f) fs r k q = go (lines_with_feeds (x ∷ xs)) (lines_join (x ∷ xs)) fs r k (q ∙ ap (λ (l : List ℕ). take 1 (lines_with_feeds l)) z)
  where
    go : (ls : List (List ℕ)) → joined (λ (l : List ℕ). l) ls ≡ x ∷ xs → (fs : List Entry) → Ran t fs → Each Good fs → take 1 (map line_of fs) ≡ take 1 ls → ⊥
    go [] j fs r k q = let z : 0 ≡ suc (length xs) = ap length j in omega arith
    go (l ∷ ls) j [] r k q = no_line q
    go (l ∷ ls) j (g ∷ fs) r k q =
        let v = runs-next t r.last g fs r.runs r.ends in
        let ys = joined (λ (l : List ℕ). l) ls in
        let i : line_of g ≡ l = cc in
        let c : rest ≡ line_of g ++ ys = z ∙ (sym j ∙ ap (λ (m : List ℕ). m ++ ys) (sym i)) in
        no-got (sym f ∙ (ap (step t) c ∙ step-reads t v.state g k.0 v.goes ys tt))

-- no lines that may follow one another to the end have the same first lines as a walk that is stuck, one line further than it went
pub not-begun : {s t : State} {es : List Entry} → Runs s es t → Each Good es → (rest : List ℕ) → Stuck t rest → (fs : List Entry) → Ran s fs → Each Good fs
    → take (suc (length es)) (map line_of fs) ≡ take (suc (length es)) (map line_of es ++ lines_with_feeds rest) → ⊥
not-begun (over {s}) h rest st fs w k q = stuck-not s rest st fs w k q
not-begun (more {s} {t} {u} {e} {es} g r) h rest st [] w k q = no_line q
not-begun (more {s} {t} {u} {e} {es} g r) h rest st (f ∷ fs) w k q =
    let v = runs-next s w.last f fs w.runs w.ends in
    let a : line_of f ≡ line_of e = cc in
    let b : take (suc (length es)) (map line_of fs) ≡ take (suc (length es)) (map line_of es ++ lines_with_feeds rest) = cc in
    let i : f ≡ e = line_same f e k.0 h.0 a in
    let j : some v.state ≡ some t = sym v.goes ∙ (ap (goes s) i ∙ g) in
    let m : v.state ≡ t = cc in
    not-begun r h.1 rest st fs (subst (λ (z : State). Ran z fs) m v.ran) k.1 b

-- ==== what can be begun can be ended

record Finish (t : State) : Type 0 where
  rest : List Entry
  ran : Ran t rest
  good : Each Good rest

finish : (t : State) → Finish t
unfolding goes final
finish front = record { rest = identified [] ∷ unstated ∷ []; ran = ran-none []; good = ((unfold is_text each in refl, unfold each in refl), (tt, tt)) }
finish named = record { rest = unstated ∷ []; ran = record { last = closed; runs = more refl over; ends = refl }; good = (tt, tt) }
finish closed = record { rest = []; ran = record { last = closed; runs = over; ends = refl }; good = tt }
finish stated = record { rest = []; ran = record { last = stated; runs = over; ends = refl }; good = tt }
finish detailed = record { rest = []; ran = record { last = detailed; runs = over; ends = refl }; good = tt }

runs_append : {s t : State} {es : List Entry} → Runs s es t → (fs : List Entry) (u : State) → Runs t fs u → Runs s (es ++ fs) u
runs_append over fs u r = r
runs_append (more g q) fs u r = more g (runs_append q fs u r)

map-append : (es fs : List Entry) → map line_of (es ++ fs) ≡ map line_of es ++ map line_of fs
map-append [] fs = refl
map-append (e ∷ es) fs = ap (λ (l : List (List ℕ)). line_of e ∷ l) (map-append es fs)

pub map-length : (es : List Entry) → length (map line_of es) ≡ length es
map-length [] = refl
map-length (e ∷ es) = ap suc (map-length es)

-- the lines of lines that may follow one another
pub told-lines : (es : List Entry) → Each Good es → lines_with_feeds (joined line_of es) ≡ map line_of es
told-lines es h = sym (ap lines_with_feeds (append-nil (joined line_of es))) ∙ (lines-joined es h [] ∙ (unfold lines_with_feeds in append-nil (map line_of es)))

pub begun : (es : List Entry) (t : State) → Runs front es t → Each Good es → (rest : List ℕ) → Begins (length es) (joined line_of es ++ rest)
begun es t r h rest =
    let f = finish t in
    let all = es ++ f.rest in
    let k : Each Good all = each_append Good es f.rest h f.good in
    let q : Runs front all f.ran.last = runs_append r f.rest f.ran.last f.ran.runs in
    let a : take (length es) (map line_of es ++ map line_of f.rest) ≡ map line_of es = sym (ap (λ (n : ℕ). take n (map line_of es ++ map line_of f.rest)) (map-length es)) ∙ take-append_seam (map line_of es) (map line_of f.rest) in
    let b : take (length es) (map line_of es ++ lines_with_feeds rest) ≡ map line_of es = sym (ap (λ (n : ℕ). take n (map line_of es ++ lines_with_feeds rest)) (map-length es)) ∙ take-append_seam (map line_of es) (lines_with_feeds rest) in
    record {
      lines = joined line_of all;
      reported = written-reported all f.ran.last q k f.ran.ends;
      same = rw (told-lines all k, map-append es f.rest, a, lines-joined es h rest, b);
    }

pub begins-less : (j k : ℕ) (src : List ℕ) → j ≤ k → Begins k src → Begins j src
begins-less j k src l b =
    record {
      lines = b.lines;
      reported = b.reported;
      same = sym (take-take j k (lines_with_feeds b.lines) l) ∙ (ap (take j) b.same ∙ take-take j k (lines_with_feeds src) l);
    }
