-- Text stored in a lent buffer where something may be left past its end: only the front up to there is told.
use Prim.Native.Nat.{ℕ, suc, ◌+◌, ◌≤◌, ◌<◌}
use native.Mathlib.Omega.{arith}
use mathlib.Core.Path.{◌≡◌, refl, sym, ap, ◌∙◌}
use mathlib.Core.List.{List, [], ◌∷◌, ◌++◌}
use lib.ListN.{length, take, drop, set, length-append}
use lib.Seq.{sets, set-set, set_comm, take-set-le, take-take, take-append_seam}
use Rattle.base_sequences.specs.Stored.{Wrote}
use Rattle.base_sequences.proofs.Splices.{sets-append, sets-front, wrote-long}
use Rattle.report.specs.Internal.{Fronted}

-- ==== text written over text

-- a store before others can be made after them
set_before : (l : List ℕ) (i j v : ℕ) (ys : List ℕ) → i < j → set (sets l j ys) i v ≡ sets (set l i v) j ys
set_before l i j v [] h = refl
set_before l i j v (y ∷ ys) h =
    set_before (set l j y) i (suc j) v ys (omega arith)
    ∙ ap (λ (m : List ℕ). sets m (suc j) ys) (set_comm l j i y v (λ e. omega arith))

-- what is stored from a place on leaves all before it
take-sets : (n : ℕ) (l : List ℕ) (i : ℕ) (vs : List ℕ) → n ≤ i → take n (sets l i vs) ≡ take n l
take-sets n l i [] h = refl
take-sets n l i (v ∷ vs) h = take-sets n (set l i v) (suc i) vs (omega arith) ∙ take-set-le n l i v h

-- up to its end a text leaves nothing of what was stored from the same place on
take-over : (n : ℕ) (l g vs : List ℕ) (i : ℕ) → n ≤ i + length vs → take n (sets (sets l i g) i vs) ≡ take n (sets l i vs)
take-over n l g [] i h = take-sets n l i g (omega arith)
take-over n l [] (v ∷ vs) i h = refl
take-over n l (y ∷ ys) (v ∷ vs) i h =
    ap (λ (m : List ℕ). take n (sets m (suc i) vs)) (set_before (set l i y) i (suc i) v ys (omega arith))
    ∙ (ap (λ (m : List ℕ). take n (sets (sets m (suc i) ys) (suc i) vs)) (set-set l i y v)
    ∙ take-over n (set l i v) ys vs (suc i) (omega arith))

-- ==== a text, and what comes before it

pub wrote-fronted : {old text new : List ℕ} {to next : ℕ} → Wrote old to text new next → Fronted old to text new
wrote-fronted {text} {to} w = record { front = ap (take (to + length text)) w.bytes; long = wrote-long w }

-- nothing before the text has changed
pub fronted-none : {old text new : List ℕ} {to : ℕ} → Fronted old to text new → Fronted old to [] new
fronted-none {old} {text} {new} {to} f =
    let l : to + 0 ≤ to + length text = omega arith in
    record {
      front = sym (take-take (to + 0) (to + length text) new l)
          ∙ (ap (take (to + 0)) f.front
          ∙ (take-take (to + 0) (to + length text) (sets old to text) l
          ∙ take-sets (to + 0) old to text (omega arith)));
      long = f.long;
    }

-- a text behind one that was written from the start
pub fronted-then : {old mid new : List ℕ} {n : ℕ} (x y : List ℕ) → Wrote old 0 x mid n → Fronted mid n y new → Fronted old 0 (x ++ y) new
fronted-then {old} {mid} {new} {n} x y w f =
    let k : 0 + length (x ++ y) ≡ n + length y = omega (arith, length-append x y, w.place) in
    let b : sets mid n y ≡ sets old 0 (x ++ y) = rw (w.bytes, w.place) (sym (sets-append old 0 x y)) in
    record { front = rw (k, ← b) f.front; long = f.long ∙ wrote-long w }

-- a text that fits, stored from the start, stands there
pub fronted-text : {old text new : List ℕ} → Fronted old 0 text new → length text ≤ length old → take (length text) new ≡ text
fronted-text {old} {text} {new} f h =
    let k : 0 + length text ≡ length text = omega arith in
    (rw k at f.front) ∙ rw (sets-front old text h) (take-append_seam text (drop (length text) old))

-- ==== loops that write: what is still to be written, `text` from `at` on, ends as `whole` from `from` on would have

pub record Fronting (old : List ℕ) (from : ℕ) (whole out : List ℕ) (at : ℕ) (text : List ℕ) : Type 0 where
  pub place : at + length text ≡ from + length whole
  pub front : take (from + length whole) (sets out at text) ≡ take (from + length whole) (sets old from whole)
  pub long : length out ≡ length old

pub fronting-start : (l : List ℕ) (i : ℕ) (t : List ℕ) → Fronting l i t l i t
fronting-start l i t = record { place = refl; front = refl; long = refl }

-- a turn writes the text's first part
pub fronting-step : {old whole out out' text x rest : List ℕ} {from at at' : ℕ}
    → Fronting old from whole out at text → text ≡ x ++ rest → Wrote out at x out' at' → Fronting old from whole out' at' rest
fronting-step {out} {text} {x} {rest} {at} l e w =
    record {
      place = omega (arith, length-append x rest, ap length e, l.place, w.place);
      front = rw (w.bytes, w.place, ← sets-append out at x rest, ← e) l.front;
      long = wrote-long w ∙ l.long;
    }

-- a turn writes what the text will be written over
pub fronting-over : {old whole out out' text g : List ℕ} {from at k : ℕ}
    → Fronting old from whole out at text → Wrote out at g out' k → Fronting old from whole out' at text
fronting-over {whole} {out} {text} {g} {from} {at} l w =
    record {
      place = l.place;
      front = rw w.bytes (take-over (from + length whole) out g text at (omega (arith, l.place)) ∙ l.front);
      long = wrote-long w ∙ l.long;
    }

module _ {old whole out text : List ℕ} {from at : ℕ} (l : Fronting old from whole out at text) (e : text ≡ []) where
  pub fronting-end : at ≡ from + length whole
  fronting-end = omega (arith, ap length e, l.place)

  pub fronting-done : Fronted old from whole out
  fronting-done = record { front = ap (λ (t : List ℕ). take (from + length whole) (sets out at t)) (sym e) ∙ l.front; long = l.long }
