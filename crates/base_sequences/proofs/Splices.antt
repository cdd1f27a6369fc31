-- Text stored in a lent buffer, `sets l i vs` of `lib.Seq`: a store past the end leaves the list as it is, so no law asks for room.
use Prim.Native.Nat.{ℕ, suc, ◌+◌, ◌-◌, ◌≤◌, ◌<◌}
use native.Mathlib.Nat.{add-zero, zero-add, add-suc, suc-add}
use native.Mathlib.Numerals.{add-one}
use native.Mathlib.Omega.{arith}
use mathlib.Core.Path.{◌≡◌, refl, sym, ap, ◌∙◌}
use mathlib.Core.Logic.{◌⊎◌, ⊎_elim}
use mathlib.Core.List.{List, [], ◌∷◌, ◌++◌, append-nil}
use lib.ListN.{length, take, drop, get_or, set, length-append, drop_of_length-le, take-append-drop}
use lib.Seq.{sets, sets-eq, set_out, length-sets, length-take-le, drop-cons, drop-length, take-append_seam}
use Rattle.base_sequences.specs.Stored.{Wrote, Put}

-- a text in two parts: the first, and then the second after it
pub sets-append : (l : List ℕ) (i : ℕ) (xs ys : List ℕ) → sets l i (xs ++ ys) ≡ sets (sets l i xs) (i + length xs) ys
sets-append l i [] ys = rw add-zero
sets-append l i (x ∷ xs) ys = sets-append (set l i x) (suc i) xs ys ∙ rw (add-suc, suc-add)

-- nothing is stored past the end
pub sets-out : (l : List ℕ) (i : ℕ) (vs : List ℕ) → length l ≤ i → sets l i vs ≡ l
sets-out l i [] h = refl
sets-out l i (v ∷ vs) h = rw (set_out l i v h) (sets-out l (suc i) vs (omega arith))

-- a text that fits, stored from the start: the text, and then what stood past it
pub sets-front : (l vs : List ℕ) → length vs ≤ length l → sets l 0 vs ≡ vs ++ drop (length vs) l
sets-front l vs h = sets-eq vs l 0 (omega arith) ∙ rw zero-add

-- ==== writers: nothing; one after another; a whole text

pub wrote_none : (l : List ℕ) (at : ℕ) → Wrote l at [] l at
wrote_none l at = record { place = sym (add-zero at); bytes = refl }

pub wrote_then : {a b c : List ℕ} {i j k : ℕ} {x y : List ℕ} → Wrote a i x b j → Wrote b j y c k → Wrote a i (x ++ y) c k
wrote_then {a} {b} {c} {i} {j} {k} {x} {y} v w =
    record {
      place = omega (arith, length-append x y, v.place, w.place);
      bytes = rw (sets-append a i x y, ← v.bytes, ← v.place) w.bytes;
    }

pub wrote-long : {old text new : List ℕ} {at next : ℕ} → Wrote old at text new next → length new ≡ length old
wrote-long {old} {text} {new} {at} w = ap length w.bytes ∙ length-sets old at text

pub wrote_count : {old text new : List ℕ} {next : ℕ} → Wrote old 0 text new next → next ≡ length text
wrote_count w = w.place ∙ zero-add _

-- where the text fits it stands at the front, and what stood past it stays
pub wrote-front : {old text new : List ℕ} {next : ℕ} → Wrote old 0 text new next → length text ≤ length old → new ≡ text ++ drop (length text) old
wrote-front {old} {text} w h = w.bytes ∙ sets-front old text h

-- a writer run on an empty buffer only measures
pub wrote-nowhere : {text new : List ℕ} {next : ℕ} → Wrote [] 0 text new next → new ≡ []
wrote-nowhere {text} w = w.bytes ∙ sets-out [] 0 text (omega arith)

-- a writer that returns the length, and the place after the text
pub put-wrote : {old text new : List ℕ} {at size : ℕ} → Put old at text new size → Wrote old at text new (at + size)
put-wrote p = record { place = omega (arith, p.count); bytes = p.bytes }

pub wrote-put : {old text new : List ℕ} {at size : ℕ} → Wrote old at text new (at + size) → Put old at text new size
wrote-put w = record { count = omega (arith, w.place); bytes = w.bytes }

-- a text that fits, stored from the start, stands there
pub put_front : {old text new : List ℕ} {size : ℕ} → Put old 0 text new size → size ≤ length old → take size new ≡ text
put_front {old} {text} p h =
    let f : length text ≤ length old = omega (arith, p.count) in
    rw (p.count, p.bytes, sets-front old text f) (take-append_seam text (drop (length text) old))

-- a text that has no room, stored from the start: as much of it as there is room for
sets-full : (l vs : List ℕ) → length l ≤ length vs → sets l 0 vs ≡ take (length l) vs
sets-full l vs h =
    let m = length l in
    let n : length (take m vs) ≡ m = length-take-le m vs h in
    let a : length (take m vs) ≤ m = omega arith in
    let f : sets l 0 (take m vs) ≡ take m vs = sets-front l (take m vs) a ∙ rw (n, drop-length l, append-nil) in
    let o : length (sets l 0 (take m vs)) ≤ 0 + length (take m vs) = omega (arith, length-sets l 0 (take m vs)) in
    ap (sets l 0) (sym (take-append-drop m vs)) ∙ (sets-append l 0 (take m vs) (drop m vs) ∙ (sets-out (sets l 0 (take m vs)) (0 + length (take m vs)) (drop m vs) o ∙ f))

pub put_full : {old text new : List ℕ} {size k : ℕ} → Put old 0 text new size → length old ≡ k → k ≤ size → new ≡ take k text
put_full {old} {text} p l h = p.bytes ∙ (sets-full old text (omega (arith, p.count)) ∙ rw l)

pub put-long : {old text new : List ℕ} {at size : ℕ} → Put old at text new size → length new ≡ length old
put-long {old} {text} {new} {at} p = ap length p.bytes ∙ length-sets old at text

-- ==== loops that write: what is still to be written, `text` from `at` on, ends as `whole` from `from` on would have

pub record Left (old : List ℕ) (from : ℕ) (whole out : List ℕ) (at : ℕ) (text : List ℕ) : Type 0 where
  pub place : at + length text ≡ from + length whole
  pub bytes : sets out at text ≡ sets old from whole
  pub long : length out ≡ length old

pub left-start : (l : List ℕ) (i : ℕ) (t : List ℕ) → Left l i t l i t
left-start l i t = record { place = refl; bytes = refl; long = refl }

-- a turn writes the text's first part
pub left_step : {old whole out out' text x rest : List ℕ} {from at at' : ℕ}
    → Left old from whole out at text → text ≡ x ++ rest → Wrote out at x out' at' → Left old from whole out' at' rest
left_step {out} {text} {x} {rest} {at} l e w =
    record {
      place = omega (arith, length-append x rest, ap length e, l.place, w.place);
      bytes = rw (w.bytes, w.place, ← sets-append out at x rest, ← e) l.bytes;
      long = rw (w.bytes, length-sets out at x) l.long;
    }

-- a turn stores one byte
pub left-byte : {old whole out out' text rest : List ℕ} {from at b : ℕ}
    → Left old from whole out at text → text ≡ b ∷ rest → out' ≡ set out at b → Left old from whole out' (at + 1) rest
left-byte {rest} {b} l e q = left_step {x = b ∷ []} l e (record { place = refl; bytes = q })

pub left-done : {old whole out text : List ℕ} {from at : ℕ} → Left old from whole out at text → text ≡ [] → Wrote old from whole out at
left-done {out} {at} l e = record { place = omega (arith, ap length e, l.place); bytes = sym (ap (sets out at) e) ∙ l.bytes }

-- no room is left: what is still to be written changes nothing
pub left-full : {old whole out text : List ℕ} {from at : ℕ} → Left old from whole out at text → length out ≤ at → out ≡ sets old from whole
left-full {out} {text} {at} l h = sym (sets-out out at text h) ∙ l.bytes

-- ==== a loop that copies: it counts what it has stored, and the room was measured before

pub left-zero : (l : List ℕ) (i : ℕ) (t : List ℕ) → Left l i t l (i + 0) t
left-zero l i t = record { place = omega arith; bytes = rw add-zero; long = refl }

pub left-put : {old whole out : List ℕ} {from : ℕ} (j : ℕ) → Left old from whole out (from + j) (drop j whole) → j < length whole
    → Left old from whole (set out (from + j) (get_or whole j 0)) (from + (j + 1)) (drop (j + 1) whole)
left-put {whole} {from} j l h =
    let d : drop j whole ≡ (get_or whole j 0 ∷ []) ++ drop (j + 1) whole = rw (add-one, drop-cons {A = ℕ} whole j 0 h) in
    left_step {x = get_or whole j 0 ∷ []} {rest = drop (j + 1) whole} l d (record { place = omega arith; bytes = refl })

-- it ends where the text or the room does
pub left_end : {old whole out : List ℕ} {from j : ℕ} → Left old from whole out (from + j) (drop j whole)
    → (length whole ≤ j) ⊎ (length old - from ≤ j) → out ≡ sets old from whole
left_end l e = ⊎_elim (λ h. (left-done l (drop_of_length-le _ h)).bytes) (λ h. left-full l (omega (arith, h, l.long))) e
