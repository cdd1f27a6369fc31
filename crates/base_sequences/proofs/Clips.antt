-- Texts stored one after the other, with places that stop at the largest one.
use Prim.Native.Nat.{ℕ, ◌+◌, ◌≤◌, ◌<◌, min}
use native.Mathlib.Omega.{arith}
use mathlib.Core.Path.{◌≡◌, refl, sym, ap, ◌∙◌}
use mathlib.Core.List.{List, [], ◌∷◌, ◌++◌}
use lib.ListN.{length, length-append}
use lib.Seq.{sets, length-sets, set_out}
use mathlib.Core.Bool.{Bool, true, false}
use lib.Dec.{leb}
use borrow.Author.Tests.{leb-true, leb-false}
use Rattle.base_sequences.specs.Stored.{cap, Clipped, Wrote, Put}
use Rattle.base_sequences.proofs.Splices.{sets-append, sets-out}

-- no room is left at the largest place
sets-past : (l : List ℕ) (i j : ℕ) (vs : List ℕ) → length l ≤ cap → j ≡ min i cap → sets l i vs ≡ sets l j vs
sets-past l i j vs h e = go (leb i cap) refl
  where
    go : (b : Bool) → leb i cap ≡ b → sets l i vs ≡ sets l j vs
    go true a = let q : j ≡ i = omega (arith, leb-true i cap a) in rw q
    go false a = sets-out l i vs (omega (arith, leb-false i cap a)) ∙ sym (sets-out l j vs (omega (arith, leb-false i cap a)))

pub clipped-long : {old text new : List ℕ} {to next : ℕ} → Clipped old to text new next → length new ≡ length old
clipped-long {old} {text} {new} {to} w = ap length w.bytes ∙ length-sets old to text

pub clipped-cap : {old text new : List ℕ} {to next : ℕ} → Clipped old to text new next → next ≤ cap
clipped-cap w = omega (arith, w.place)

pub clipped-then : {a b c : List ℕ} {i j k : ℕ} {x y : List ℕ} → length a ≤ cap → Clipped a i x b j → Clipped b j y c k → Clipped a i (x ++ y) c k
clipped-then {a} {b} {c} {i} {j} {k} {x} {y} h v w =
    record {
      place = omega (arith, length-append x y, v.place, w.place);
      bytes = w.bytes ∙ (sym (sets-past b (i + length x) j y (omega (arith, clipped-long v)) v.place) ∙ (ap (λ (l : List ℕ). sets l (i + length x) y) v.bytes ∙ sym (sets-append a i x y)));
    }

-- one byte, where there is no room
pub put-none : (old : List ℕ) (to b : ℕ) → length old ≤ to → to < cap → Clipped old to (b ∷ []) old (to + 1)
put-none old to b h l = record { place = omega arith; bytes = sym (set_out old to b h) }

pub put-past : (old : List ℕ) (to b : ℕ) → length old ≤ to → cap ≤ to → Clipped old to (b ∷ []) old cap
put-past old to b h l = record { place = omega arith; bytes = sym (set_out old to b h) }

-- ==== loops: what is still to be written

pub record Going (old : List ℕ) (to : ℕ) (whole out : List ℕ) (at : ℕ) (text : List ℕ) : Type 0 where
  pub place : min (at + length text) cap ≡ min (to + length whole) cap
  pub bytes : sets out at text ≡ sets old to whole
  pub long : length out ≡ length old
  pub low : at ≤ cap

pub going_start : (old : List ℕ) (to : ℕ) (text : List ℕ) → to ≤ cap → Going old to text old to text
going_start old to text h = record { place = refl; bytes = refl; long = refl; low = h }

pub going_step : {old whole out out' text x rest : List ℕ} {to at at' : ℕ} → length old ≤ cap → Going old to whole out at text → text ≡ x ++ rest
    → Clipped out at x out' at' → Going old to whole out' at' rest
going_step {old} {whole} {out} {out'} {text} {x} {rest} {to} {at} {at'} h g e w =
    record {
      place = omega (arith, length-append x rest, ap length e, g.place, w.place);
      bytes =
          sym (sets-past out' (at + length x) at' rest (omega (arith, clipped-long w, g.long)) w.place)
          ∙ (ap (λ (l : List ℕ). sets l (at + length x) rest) w.bytes ∙ (sym (sets-append out at x rest) ∙ (ap (sets out at) (sym e) ∙ g.bytes)));
      long = clipped-long w ∙ g.long;
      low = clipped-cap w;
    }

pub going_done : {old whole out text : List ℕ} {to at : ℕ} → Going old to whole out at text → text ≡ [] → Clipped old to whole out at
going_done {old} {whole} {out} {text} {to} {at} g e =
    record { place = omega (arith, ap length e, g.place, g.low); bytes = ap (λ (t : List ℕ). sets out at t) (sym e) ∙ g.bytes }

-- ==== where the sum fits

-- a place that did not stop is the sum
pub clipped-wrote : {old text new : List ℕ} {to next : ℕ} → to + length text ≤ cap → Clipped old to text new next → Wrote old to text new next
clipped-wrote h w = record { place = omega (arith, w.place); bytes = w.bytes }

-- a writer that returns the length of its text, and the place after it
pub put-clipped : {old text new : List ℕ} {to size next : ℕ} → Put old to text new size → next ≡ min (to + size) cap → Clipped old to text new next
put-clipped p e = record { place = omega (arith, p.count); bytes = p.bytes }
