-- Two texts compared without case, byte by byte and several bytes at once, as the loops of the code walk over them. The premises are literally what a need is handed.
use Prim.Native.Nat.{ℕ, ◌+◌, ◌-◌, ◌≤◌, ◌<◌}
use native.Mathlib.Numerals.{add-one}
use native.Mathlib.Omega.{arith}
use mathlib.Core.Path.{◌≡◌, refl, sym, ◌∙◌}
use mathlib.Core.Bool.{Bool, true, false, not, ◌&&◌, ◌||◌}
use mathlib.Core.List.{List}
use lib.Dec.{eqb}
use lib.ListN.{length, get_or, drop, drop_of_length-le}
use lib.Seq.{drop-cons, drop-drop}
use Rattle.base_sequences.proofs.Booleans.{no_true, both}
use Rattle.base_readers.specs.Texts.{same}
use Rattle.lexis_rules.specs.Bytes.{lower, alike}
use Rattle.text_compare.specs.Internal.{Compared}
use Rattle.lexis_laws.proofs.Bytes.{alike-drop}

-- ==== two texts, byte by byte

-- the bytes at one place, and what is behind them
rests-first : (a b : List ℕ) (j : ℕ) → j < length a → j < length b
    → alike (drop j a) (drop j b) ≡ (eqb (lower (get_or a j 0)) (lower (get_or b j 0)) && alike (drop (j + 1) a) (drop (j + 1) b))
unfolding alike same
rests-first a b j h k = rw (drop-cons a j 0 h, drop-cons b j 0 k, add-one)

-- two texts of one length are alike from j on if and only if they are alike
module _ (a b : List ℕ) (l : length a ≡ length b) (j : ℕ) (w : alike (drop j a) (drop j b) ≡ alike a b) where
  pub word_end : length a ≤ j → true ≡ alike a b
  unfolding alike same
  word_end h = let k : length b ≤ j = omega arith in rw (drop_of_length-le a h, drop_of_length-le b k) at w

  module _ (h : j < length a) (r : Bool) (e : r ≡ eqb (lower (get_or a j 0)) (lower (get_or b j 0))) where
    here : alike a b ≡ (r && alike (drop (j + 1) a) (drop (j + 1) b))
    here = sym w ∙ rw e (rests-first a b j h (omega arith))

    pub word_on : r ≡ true → alike (drop (j + 1) a) (drop (j + 1) b) ≡ alike a b
    word_on t = sym (rw t at here)

    pub word-off : r ≡ false → false ≡ alike a b
    word-off t = sym (rw t at here)

-- n bytes at once: what is known after j of them
pub compared-more : (a b : List ℕ) (at j : ℕ) (hit : Bool) → Compared a b at j hit → at + j < length a → at + j < length b → (p q : ℕ)
    → p ≡ lower (get_or a (at + j) 0) → q ≡ lower (get_or b (at + j) 0) → Compared a b at (j + 1) (hit || not (eqb p q))
compared-more a b at j hit w h k p q P Q = go hit (eqb p q) refl w
  where
    here : alike (drop (at + j) a) (drop (at + j) b) ≡ (eqb p q && alike (drop (at + (j + 1)) a) (drop (at + (j + 1)) b))
    here = let z : at + j + 1 ≡ at + (j + 1) = omega arith in rw (P, Q, ← z) (rests-first a b (at + j) h k)

    go : (hit t : Bool) → eqb p q ≡ t → Compared a b at j hit → Compared a b at (j + 1) (hit || not t)
    go true t e w = record { on = λ z. absurd (no_true (sym z)); off = λ z. w.off refl }
    go false true e w = record { on = λ z. sym (rw e at here) ∙ w.on refl; off = λ z. absurd (no_true z) }
    go false false e w = record { on = λ z. absurd (no_true (sym z)); off = λ z. sym (w.on refl) ∙ (rw e at here) }

pub compared-all : (a b : List ℕ) (at j n : ℕ) (hit : Bool) → Compared a b at j hit → j ≤ n → n ≤ j → Compared a b at n hit
compared-all a b at j n hit w l m = let e : j ≡ n = omega arith in rw (← e) w

-- the loop over pieces of both texts
module _ (a b : List ℕ) (j n : ℕ) (w : alike (drop j a) (drop j b) ≡ alike a b) where
  pub pieces-on : (r : Bool) → Compared a b j n r → r ≡ false → alike (drop (j + n) a) (drop (j + n) b) ≡ alike a b
  pieces-on r v f = v.on f ∙ w

  pub pieces-off : (r : Bool) → Compared a b j n r → r ≡ true → false ≡ alike a b
  pieces-off r v t = sym (v.off t) ∙ w

  -- the last piece ends where the texts do, and starts before j
  pub pieces_end : length a ≡ length b → (at : ℕ) → at + n ≡ length a → at ≤ j → (r : Bool) → Compared a b at n r → not r ≡ alike a b
  unfolding alike same
  pieces_end l at z h true v = go (alike a b) refl
    where
      go : (t : Bool) → alike a b ≡ t → false ≡ alike a b
      go true e = absurd (both (alike (drop at a) (drop at b)) (v.off refl) (alike-drop at a b e))
      go false e = sym e
  pieces_end l at z h false v =
      let x : length a ≤ at + n = omega arith in
      let y : length b ≤ at + n = omega arith in
      let k : at + (j - at) ≡ j = omega arith in
      let e : true ≡ alike (drop at a) (drop at b) = rw (drop_of_length-le a x, drop_of_length-le b y) at (v.on refl) in
      let x : drop (j - at) (drop at a) ≡ drop j a = rw (drop-drop, k) in
      let y : drop (j - at) (drop at b) ≡ drop j b = rw (drop-drop, k) in
      sym (rw (x, y) at (alike-drop (j - at) (drop at a) (drop at b) (sym e))) ∙ w
