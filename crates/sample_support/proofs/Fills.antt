-- Texts stored one after the other as far as there is room, the place after what is stored, and the loops that store: what is left to
-- store, stored from the place reached, ends as the whole text would. Then the text of shown bytes and the digits in front of a text, one
-- byte at a time.
use Prim.Native.Nat.{ℕ, suc, ◌+◌, ◌-◌, ◌/◌, ◌%◌, ◌≤◌, ◌<◌, min}
use native.Mathlib.Numerals.{add-one}
use native.Mathlib.Omega.{arith}
use mathlib.Core.Path.{◌≡◌, refl, sym, ap, ◌∙◌}
use mathlib.Core.Bool.{Bool, true, false}
use mathlib.Core.List.{List, [], ◌∷◌, ◌++◌}
use lib.Dec.{leb}
use lib.ListN.{length, get_or, drop, set, length-append, drop_of_length-le}
use lib.Seq.{sets, length-sets, set_out, drop-cons, length-take-le}
use borrow.Author.Tests.{leb-true, leb-false, le-leb, lt-leb, eq-eqb, ne_eqb}
use Rattle.base_sequences.proofs.Splices.{sets-append, sets-out}
use Rattle.base_readers.specs.Texts.{within}
use Rattle.sample_support.specs.Samples.{hex_digit, plain, shown, digits, Front, Filled}

-- ==== bytes in front

pub front-some : (s : List ℕ) (n : ℕ) → n < length s → (n ≡ min n (length s)) × Front n s
front-some s n h = let l : n ≤ length s = omega arith in (omega arith, (l, sym (length-take-le n s l)))

pub front-all : (s : List ℕ) (n : ℕ) → length s ≤ n → (length s ≡ min n (length s)) × Front (length s) s
front-all s n h = let l : length s ≤ length s = omega arith in (omega arith, (l, sym (length-take-le (length s) s l)))

-- ==== one text after another

-- no room is left past the end
sets-past : (l : List ℕ) (i j : ℕ) (vs : List ℕ) → j ≡ min i (length l) → sets l i vs ≡ sets l j vs
sets-past l i j vs e = go (leb i (length l)) refl
  where
    go : (b : Bool) → leb i (length l) ≡ b → sets l i vs ≡ sets l j vs
    go true a = let q : j ≡ i = omega (arith, leb-true i (length l) a) in rw q
    go false a = sets-out l i vs (omega (arith, leb-false i (length l) a)) ∙ sym (sets-out l j vs (omega (arith, leb-false i (length l) a)))

filled-long : {old text new : List ℕ} {at next : ℕ} → Filled old at text new next → length new ≡ length old
filled-long {old} {text} {new} {at} w = ap length w.bytes ∙ length-sets old at text

pub filled-then : {a b c x y : List ℕ} {i j k : ℕ} → Filled a i x b j → Filled b j y c k → Filled a i (x ++ y) c k
filled-then {a} {b} {c} {x} {y} {i} {j} {k} v w =
    let l : length b ≡ length a = filled-long v in
    record {
      place = omega (arith, length-append x y, v.place, w.place);
      bytes =
          w.bytes ∙ sym (sets-past b (i + length x) j y (rw l v.place))
          ∙ ap (λ (l : List ℕ). sets l (i + length x) y) v.bytes
          ∙ sym (sets-append a i x y);
    }

-- one byte, where there is room and where there is none
pub put-there : (old : List ℕ) (at b : ℕ) → at < length old → Filled old at (b ∷ []) (set old at b) (at + 1)
put-there old at b h = record { place = omega arith; bytes = refl }

pub put-past : (old : List ℕ) (at b : ℕ) → length old ≤ at → Filled old at (b ∷ []) old (length old)
put-past old at b h = record { place = omega arith; bytes = sym (set_out old at b h) }

-- ==== loops: `text` is left to store from `at` on

pub record Filling (old whole out : List ℕ) (at : ℕ) (text : List ℕ) : Type 0 where
  pub then : (new : List ℕ) (next : ℕ) → Filled out at text new next → Filled old 0 whole new next
  pub long : length out ≡ length old
  pub low : at ≤ length old

pub filling-start : (old whole : List ℕ) → Filling old whole old 0 whole
filling-start old whole = record { then = λ new next w. w; long = refl; low = omega arith }

pub filling-long : {old whole out text : List ℕ} {at : ℕ} → Filling old whole out at text → length out ≡ length old
filling-long f = f.long

-- a turn stores the text's first part
filling_step : {old whole out out' text x rest : List ℕ} {at at' : ℕ}
    → Filling old whole out at text → text ≡ x ++ rest → Filled out at x out' at' → Filling old whole out' at' rest
filling_step {rest} f e v =
    record {
      then = λ new next w. f.then new next (rw e (filled-then v w));
      long = filled-long v ∙ f.long;
      low = omega (arith, v.place, f.long);
    }

-- nothing is left, and what is stored stands in front
filling-done : {old whole out text : List ℕ} {at : ℕ} → Filling old whole out at text → text ≡ [] → Filled old 0 whole out at
filling-done {out} {at} f e = f.then out at (rw e (record { place = omega (arith, f.low, f.long); bytes = refl }))

pub filling-front : {old whole out text : List ℕ} {at : ℕ} → Filling old whole out at text → Front at out
filling-front {out} {at} f = let h : at ≤ length out = omega (arith, f.low, f.long) in (h, sym (length-take-le at out h))

-- ==== shown bytes

-- a byte before a, and any other
pub within-before : (a z b : ℕ) → b < a → false ≡ within a z b
unfolding within
within-before a z b h = rw (lt-leb a b h)

pub within-after : (a z b : ℕ) → a ≤ b → leb b z ≡ within a z b
unfolding within
within-after a z b h = rw (le-leb a b h)

-- hex digits below ten, and from ten on
pub digit_low : (n : ℕ) → n < 10 → 48 + n ≡ hex_digit n
digit_low n h = let o : n ≤ 9 = omega arith in rw (le-leb n 9 o)

pub digit-high : (n : ℕ) → 10 ≤ n → 97 + (n - 10) ≡ hex_digit n
digit-high n h = let o : 9 < n = omega arith in rw (lt-leb n 9 o)

-- the percent sign is not plain; another byte is where it is from 33 to 126
pub percent-other : (b : ℕ) → b ≡ 37 → false ≡ plain b
unfolding plain
percent-other b e = rw (eq-eqb b 37 e)

pub visible_plain : (b : ℕ) (r : Bool) → (b ≡ 37 → ⊥) → r ≡ within 33 126 b → r ≡ plain b
unfolding plain
visible_plain b r ne e = e ∙ rw (ne_eqb b 37 ne)

-- a byte in front: itself, or the percent sign and two digits
pub shown-itself : (x : ℕ) (xs : List ℕ) → plain x ≡ true → shown (x ∷ xs) ≡ x ∷ shown xs
unfolding shown
shown-itself x xs e = rw (shown, e)

pub shown-coded : (x : ℕ) (xs : List ℕ) → plain x ≡ false → shown (x ∷ xs) ≡ 37 ∷ hex_digit (x / 16) ∷ hex_digit (x % 16) ∷ shown xs
unfolding shown
shown-coded x xs e = rw (shown, e)

pub shown-none : shown [] ≡ []
unfolding shown
shown-none = refl

module _ (b : ℕ) (r : Bool) (e : r ≡ plain b) where
  pub shown-plain : r ≡ true → (old new : List ℕ) (at n : ℕ) → Filled old at (b ∷ []) new n → Filled old at (shown (b ∷ [])) new n
  shown-plain t old new at n w = rw (shown-itself b [] (sym e ∙ t), shown-none) w

  pub shown-other : r ≡ false → (o₀ o₁ o₂ o₃ : List ℕ) (at n m k x y : ℕ) → Filled o₀ at (37 ∷ []) o₁ n → x ≡ hex_digit (b / 16)
      → Filled o₁ n (x ∷ []) o₂ m → y ≡ hex_digit (b % 16) → Filled o₂ m (y ∷ []) o₃ k → Filled o₀ at (shown (b ∷ [])) o₃ k
  shown-other f o₀ o₁ o₂ o₃ at n m k x y u p v q w =
      rw (shown-coded b [] (sym e ∙ f), shown-none, ← p, ← q) (filled-then u (filled-then v w))

shown-cons : (x : ℕ) (xs : List ℕ) → shown (x ∷ xs) ≡ shown (x ∷ []) ++ shown xs
shown-cons x xs = go (plain x) refl
  where
    go : (b : Bool) → plain x ≡ b → shown (x ∷ xs) ≡ shown (x ∷ []) ++ shown xs
    go true e = rw (shown-itself x xs e, shown-itself x [] e, shown-none)
    go false e = rw (shown-coded x xs e, shown-coded x [] e, shown-none)

module _ (s old out : List ℕ) (i n : ℕ) (f : Filling old (shown s) out n (shown (drop i s))) where
  pub show-more : i < length s → (out' : List ℕ) (m : ℕ) → Filled out n (shown (get_or s i 0 ∷ [])) out' m → Filling old (shown s) out' m (shown (drop (i + 1) s))
  show-more h out' m w = filling_step f (rw (drop-cons s i 0 h, add-one) (shown-cons (get_or s i 0) (drop (suc i) s))) w

  pub show-end : length s ≤ i → Filled old 0 (shown s) out n
  show-end h = filling-done f (rw (drop_of_length-le s h) shown-none)

-- ==== digits

module _ (s old out : List ℕ) (i n : ℕ) (f : Filling old (digits s) out n (digits (drop i s))) where
  pub digits-end : length s ≤ i → Filled old 0 (digits s) out n
  unfolding digits
  digits-end h = filling-done f (rw (drop_of_length-le s h))

  module _ (h : i < length s) (r : Bool) (e : r ≡ within 48 57 (get_or s i 0)) where
    pub digits-off : r ≡ false → Filled old 0 (digits s) out n
    unfolding digits
    digits-off q = filling-done f (rw (drop-cons s i 0 h, digits, ← e, q))

    pub digits_more : r ≡ true → (d : ℕ) → d ≡ get_or s i 0 - 48 → (out' : List ℕ) (m : ℕ) → Filled out n (d ∷ []) out' m
        → Filling old (digits s) out' m (digits (drop (i + 1) s))
    unfolding digits
    digits_more q d p out' m w = filling_step f (rw (drop-cons s i 0 h, digits, ← e, q, p, add-one)) w
