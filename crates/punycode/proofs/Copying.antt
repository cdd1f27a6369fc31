-- The loops that look for the last hyphen and copy the basic code points, and what they tell of a whole label behind its prefix.
use Prim.Native.Nat.{ℕ, zero, suc, ◌+◌, ◌-◌, ◌≤◌, ◌<◌}
use native.Mathlib.Numerals.{add-one}
use native.Mathlib.Omega.{arith}
use mathlib.Core.Path.{◌≡◌, refl, sym, ap, ◌∙◌}
use mathlib.Core.Bool.{Bool, true, false}
use mathlib.Core.List.{List, [], ◌∷◌}
use mathlib.Core.Option.{none, some}
use lib.ListN.{length, get_or, set, take, drop, drop_of_length-le, length-set}
use lib.Seq.{drop-cons, take-suc-set, take-suc, length-take-le}
use borrow.Author.Tests.{eq-eqb, ne_eqb, lt-ltb, le-ltb}
use Rattle.base_sequences.proofs.Booleans.{no_true}
use Rattle.std.specs.Prelude.{Result, Ok, Err}
use Rattle.punycode.specs.declared.decoding.NoPoints.{NoPoints}
use Rattle.punycode.specs.declared.decoding.NoPoints.TheVariants.{Failed, Long}
use Rattle.punycode_rules.specs.Punycode.{start, before_last, basic, consumed}
use Rattle.punycode_rules.specs.Labels.{decoded, spelling_limit}
use Rattle.punycode.specs.Internal.{Opened, Ends, Copied, Tells}
use Rattle.punycode_laws.proofs.Decoding.{counted, kept-some}
use Rattle.punycode_laws.proofs.Basics.{before-inside, basic-scalars, decoded-yes, decoded-no}

-- ==== the last hyphen

pub record Sought (s : List ℕ) (found p : ℕ) : Type 0 where
  pub same : before_last found p (drop p s) ≡ before_last 0 0 s

pub sought-start : (s : List ℕ) → Sought s 0 0
sought-start s = record { same = refl }

module _ (s : List ℕ) (found p : ℕ) (w : Sought s found p) where
  pub sought-end : length s ≤ p → found ≡ before_last 0 0 s
  unfolding before_last
  sought-end h = sym (ap (before_last found p) (drop_of_length-le s h)) ∙ w.same

  module _ (h : p < length s) where
    pub sought-hit : get_or s p 0 ≡ 45 → Sought s p (p + 1)
    unfolding before_last
    sought-hit e =
        record { same = rw add-one (sym (ap (before_last found p) (drop-cons {A = ℕ} s p 0 h) ∙ rw (before_last, eq-eqb (get_or s p 0) 45 e)) ∙ w.same) }

    pub sought-on : (get_or s p 0 ≡ 45 → ⊥) → Sought s found (p + 1)
    unfolding before_last
    sought-on e =
        record { same = rw add-one (sym (ap (before_last found p) (drop-cons {A = ℕ} s p 0 h) ∙ rw (before_last, ne_eqb (get_or s p 0) 45 e)) ∙ w.same) }

-- ==== the basic code points

pub record Copying (s : List ℕ) (b : ℕ) (old out : List ℕ) (j : ℕ) : Type 0 where
  pub same : basic (take (b - j) (drop j s)) ≡ basic (take b s)
  pub points : take j out ≡ take j s
  pub long : length out ≡ length old
  pub low : j ≤ b

pub copying-start : (s : List ℕ) (b : ℕ) (out : List ℕ) → Copying s b out out 0
copying-start s b out = record { same = (let z : b - 0 ≡ b = omega arith in rw z); points = refl; long = refl; low = omega arith }

module _ (s : List ℕ) (b : ℕ) (old out : List ℕ) (j : ℕ) (w : Copying s b old out j) where
  pub copying-end : b ≤ j → Copied s b out true
  unfolding basic
  copying-end h =
      let e : j ≡ b = omega (arith, w.low) in
      let z : b - b ≡ 0 = omega arith in
      record { tells = (rw (e, z) at w.same); points = λ t. rw e at w.points }

  module _ (h : j < b) (l : b ≤ length s) where
    first : take (b - j) (drop j s) ≡ get_or s j 0 ∷ take (b - suc j) (drop (suc j) s)
    first = let e : b - j ≡ suc (b - suc j) = omega arith in rw (e, drop-cons {A = ℕ} s j 0 (omega arith))

    pub copying-not : 128 ≤ get_or s j 0 → Copied s b out false
    unfolding basic
    copying-not g =
        let e : basic (take b s) ≡ false = sym w.same ∙ (ap basic first ∙ rw (le-ltb (get_or s j 0) 128 g)) in
        record { tells = sym e; points = λ t. absurd (no_true t) }

    pub copying-on : get_or s j 0 < 128 → b ≤ length old → (x : ℕ) → x ≡ get_or s j 0 → Copying s b old (set out j x) (j + 1)
    unfolding basic
    copying-on g m x e =
        record {
          same = rw add-one (sym (ap basic first ∙ rw (lt-ltb (get_or s j 0) 128 g)) ∙ w.same);
          points = rw add-one (take-suc-set out j x (omega (arith, w.long)) ∙ (rw (w.points, e) (sym (take-suc s j 0 (omega arith)))));
          long = length-set out j x ∙ w.long;
          low = omega arith;
        }

-- ==== the whole

module _ (s : List ℕ) (b : ℕ) (q : b ≡ before_last 0 0 s) where
  pub basics-long : spelling_limit < b → Tells s [] (Err Long)
  basics-long h =
      (omega (arith, before-inside s), λ u e. go u e (basic (take b s)) refl)
    where
      go : (u : List ℕ) → decoded s ≡ some u → (t : Bool) → basic (take b s) ≡ t → spelling_limit < length u
      go u e true t =
          let l : length (take b s) ≡ b = length-take-le b s (omega (arith, before-inside s)) in
          omega (arith, l, (counted (drop (consumed b) s) (start (take b s))).least u (kept-some _ u (sym (decoded-yes s b q t) ∙ e)))
      go u e false t = absurd (let n : none ≡ some u = sym (decoded-no s b q t) ∙ e in let z : ◌≡◌ {A = ℕ} 0 1 = cc in omega arith)

  module _ (out : List ℕ) (all : Bool) (k : Copied s b out all) where
    pub basics-not : all ≡ false → Tells s [] (Err Failed)
    basics-not f = decoded-no s b q (sym k.tells ∙ f)

    module _ (t : all ≡ true) where
      good : basic (take b s) ≡ true
      good = sym k.tells ∙ t

      pub basics-opened : (at : ℕ) → at ≡ consumed b → length out ≡ spelling_limit → b ≤ spelling_limit → Opened s at out b
      basics-opened at e l m =
          record {
            long = l;
            fits = rw e (low b);
            enough = m;
            place = rw e (high b (before-inside'));
            good = rw (k.points t) (basic-scalars (take b s) good);
          }
        where
          before-inside' : b ≤ length s - 1
          before-inside' = rw q (before-inside s)

          low : (n : ℕ) → n ≤ consumed n
          low zero = omega arith
          low (suc n) = omega arith

          high : (n : ℕ) → n ≤ length s - 1 → consumed n ≤ length s
          high zero l = omega arith
          high (suc n) l = omega arith

      pub basics-then : (at : ℕ) → at ≡ consumed b → (new : List ℕ) (r : Result ℕ NoPoints) → Ends s at (take b out) new r → Tells s new r
      basics-then at e new r g = go r (rw (e, k.points t) at g)
        where
          go : (r : Result ℕ NoPoints) → Ends s (consumed b) (take b s) new r → Tells s new r
          go (Ok n) h = (h.0, decoded-yes s b q good ∙ h.1)
          go (Err Failed) h = decoded-yes s b q good ∙ h
          go (Err Long) h = (h.0, λ u f. h.1 u (sym (decoded-yes s b q good) ∙ f))
