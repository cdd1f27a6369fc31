-- The loop that copies what has no mark: what was written and what is left from here on make the whole.
use Prim.Native.Nat.{ℕ, suc, ◌+◌, ◌≤◌, ◌<◌, ◌^◌}
use native.Mathlib.Numerals.{add-one}
use native.Mathlib.Omega.{arith}
use mathlib.Core.Path.{◌≡◌, refl, sym, ap, ◌∙◌}
use mathlib.Core.Bool.{Bool, true, false}
use mathlib.Core.List.{List, [], ◌∷◌, ◌++◌, append_assoc}
use lib.Dec.{eqb}
use lib.ListN.{length, get_or, drop, drop_of_length-le}
use lib.Seq.{drop-cons, drop-drop}
use Rattle.base_sequences.specs.Stored.{cap, Clipped}
use Rattle.base_sequences.specs.Spans.{span}
use Rattle.base_sequences.proofs.Clips.{clipped-then}
use Rattle.strip_copy.specs.Unmarked.{unmarked}

-- one part more
module _ (s : List ℕ) (from at e : ℕ) (stops marks : List ℕ) where
  unmarked-kept : eqb (get_or marks 0 0) 0 ≡ true → unmarked s from at (e ∷ stops) marks ≡ unmarked s from e stops (drop 1 marks)
  unfolding unmarked
  unmarked-kept g = rw (unmarked, g)

  unmarked-gone : eqb (get_or marks 0 0) 0 ≡ false → unmarked s from at (e ∷ stops) marks ≡ span s from at ++ unmarked s e e stops (drop 1 marks)
  unfolding unmarked
  unmarked-gone g = rw (unmarked, g)

pub record Cutting (s stops marks old out : List ℕ) (start k from at to : ℕ) : Type 0 where
  pub text : List ℕ
  pub wrote : Clipped old start text out to
  pub whole : text ++ unmarked s from at (drop k stops) (drop k marks) ≡ unmarked s 0 0 stops marks

pub cut-start : (s stops marks old : List ℕ) (start : ℕ) → start ≤ cap → Cutting s stops marks old old start 0 0 0 start
cut-start s stops marks old start h = record { text = []; wrote = record { place = omega arith; bytes = refl }; whole = refl }

module _ (s stops marks old out : List ℕ) (start k from at to : ℕ) (w : Cutting s stops marks old out start k from at to) where
  module _ (h : k < length stops) (b : Bool) (q : b ≡ eqb (get_or (drop k marks) 0 0) 0) where
    abbrev stop : ℕ
    stop = get_or stops k 0

    here : drop k stops ≡ stop ∷ drop (suc k) stops
    here = drop-cons stops k 0 h

    behind : drop 1 (drop k marks) ≡ drop (suc k) marks
    behind = drop-drop 1 k marks ∙ rw add-one

    -- a part without a mark joins those before it
    pub cut-kept : b ≡ true → (x : ℕ) → x ≡ stop → Cutting s stops marks old out start (k + 1) from x to
    cut-kept t x y =
        let g : eqb (get_or (drop k marks) 0 0) 0 ≡ true = sym q ∙ t in
        let e : unmarked s from at (drop k stops) (drop k marks) ≡ unmarked s from stop (drop (suc k) stops) (drop (suc k) marks) =
        rw (here, unmarked-kept s from at stop (drop (suc k) stops) (drop k marks) g, behind) in
        record { text = w.text; wrote = w.wrote; whole = rw (add-one, y) (ap (◌++◌ w.text) (sym e) ∙ w.whole) }

    -- before one with a mark those that stand side by side are written
    pub cut-gone : b ≡ false → length old < 2 ^ 64 → (t out' : List ℕ) (n : ℕ) → t ≡ span s from at → Clipped out to t out' n
        → (x : ℕ) → x ≡ stop → Cutting s stops marks old out' start (k + 1) x x n
    cut-gone f l t out' n r v x y =
        let g : eqb (get_or (drop k marks) 0 0) 0 ≡ false = sym q ∙ f in
        let e : unmarked s from at (drop k stops) (drop k marks) ≡ span s from at ++ unmarked s stop stop (drop (suc k) stops) (drop (suc k) marks) =
        rw (here, unmarked-gone s from at stop (drop (suc k) stops) (drop k marks) g, behind) in
        let a : (w.text ++ span s from at) ++ unmarked s stop stop (drop (suc k) stops) (drop (suc k) marks) ≡ unmarked s 0 0 stops marks =
        append_assoc w.text (span s from at) _ ∙ (ap (◌++◌ w.text) (sym e) ∙ w.whole) in
        record { text = w.text ++ span s from at; wrote = clipped-then (omega arith) w.wrote (rw r at v); whole = rw (add-one, y) a }

  -- no part is left
  pub cut-done : length stops ≤ k → length old < 2 ^ 64 → (t out' : List ℕ) (n : ℕ) → t ≡ span s from at → Clipped out to t out' n
      → Clipped old start (unmarked s 0 0 stops marks) out' n
  unfolding unmarked
  cut-done h l t out' n r v =
      let e : unmarked s from at (drop k stops) (drop k marks) ≡ span s from at = rw (drop_of_length-le stops h) in
      rw (← w.whole, e) (clipped-then (omega arith) w.wrote (rw r at v))
