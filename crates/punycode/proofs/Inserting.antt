-- A code point inserted among the first ones of an array: those behind it move on by one place, the last first.
use Prim.Native.Nat.{ℕ, zero, suc, ◌+◌, ◌-◌, ◌≤◌, ◌<◌}
use native.Mathlib.Omega.{arith}
use mathlib.Core.Path.{◌≡◌, refl, sym, ap, ◌∙◌}
use mathlib.Core.List.{List, ◌∷◌, ◌++◌}
use lib.ListN.{length, get_or, set, take, drop, take-append-drop, get_or-append, length-set}
use lib.Seq.{take-suc, drop-cons, append_snoc, set_at, get_or-take, length-take-le, take-take, take-append-add, take-append-le}
use Rattle.base_sequences.proofs.Lists.{drop-take}
use Rattle.punycode_rules.specs.Punycode.{insert}
use Rattle.punycode.specs.Internal.{Inserted}

-- those from j on that have moved, and what stands behind them
abbrev rest : List ℕ → ℕ → ℕ → List ℕ
rest o count j = take (count - j) (drop j o) ++ drop (suc count) o

pub record Moved (o : List ℕ) (count : ℕ) (out : List ℕ) (j : ℕ) : Type 0 where
  pub is : out ≡ take (suc j) o ++ rest o count j
  pub low : j ≤ count
  pub long : length out ≡ length o

pub moved-start : (o : List ℕ) (count : ℕ) → Moved o count o count
moved-start o count =
    let z : count - count ≡ 0 = omega arith in
    record { is = rw z (sym (take-append-drop (suc count) o)); low = omega arith; long = refl }

module _ (o : List ℕ) (count : ℕ) (h : count < length o) where
  rest_more : (i : ℕ) → i < count → rest o count i ≡ get_or o i 0 ∷ rest o count (suc i)
  rest_more i l =
      let e : count - i ≡ suc (count - suc i) = omega arith in
      rw (e, drop-cons {A = ℕ} o i 0 (omega arith))

  step : (out : List ℕ) (i : ℕ) → Moved o count out (suc i) → Moved o count (set out (suc i) (get_or out i 0)) i
  step out i m =
      let p = take (suc i) o in
      let n : length p ≡ suc i = length-take-le (suc i) o (omega (arith, m.low)) in
      let e : out ≡ p ++ (get_or o (suc i) 0 ∷ rest o count (suc i)) =
      m.is ∙ (ap (λ (l : List ℕ). l ++ rest o count (suc i)) (take-suc o (suc i) 0 (omega (arith, m.low))) ∙ append_snoc p (get_or o (suc i) 0) (rest o count (suc i))) in
      let g : get_or out i 0 ≡ get_or o i 0 = ap (λ (l : List ℕ). get_or l i 0) e ∙ (get_or-append p _ 0 i (omega (arith, n)) ∙ get_or-take (suc i) o i 0 (omega arith)) in
      record {
        is = rw g (ap (λ (l : List ℕ). set l (suc i) (get_or o i 0)) e ∙ (set_at p _ _ _ (suc i) n ∙ ap (λ (l : List ℕ). p ++ l) (sym (rest_more i (omega (arith, m.low))))));
        low = omega (arith, m.low);
        long = length-set out (suc i) (get_or out i 0) ∙ m.long;
      }

  pub moved_on : (out : List ℕ) (j at : ℕ) → Moved o count out j → at < j → Moved o count (set out j (get_or out (j - 1) 0)) (j - 1)
  moved_on out (zero) at m l = absurd (omega arith)
  moved_on out (suc i) at m l = let e : suc i - 1 ≡ i = omega arith in rw e (step out i m)

  moved-points : (out : List ℕ) (at x j : ℕ) → Moved o count out j → at ≤ j → j ≤ at → take (count + 1) (set out at x) ≡ insert at x (take count o)
  moved-points out at x j m l₁ l₂ =
      let same : j ≡ at = omega arith in
      let low : at ≤ count = omega (arith, m.low) in
      let p = take at o in
      let n : length p ≡ at = length-take-le at o (omega arith) in
      let e : out ≡ p ++ (get_or o at 0 ∷ rest o count at) =
      (rw same at m.is) ∙ (ap (λ (l : List ℕ). l ++ rest o count at) (take-suc o at 0 (omega arith)) ∙ append_snoc p (get_or o at 0) (rest o count at)) in
      let s : set out at x ≡ p ++ (x ∷ rest o count at) = ap (λ (l : List ℕ). set l at x) e ∙ set_at p _ _ _ at n in
      let k : count + 1 ≡ length p + suc (count - at) = omega (arith, n) in
      let r : length (take (count - at) (drop at o)) ≡ count - at = length-take-le (count - at) (drop at o) (omega (arith, lib.ListN.length-drop at o)) in
      let f : take (count - at) (rest o count at) ≡ take (count - at) (drop at o) = take-append-le (count - at) (take (count - at) (drop at o)) (drop (suc count) o) (omega (arith, r)) ∙ take-take (count - at) (count - at) (drop at o) (omega arith) in
      rw (s, k, take-append-add p (x ∷ rest o count at) (suc (count - at)), f, take-take at count o low, drop-take at count o)

  pub moved-end : (out : List ℕ) (at x j : ℕ) → Moved o count out j → at ≤ j → j ≤ at → Inserted o count at x (set out at x)
  moved-end out at x j m l₁ l₂ = record { points = moved-points out at x j m l₁ l₂; long = length-set out at x ∙ m.long }
