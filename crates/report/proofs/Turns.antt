-- One result with the space and the ";" before it: what `report_results` reads and writes behind the separator is the result there.
use Prim.Native.Nat.{ℕ, ◌+◌, ◌<◌, ◌^◌, min}
use native.Mathlib.Omega.{arith}
use mathlib.Core.Path.{◌≡◌, refl, sym, ◌∙◌, subst}
use mathlib.Core.Bool.{Bool, true, false}
use mathlib.Core.List.{List}
use lib.ListN.{length, drop}
use lib.Seq.{sets, drop-drop}
use Rattle.base_sequences.specs.Stored.{cap}
use Rattle.base_readers.specs.Parsers.{Got, nothing, got, byte}
use Rattle.base_readers.specs.Places.{from}
use Rattle.base_readers.proofs.Sequencing.{byte-is, byte-not}
use Rattle.base_readers.proofs.Places.{at-got, at_none, goes_on, stops, skipping-at}
use Rattle.lexis_rules.specs.Pieces.{space}
use Rattle.lexis_rules.specs.Words.{skip}
use Rattle.result_rules.specs.Results.{Result, next, bare_result, result}
use Rattle.result_rules.specs.Table.{understood}
use Rattle.result_separators.specs.Separators.{spaced, separated, separated_from}
use Rattle.result_separators.proofs.Separators.{separated-yes, separated-no, separator-found}
use Rattle.report_rules.specs.Body.{resinfo}
use Rattle.report_rules.specs.Report.{result_lines}
use Rattle.report_results.specs.declared.Turn.{Turn}
use Rattle.std.specs.Prelude.{Option, Some, None}
use Rattle.report_results.specs.Turns.{turn_at, lines_at}
use Rattle.report.specs.Internal.{turn_lines, TurnPut}

module _ (s : List ℕ) (i : ℕ) where
  -- ";" does not come next behind the space
  lacks-separator : next 59 (drop (spaced s i) s) ≡ false → (separated 59 (drop i s) ≡ 0) × (nothing ≡ from resinfo s i)
  unfolding resinfo result
  lacks-separator t =
      let b = spaced s i in
      let m : separated 59 (drop i s) ≡ 0 = separated-no 59 (drop i s) (rw (drop-drop (space (drop i s)) i s) t) in
      (m, goes_on skip _ s i tt b nothing (skipping-at space s i b refl) (stops (byte 59) _ s b (at_none (byte 59) s b (byte-not 59 (drop b s) t))))

  -- it does: how far the separator reaches, and the result from there on
  separator-size : next 59 (drop (spaced s i) s) ≡ true → i + separated 59 (drop i s) ≡ spaced s (spaced s i + 1)
  separator-size t =
      let n = space (drop i s) in
      let y = separated-yes 59 (drop i s) (rw (drop-drop n i s) t) in
      let j : i + (n + 1) ≡ spaced s i + 1 = omega arith in
      let d : space (drop (n + 1) (drop i s)) ≡ space (drop (spaced s i + 1) s) = rw (drop-drop (n + 1) i s, j) in
      omega (arith, y, d)

  separators : next 59 (drop (spaced s i) s) ≡ true → (a : ℕ) → a ≡ i + separated 59 (drop i s) → (x : Got Result) → x ≡ from bare_result s a
      → x ≡ from resinfo s i
  unfolding resinfo result
  separators t a q x h =
      let b = spaced s i in
      goes_on skip _ s i tt b x (skipping-at space s i b refl)
      (goes_on (byte 59) _ s b tt (b + 1) x (at-got (byte 59) s b tt 1 (b + 1) (byte-is 59 (drop b s) t) refl)
      (goes_on skip _ s (b + 1) tt a x (skipping-at space s (b + 1) a (q ∙ separator-size t)) h))

-- the separator that was looked for at the place x, where the space behind the place i ends
module _ (s : List ℕ) (i x : ℕ) (y : x ≡ spaced s i) (a : ℕ) (z : a ≡ separated_from 59 s i x) where
  q : a ≡ i + separated 59 (drop i s)
  q = separator-found s i x 59 y a z

  -- where there is no separator there is no result
  pub no-separator : a ≡ i → nothing ≡ from resinfo s i
  no-separator n = go (next 59 (drop (spaced s i) s)) refl
    where
      go : (t : Bool) → next 59 (drop (spaced s i) s) ≡ t → nothing ≡ from resinfo s i
      go true t = absurd (omega (arith, q, n, separator-size s i t))
      go false t = (lacks-separator s i t).1

  at-separator : (a ≡ i → ⊥) → (x : Got Result) → x ≡ from bare_result s a → x ≡ from resinfo s i
  at-separator ne x h = go (next 59 (drop (spaced s i) s)) refl
    where
      go : (t : Bool) → next 59 (drop (spaced s i) s) ≡ t → x ≡ from resinfo s i
      go true t = separators s i t a q x h
      go false t = absurd (ne (omega (arith, q, (lacks-separator s i t).0)))

  -- a separator, and what stands behind it
  pub turn-put : (a ≡ i → ⊥) → (to : ℕ) → to + length (turn_lines s i) < 2 ^ 64 → (old new : List ℕ) (t : Option Turn) → t ≡ turn_at s a to → new ≡ sets old to (lines_at s a)
      → TurnPut s i old to new t
  unfolding turn_lines turn_at lines_at
  turn-put ne to l old new t h w = go (from bare_result s a) refl
    where
      go : (x : Got Result) → from bare_result s a ≡ x → TurnPut s i old to new t
      go nothing e =
          let k : t ≡ None = h ∙ rw (turn_at, e) in
          let z : sets old to (lines_at s a) ≡ old = rw (lines_at, e) in
          subst (TurnPut s i old to new) (sym k) (at-separator ne nothing (sym e), w ∙ z)
      go (got r n) e =
          let f = at-separator ne (got r n) (sym e) in
          let j : to + length (result_lines r) < 2 ^ 64 = rw (turn_lines, ← f) at l in
          let k : t ≡ Some (record { end = n; gap = spaced s n; next = min (to + length (result_lines r)) cap; understood = understood r }) = h ∙ rw (turn_at, e) in
          let z : sets old to (lines_at s a) ≡ sets old to (result_lines r) = rw (lines_at, e) in
          subst (TurnPut s i old to new) (sym k) (record { result = r; reads = f; gap = refl; known = refl; wrote = record { place = omega (arith, j); bytes = w ∙ z } })
