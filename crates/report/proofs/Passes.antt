-- The loop over results: each is written at the same place as long as those before it are ignored, and what an ignored one leaves is
-- written over or lies past the end of the whole text, of which nothing is promised.
use Prim.Native.Nat.{ℕ, ◌+◌, ◌*◌, ◌≤◌, ◌<◌, ◌^◌}
use native.Mathlib.Nat.{zero-add}
use native.Mathlib.Omega.{arith}
use mathlib.Core.Path.{◌≡◌, refl, sym, ap, ◌∙◌}
use mathlib.Core.Bool.{true, false}
use mathlib.Core.List.{List, ◌∷◌, ◌++◌}
use lib.ListN.{length, drop}
use Rattle.base_readers.specs.Parsers.{Got, nothing, got}
use Rattle.base_readers.specs.Places.{from, list_at, end_at}
use Rattle.base_readers.proofs.Places.{took}
use Rattle.base_readers.proofs.Repeats.{list-none, end_none, further, list-more, end_more}
use Rattle.lexis_rules.specs.Limits.{byte_limit}
use Rattle.result_rules.specs.Results.{Result}
use Rattle.result_rules.specs.Table.{understood}
use Rattle.result_separators.specs.Separators.{spaced}
use Rattle.report_rules.specs.Body.{resinfo}
use Rattle.report_rules.specs.Report.{result_lines, lines, ignored_of}
use Rattle.report_laws.proofs.Sequence.{resinfo-within}
use Rattle.report_results.specs.declared.Turn.{Turn}
use Rattle.std.specs.Prelude.{Some, None}
use Rattle.report.specs.Internal.{turn_lines, TurnPut, ResultsPut}
use Rattle.report_laws.proofs.Sizes.{resinfo-size}
use Rattle.report.proofs.Fronts.{Fronting, fronting-start, fronting-step, fronting-over, fronting-end, fronting-done}

-- ==== one result more

module _ (r : Result) (rs : List Result) where
  lines-shown : understood r ≡ true → lines (r ∷ rs) ≡ result_lines r ++ lines rs
  unfolding lines
  lines-shown u = rw (lines, u)

  lines-ignored : understood r ≡ false → lines (r ∷ rs) ≡ lines rs
  unfolding lines
  lines-ignored u = rw (lines, u)

  ignored-not : understood r ≡ true → ignored_of (r ∷ rs) ≡ ignored_of rs
  unfolding ignored_of
  ignored-not u = rw (ignored_of, u) (zero-add _)

  ignored-one : understood r ≡ false → ignored_of (r ∷ rs) ≡ 1 + ignored_of rs
  unfolding ignored_of
  ignored-one u = rw (ignored_of, u)

-- ==== the loop

-- the loop over the results behind a place stands at i, behind which the space ends at g: what is left to read, to write and to count
-- ends as the whole would have
pub record Passing (s : List ℕ) (at : ℕ) (old : List ℕ) (to : ℕ) (out : List ℕ) (i g n ignored : ℕ) : Type 0 where
  pub gap : g ≡ spaced s i
  pub left : Fronting old to (lines (list_at resinfo s at)) out n (lines (list_at resinfo s i))
  pub end : end_at resinfo s i ≡ end_at resinfo s at
  pub count : ignored + ignored_of (list_at resinfo s i) ≡ ignored_of (list_at resinfo s at)
  pub few : ignored + at ≤ i

pub passing-start : (s : List ℕ) (at : ℕ) (old : List ℕ) (to g : ℕ) → g ≡ spaced s at → Passing s at old to old at g to 0
passing-start s at old to g y = record { gap = y; left = fronting-start _ _ _; end = refl; count = zero-add _; few = omega arith }

-- the lines of a result, understood or not, are at most three times as long as it
turn-short : (s : List ℕ) (i : ℕ) → length s ≤ byte_limit → length (turn_lines s i) ≤ 3 * byte_limit
unfolding turn_lines
turn-short s i l = go (from resinfo s i) refl
  where
    go : (g : Got Result) → from resinfo s i ≡ g → length (turn_lines s i) ≤ 3 * byte_limit
    go nothing e = rw (turn_lines, e) (omega arith)
    go (got r n) e =
        let t = took resinfo s i r n (sym e) in
        let m = further resinfo s i resinfo-within r n (sym e) in
        let z = resinfo-size (drop i s) r t.size t.is in
        rw (turn_lines, e) (omega (arith, l, m, z, t.sum))

module _ (s : List ℕ) (at : ℕ) (old : List ℕ) (to : ℕ) (out : List ℕ) (i g n ignored : ℕ) (w : Passing s at old to out i g n ignored) where
  -- there is room for the lines of the next result, understood or not
  pub passing-room : length s ≤ byte_limit → to + length (lines (list_at resinfo s at)) < 2 ^ 63
      → (g ≡ spaced s i) × (n + length (turn_lines s i) < 2 ^ 64)
  passing-room l h = (w.gap, omega (arith, turn-short s i l, h, w.left.place))

  module _ (new : List ℕ) where
    module _ (t : Turn) (read : TurnPut s i out n new (Some t)) where
      more : list_at resinfo s i ≡ read.result ∷ list_at resinfo s t.end
      more = list-more resinfo s i resinfo-within read.result t.end read.reads

      same_end : end_at resinfo s t.end ≡ end_at resinfo s at
      same_end = sym (end_more resinfo s i resinfo-within read.result t.end read.reads) ∙ w.end

      pub passing-further : (i < t.end) × (t.end ≤ length s)
      passing-further = further resinfo s i resinfo-within read.result t.end read.reads

      -- it is understood: its lines stay
      pub passing-shown : t.understood ≡ true → Passing s at old to new t.end t.gap t.next ignored
      passing-shown z =
          let rs = list_at resinfo s t.end in
          let k : understood read.result ≡ true = sym read.known ∙ z in
          let c = rw (more, ignored-not read.result rs k) at w.count in
          record {
            gap = read.gap;
            left = fronting-step w.left (ap lines more ∙ lines-shown read.result rs k) read.wrote;
            end = same_end;
            count = c;
            few = omega (arith, passing-further, w.few);
          }

      -- it is not: the next lines are written over its own
      pub passing-ignored : t.understood ≡ false → Passing s at old to new t.end t.gap n (ignored + 1)
      passing-ignored z =
          let rs = list_at resinfo s t.end in
          let k : understood read.result ≡ false = sym read.known ∙ z in
          let c = rw (more, ignored-one read.result rs k) at w.count in
          let l = fronting-over w.left read.wrote in
          record {
            gap = read.gap;
            left = rw (more, lines-ignored read.result rs k) at l;
            end = same_end;
            count = omega (arith, c);
            few = omega (arith, passing-further, w.few);
          }

    -- no result comes next
    module _ (none : TurnPut s i out n new None) where
      pub passed : ResultsPut s at old to new (record { end = i; gap = g; next = n; ignored = ignored })
      unfolding lines ignored_of
      passed =
          let h = none.0 in
          let l = list-none resinfo s i h in
          let c = rw l at w.count in
          record {
            end = sym (end_none resinfo s i h) ∙ w.end;
            gap = w.gap;
            ignored = omega (arith, c);
            next = fronting-end w.left (rw l);
            bytes = rw none.1 (fronting-done w.left (rw l));
          }

      pub passed-long : length new ≡ length old
      passed-long = ap length none.1 ∙ w.left.long
