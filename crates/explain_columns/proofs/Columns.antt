-- The columns of a line as the code finds them, and their texts stored. The premises are literally what a need is handed.
use Prim.Native.Nat.{ℕ, suc, ◌+◌, ◌-◌, ◌≤◌, ◌<◌, ◌^◌}
use native.Mathlib.Numerals.{add-one}
use native.Mathlib.Omega.{arith}
use mathlib.Core.Path.{◌≡◌, sym, ap, ◌∙◌}
use mathlib.Core.List.{List, [], ◌++◌}
use lib.ListN.{length, take, drop, length-drop, drop_of_length-le}
use lib.Seq.{length-take-le, take_all}
use Rattle.base_sequences.specs.Stored.{Clipped}
use Rattle.base_sequences.proofs.Clips.{clipped-then}
use Rattle.base_readers.specs.Readers.{run}
use Rattle.base_readers.proofs.Readers.{run_fits}
use Rattle.explain_rules.specs.Explained.{in_column, column, behind, shown, text}
use Rattle.explain_columns.specs.Until.{except}

-- ==== the first column ends at e

module _ (l : List ℕ) (e : ℕ) (q : e ≡ 0 + run (except 9) (drop 0 l)) where
  is-end : e ≡ run in_column l
  is-end = omega arith

  pub column-long : e ≡ length (take e l)
  column-long = sym (length-take-le e l (omega (arith, run_fits in_column l, is-end)))

  pub column-is : take e l ≡ column l
  column-is = ap (λ (n : ℕ). take n l) is-end

  pub behind-is : take (length l - (e + 1)) (drop (e + 1) l) ≡ behind l
  behind-is = take_all (length l - (e + 1)) (drop (e + 1) l) (omega (arith, length-drop (e + 1) l)) ∙ rw (add-one e, is-end)

  pub behind-none : length l ≤ e → [] ≡ behind l
  behind-none h = let z : length l ≤ suc (run in_column l) = omega (arith, is-end) in sym (drop_of_length-le l z)

-- ==== a label and a column

pub labelled-put : (old label l : List ℕ) (to : ℕ) → length old < 2 ^ 64 → (o : List ℕ) (a : ℕ) → Clipped old to label o a → (w : List ℕ) → w ≡ column l
    → (new : List ℕ) (r : ℕ) → Clipped o a (shown w) new r → Clipped old to (label ++ text l) new r
labelled-put old label l to h o a p w e new r q = clipped-then (omega arith) p (rw e at q)
