-- The digits of a number as the code stores them: one below ten, and else those of its tenth and the last.
use Prim.Native.Nat.{ℕ, ◌+◌, ◌/◌, ◌%◌, ◌≤◌, ◌<◌, ◌^◌}
use native.Mathlib.Omega.{arith}
use mathlib.Core.List.{List, [], ◌∷◌}
use lib.ListN.{length}
use Rattle.base_sequences.specs.Stored.{Clipped}
use Rattle.base_sequences.proofs.Clips.{clipped-then}
use Rattle.text_decimals_rules.specs.Decimals.{decimal}
use Rattle.text_decimals_rules.proofs.Digits.{decimal-one, decimal-more}

module _ (n : ℕ) (old : List ℕ) (to : ℕ) where
  pub digit-put : n < 10 → (new : List ℕ) (r : ℕ) → Clipped old to ((48 + n) ∷ []) new r → Clipped old to (decimal n) new r
  digit-put h new r w = rw (decimal-one n h) w

  pub digits-put : 10 ≤ n → length old < 2 ^ 64 → (between : List ℕ) (at : ℕ) → Clipped old to (decimal (n / 10)) between at
      → (new : List ℕ) (r : ℕ) → Clipped between at ((48 + n % 10) ∷ []) new r → Clipped old to (decimal n) new r
  digits-put h l between at v new r w = rw (decimal-more n h) (clipped-then (omega arith) v w)
