-- The parts of a line, stored one after another, are the line stored. The premises are literally what a need is handed.
use Prim.Native.Nat.{ℕ, ◌<◌, ◌^◌}
use native.Mathlib.Omega.{arith}
use mathlib.Core.Path.{◌≡◌}
use mathlib.Core.List.{List}
use lib.ListN.{length}
use Rattle.base_sequences.specs.Stored.{Clipped}
use Rattle.base_sequences.proofs.Clips.{clipped-then, clipped-long}
use Rattle.base_readers.specs.Texts.{bytes}
use Rattle.text_decimals_rules.specs.Decimals.{decimal}
use Rattle.command_rules.specs.declared.Ending.{Ending}
use Rattle.command_rules.specs.Messages.{meaning, lines_meaning, opening, closing, refusal_line, lines_refusal, verdicts_line, ending_line}

-- ==== the line

module _ (old : List ℕ) (l : length old < 2 ^ 64) (to : ℕ) (o : List ℕ) (i : ℕ) where
  pub opening-put : (n : ℕ) → Clipped old to (bytes "orbendash: ") o i → (p : List ℕ) (j : ℕ) → Clipped o i (decimal n) p j
      → (new : List ℕ) (r : ℕ) → Clipped p j (bytes ": ") new r → Clipped old to (opening n) new r
  opening-put n u p j v new r w = clipped-then (omega arith) u (clipped-then (omega (arith, clipped-long u)) v w)

  pub closing-put : (place : ℕ) → Clipped old to (decimal place) o i → (new : List ℕ) (r : ℕ) → Clipped o i (bytes "\n") new r → Clipped old to (closing place) new r
  closing-put place u new r v = clipped-then (omega arith) u v

  pub verdicts-put : (sets : ℕ) → Clipped old to (bytes "orbendash: 10: bad verdicts: a chain that is built needs one digit from 0 to 3 for each set, of which this one has ") o i
      → (new : List ℕ) (r : ℕ) → Clipped o i (closing sets) new r → Clipped old to (verdicts_line sets) new r
  verdicts-put sets u new r v = clipped-then (omega arith) u v

  module _ (n : ℕ) (u : Clipped old to (opening n) o i) (p : List ℕ) (j : ℕ) where
    pub lines-put : (place : ℕ) → Clipped o i (lines_meaning n) p j → (new : List ℕ) (r : ℕ) → Clipped p j (closing place) new r → Clipped old to (lines_refusal n place) new r
    lines-put place v new r w = clipped-then (omega arith) u (clipped-then (omega (arith, clipped-long u)) v w)

    pub refusal-put : (place : ℕ) (list : List ℕ) → Clipped o i (meaning n place list) p j → (q : List ℕ) (k : ℕ) → Clipped p j (bytes ", at ") q k
        → (new : List ℕ) (r : ℕ) → Clipped q k (closing place) new r → Clipped old to (refusal_line n place list) new r
    refusal-put place list v q k x new r w =
        clipped-then (omega arith) u (clipped-then (omega (arith, clipped-long u)) v (clipped-then (omega (arith, clipped-long u, clipped-long v)) x w))

-- ==== the line of an ending

-- that of a refusal, by the ending that it is
pub ending-put : (e f : Ending) → e ≡ f → (list old : List ℕ) (to : ℕ) (new : List ℕ) (r : ℕ) → Clipped old to (ending_line f list) new r → Clipped old to (ending_line e list) new r
ending-put e f q list old to new r w = rw q w
