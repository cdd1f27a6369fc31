-- The words of a line, stored: the parts one after another, and each case of a definition. The premises are literally what a need is handed.
use Prim.Native.Nat.{ℕ, ◌<◌, ◌^◌}
use native.Mathlib.Omega.{arith}
use mathlib.Core.Path.{◌≡◌}
use mathlib.Core.List.{List, ◌++◌}
use lib.ListN.{length}
use Rattle.base_sequences.specs.Stored.{Clipped}
use Rattle.base_sequences.proofs.Clips.{clipped-long, clipped-then}
use Rattle.base_readers.specs.Texts.{bytes}
use Rattle.explain_rules.specs.declared.Line.{Line}
use Rattle.explain_rules.specs.Explained.{behind, kind_of_line, text, method_words, property_words, words, line_words}

-- ==== the columns of a result and of a property

module _ (l old : List ℕ) (to : ℕ) (h : length old < 2 ^ 64) (rest : List ℕ) (e : rest ≡ behind l) where
  pub method-put : (o : List ℕ) (a : ℕ) → Clipped old to (bytes "  says " ++ text l) o a → (new : List ℕ) (r : ℕ) → Clipped o a (bytes ": " ++ text rest) new r
      → Clipped old to (method_words l) new r
  unfolding method_words
  method-put o a v new r u = clipped-then (omega arith) v (rw e at u)

  pub property-put : (o₁ : List ℕ) (a : ℕ) → Clipped old to (bytes ", " ++ text l) o₁ a → (o₂ : List ℕ) (b : ℕ) → Clipped o₁ a (bytes "." ++ text rest) o₂ b
      → (letter : List ℕ) → letter ≡ behind rest → (value : List ℕ) → value ≡ behind letter → (new : List ℕ) (r : ℕ) → Clipped o₂ b (bytes ": " ++ text value) new r
      → Clipped old to (property_words l) new r
  unfolding property_words
  property-put o₁ a v o₂ b u letter p value q new r t =
      clipped-then (omega arith) v (clipped-then (omega (arith, clipped-long v)) (rw e at u) (rw (q, p, e) at t))

-- ==== a line

pub line-put : (l : List ℕ) (k : Line) → k ≡ kind_of_line l → (rest : List ℕ) → rest ≡ behind l → (old : List ℕ) (to : ℕ) (new : List ℕ) (r : ℕ)
    → Clipped old to (words k rest) new r → Clipped old to (line_words l) new r
line-put l k e rest q old to new r v = rw (e, q) at v
