-- Lines at a place of a block, by the tests that the code makes in turn.
use Prim.Native.Char.{code}
use Prim.Native.Nat.{ℕ, ◌+◌, ◌-◌, ◌<◌, ◌^◌}
use native.Mathlib.Omega.{arith}
use mathlib.Core.Path.{◌≡◌, refl, sym, ◌∙◌}
use mathlib.Core.Bool.{Bool, true, false, cond}
use mathlib.Core.List.{List}
use lib.Dec.{eqb}
use lib.ListN.{length, get_or, drop}
use mir.Syntax.{w64}
use mir.Val as machine
use Rattle.base_readers.specs.Readers.{many}
use Rattle.base_readers.specs.Places.{Reaches}
use Rattle.base_readers.proofs.Readers.{there-at}
use Rattle.base_readers.proofs.Loops.{many-on, many-off, turn-less}
use Rattle.lexis_rules.specs.declared.Class.TheVariants.{Blank}
use Rattle.lexis_rules.specs.Bytes.{in_class}
use Rattle.block_rules.specs.Fields.{line_text, line, folded}
use Rattle.base_readers.proofs.Places.{behind, behind-first}
use Rattle.block_laws.proofs.Lines.{folded_fits}

-- ==== lines

-- CR and LF after the text of a line
module _ (s : List ℕ) (at e : ℕ) (q : e ≡ at + line_text (drop at s)) (r : Bool) (h : r ≡ eqb (get_or (drop e s) 0 0) (code "\r")) where
  pub line-not : r ≡ false → at ≡ at + line (drop at s)
  unfolding line
  line-not z =
      let a : eqb (get_or (drop at s) (line_text (drop at s)) 0) (code "\r") ≡ false = rw (← behind-first s at (line_text (drop at s)) e q) (sym h ∙ z) in
      rw (line, a) (omega arith)

  module _ (t : r ≡ true) (r' : Bool) (h' : r' ≡ eqb (get_or (drop e s) 1 0) (code "\n")) where
    line-cond : line (drop at s) ≡ cond r' (line_text (drop at s) + 2) 0
    unfolding line
    line-cond =
        let a : eqb (get_or (drop at s) (line_text (drop at s)) 0) (code "\r") ≡ true = rw (← behind-first s at (line_text (drop at s)) e q) (sym h ∙ t) in
        rw (line, a, ← behind s at (line_text (drop at s)) 1 e q, ← h')

    pub line-cut : r' ≡ false → at ≡ at + line (drop at s)
    line-cut z = rw (line-cond, z) (omega arith)

    pub line-whole : r' ≡ true → e + 2 ≡ at + line (drop at s)
    line-whole z = rw (line-cond, z) (omega arith)

pub line-room : (s : List ℕ) (e : ℕ) (r : Bool) → r ≡ eqb (get_or (drop e s) 1 0) (code "\n") → r ≡ true → length s < 2 ^ 64 → machine.Fits w64 (e + 2)
line-room s e r h z l = omega (arith, there-at (λ x. eqb x (code "\n")) refl s e 1 (sym h ∙ z))

-- a further line
module _ (s : List ℕ) (at : ℕ) (r : Bool) (h : r ≡ in_class Blank (get_or (drop at s) 0 0)) where
  pub folded-not : r ≡ false → at ≡ at + folded (drop at s)
  unfolding folded
  folded-not z = rw (folded, ← h, z) (omega arith)

  pub folded-is : r ≡ true → (e : ℕ) → e ≡ at + line (drop at s) → e ≡ at + folded (drop at s)
  unfolding folded
  folded-is z e q = rw (folded, ← h, z) q

module _ (s : List ℕ) (at i : ℕ) (w : Reaches (many folded 0) s at i) (e : ℕ) (q : e ≡ i + folded (drop i s)) where
  pub folds-on : (e ≡ i → ⊥) → Reaches (many folded 0) s at e
  folds-on ne = rw q (many-on folded folded_fits s at i (folded (drop i s)) refl w)

  pub folds-off : e ≡ i → i ≡ at + many folded 0 (drop at s)
  folds-off z = many-off folded folded_fits s at i (folded (drop i s)) refl w (omega arith)

  pub folds-less : (e ≡ i → ⊥) → length s - e < length s - i
  folds-less ne = rw q (turn-less folded folded_fits s at i (folded (drop i s)) refl (λ z. ne (omega arith)))
