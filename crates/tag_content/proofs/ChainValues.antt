-- White space around a chain value, and its words.
use Prim.Native.Nat.{ℕ, zero, suc, ◌+◌, ◌-◌, ◌≤◌, ◌<◌, ◌^◌, zero-le, suc-le-suc}
use native.Mathlib.Omega.{arith}
use mathlib.Core.Path.{◌≡◌, refl, sym, ap, ◌∙◌}
use mathlib.Core.Bool.{Bool, true, false, cond}
use mathlib.Core.List.{List, [], ◌∷◌, ◌++◌}
use lib.Dec.{eqb}
use lib.ListN.{length, drop, length-drop}
use lib.Seq.{take-length}
use mir.Syntax.{w64}
use mir.Val as machine
use borrow.Author.Tests.{ne_eqb}
use Rattle.base_sequences.proofs.Booleans.{or-none}
use Rattle.base_readers.specs.Texts.{bytes, one_of}
use Rattle.base_readers.specs.Readers.{run}
use Rattle.base_readers.proofs.Readers.{run_fits}
use Rattle.lexis_rules.specs.Bytes.{alike}
use Rattle.tag_rules.specs.Tags.{white, solid, trimmed}
use Rattle.tag_rules.specs.Needed.{chain_value}
use Rattle.base_sequences.specs.Spans.{span}

-- ==== space around a value

module _ (b : ℕ) where
  pub white-space : b ≡ 32 → true ≡ white b
  unfolding white one_of
  white-space e = rw e

  pub white-tab : b ≡ 9 → true ≡ white b
  unfolding white one_of
  white-tab e = rw e

  pub white-return : b ≡ 13 → true ≡ white b
  unfolding white one_of
  white-return e = rw e

  pub white-feed : (b ≡ 32 → ⊥) → (b ≡ 9 → ⊥) → (b ≡ 13 → ⊥) → eqb b 10 ≡ white b
  unfolding white one_of
  white-feed n m k = rw (ne_eqb b 32 n, ne_eqb b 9 m, ne_eqb b 13 k) (sym (or-none (eqb b 10)))

-- a last byte that is space counts for nothing; any other is the last that counts
solid-white : (xs : List ℕ) (x : ℕ) → white x ≡ true → solid (xs ++ (x ∷ [])) ≡ solid xs
unfolding solid
solid-white [] x e = rw e
solid-white (y ∷ ys) x e = let ih = solid-white ys x e in rw (solid, ih)

solid-other : (xs : List ℕ) (x : ℕ) → white x ≡ false → solid (xs ++ (x ∷ [])) ≡ suc (length xs)
unfolding solid
solid-other [] x e = rw e
solid-other (y ∷ ys) x e = let ih = solid-other ys x e in rw (solid, ih)

pub solid-fits : (xs : List ℕ) → solid xs ≤ length xs
unfolding solid
solid-fits [] = zero-le
solid-fits (x ∷ xs) = go (solid xs) refl (white x) (solid-fits xs)
  where
    last : (t : Bool) → cond t 0 1 ≤ suc (length xs)
    last true = zero-le
    last false = suc-le-suc zero-le

    go : (n : ℕ) → solid xs ≡ n → (t : Bool) → solid xs ≤ length xs → solid (x ∷ xs) ≤ suc (length xs)
    go zero e t ih = rw (solid, e) (last (white x))
    go (suc n) e t ih = rw (solid, e) (omega arith)

-- the loop that passes the space at the end
module _ (v rest front : List ℕ) (last : ℕ) (q : (rest ≡ front ++ (last ∷ [])) × (length front + 1 ≡ length rest)) (w : solid rest ≡ solid v) (r : Bool) (e : r ≡ white last) where
  pub solid-on : r ≡ true → solid front ≡ solid v
  solid-on t = sym (solid-white front last (sym e ∙ t)) ∙ (sym (ap solid q.0) ∙ w)

  pub solid-off : r ≡ false → length rest ≡ solid v
  solid-off t = let n : length rest ≡ suc (length front) = omega arith in n ∙ (sym (solid-other front last (sym e ∙ t)) ∙ (sym (ap solid q.0) ∙ w))

pub solid-out : (v rest : List ℕ) → length rest ≡ 0 → solid rest ≡ solid v → 0 ≡ solid v
unfolding solid
solid-out v [] h w = w
solid-out v (x ∷ rest) h w = absurd (omega arith)

-- ==== the chain value

module _ (v : List ℕ) (w : ℕ) (q : w ≡ run white v) where
  pub white-inside : w ≤ length v
  white-inside = rw q (run_fits white v)

  module _ (e : ℕ) (p : e ≡ solid (span v w (length v))) where
    rest : e ≡ solid (drop w v)
    rest = rw (← length-drop w v, take-length (drop w v)) at p

    pub solid-inside : w + e ≤ length v
    solid-inside = omega (arith, white-inside, solid-fits (drop w v), length-drop w v, rest)

    pub solid-machine : length v < 2 ^ 64 → machine.Fits w64 (w + e)
    solid-machine l = omega (arith, solid-inside)

    pub trimmed-is : (r : ℕ) → r ≡ chain_value (span v w (w + e)) → r ≡ chain_value (trimmed v)
    unfolding trimmed
    trimmed-is r h = let d : w + e - w ≡ solid (drop w v) = omega (arith, rest) in h ∙ ap chain_value (rw (d, q))

module _ (t : List ℕ) (r : Bool) (e : r ≡ alike t (bytes "none")) where
  pub chain-none : r ≡ true → 1 ≡ chain_value t
  unfolding chain_value
  chain-none u = rw (← e, u)

  module _ (f : r ≡ false) (r' : Bool) (e' : r' ≡ alike t (bytes "pass")) where
    pub chain-pass : r' ≡ true → 2 ≡ chain_value t
    unfolding chain_value
    chain-pass u = rw (← e, f, ← e', u)

    module _ (f' : r' ≡ false) (r'' : Bool) (e'' : r'' ≡ alike t (bytes "fail")) where
      pub chain-fail : r'' ≡ true → 3 ≡ chain_value t
      unfolding chain_value
      chain-fail u = rw (← e, f, ← e', f', ← e'', u)

      pub chain-other : r'' ≡ false → 0 ≡ chain_value t
      unfolding chain_value
      chain-other u = rw (← e, f, ← e', f', ← e'', u)
