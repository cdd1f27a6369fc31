-- The words and the columns of a field's line: stored one after another they are the line stored.
use Prim.Native.Nat.{ℕ, ◌<◌, ◌^◌}
use native.Mathlib.Omega.{arith}
use mathlib.Core.Path.{◌≡◌}
use mathlib.Core.List.{List, [], ◌∷◌}
use lib.ListN.{length}
use Rattle.base_sequences.specs.Stored.{Clipped}
use Rattle.base_sequences.proofs.Clips.{clipped-long, clipped-then}
use Rattle.base_readers.specs.Texts.{bytes}
use Rattle.ownlist_rules.specs.declared.Own.{Own}
use Rattle.ownlist_rules.specs.declared.Own.TheVariants.{Ours, Others, Unreadable}
use Rattle.report_rules.specs.Report.{line}
use Rattle.text_decimals_rules.specs.Decimals.{decimal}
use Rattle.blockreport_rules.specs.FieldLines.{word_of, field_line}

-- ==== a tab and a number

pub number_put : {o₀ o₁ o₂ : List ℕ} {to a b : ℕ} (n : ℕ) → length o₀ < 2 ^ 64 → Clipped o₀ to (9 ∷ []) o₁ a → Clipped o₁ a (decimal n) o₂ b → Clipped o₀ to (9 ∷ decimal n) o₂ b
number_put n h p q = clipped-then (omega arith) p q

-- ==== a tab and a word

module _ (o : Own) (old : List ℕ) (to : ℕ) (new : List ℕ) (next : ℕ) where
  pub ours-put : o ≡ Ours → Clipped old to (9 ∷ bytes "own") new next → Clipped old to (9 ∷ word_of o) new next
  unfolding word_of
  ours-put e w = rw e w

  pub others_put : o ≡ Others → Clipped old to (9 ∷ bytes "other") new next → Clipped old to (9 ∷ word_of o) new next
  unfolding word_of
  others_put e w = rw e w

  pub unreadable-put : o ≡ Unreadable → Clipped old to (9 ∷ bytes "unreadable") new next → Clipped old to (9 ∷ word_of o) new next
  unfolding word_of
  unreadable-put e w = rw e w

-- ==== the line

pub line-put : {o₀ o₁ o₂ o₃ o₄ o₅ o₆ : List ℕ} {to a b c d e f : ℕ} (n : ℕ) (o : Own) (number ignored : ℕ) → length o₀ < 2 ^ 64 → Clipped o₀ to (bytes "field") o₁ a
    → Clipped o₁ a (9 ∷ decimal n) o₂ b → Clipped o₂ b (9 ∷ word_of o) o₃ c → Clipped o₃ c (9 ∷ decimal number) o₄ d → Clipped o₄ d (9 ∷ decimal ignored) o₅ e
    → Clipped o₅ e (10 ∷ []) o₆ f → Clipped o₀ to (field_line n o number ignored) o₆ f
unfolding field_line line
line-put n o number ignored h p q r s t u =
    let h₁ = clipped-long p in
    let h₂ = clipped-long q in
    let h₃ = clipped-long r in
    let h₄ = clipped-long s in
    clipped-then (omega arith) p
    (clipped-then (omega (arith, h₁)) q
    (clipped-then (omega (arith, h₁, h₂)) r (clipped-then (omega (arith, h₁, h₂, h₃)) s (clipped-then (omega (arith, h₁, h₂, h₃, h₄)) t u))))
