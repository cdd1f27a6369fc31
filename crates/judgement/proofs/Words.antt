-- A judgement, stored: its two lines one after another; and digits turned into verdicts. The premises are literally what a need is handed.
use Prim.Native.Nat.{ℕ, zero, suc, ◌+◌, ◌≤◌, ◌<◌, ◌^◌}
use native.Mathlib.Omega.{arith}
use mathlib.Core.Path.{◌≡◌, refl, ap, ◌∙◌}
use mathlib.Core.List.{List, [], ◌∷◌, map}
use lib.ListN.{length, get_or, set}
use Rattle.base_sequences.specs.Stored.{Clipped}
use Rattle.base_sequences.proofs.Clips.{clipped-long, clipped-then}
use Rattle.arc_rules.specs.declared.Judged.{Judged}
use Rattle.judgement_rules.specs.Judgement.{verdict_of, columns_line, chain_words, judgement}

-- ==== both lines

module _ (j : Judged) {o₀ o₁ o₂ o₃ : List ℕ} {to a b c : ℕ} (h : length o₀ < 2 ^ 64) where
  pub judgement-put : Clipped o₀ to (columns_line j) o₁ a → Clipped o₁ a (chain_words j) o₂ b → Clipped o₂ b (10 ∷ []) o₃ c → Clipped o₀ to (judgement j) o₃ c
  unfolding judgement
  judgement-put p q r = let k = clipped-long p in clipped-then (omega arith) p (clipped-then (omega (arith, k)) q r)

-- ==== verdicts

-- the first i bytes are verdicts, the others still digits
abbrev pub turned_digits : ℕ → List ℕ → List ℕ
turned_digits zero xs = xs
turned_digits (suc i) [] = []
turned_digits (suc i) (x ∷ xs) = verdict_of x ∷ turned_digits i xs

pub turned_more : (i : ℕ) (xs w : List ℕ) (v : ℕ) → w ≡ turned_digits i xs → i < length w → v ≡ verdict_of (get_or w i 0) → set w i v ≡ turned_digits (i + 1) xs
turned_more i xs w v e h q = let n : suc i ≡ i + 1 = omega arith in rw (q, e, ← n) (go i xs (rw e at h))
  where
    go : (i : ℕ) (xs : List ℕ) → i < length (turned_digits i xs) → set (turned_digits i xs) i (verdict_of (get_or (turned_digits i xs) i 0)) ≡ turned_digits (suc i) xs
    go zero [] h = absurd (omega arith)
    go zero (x ∷ xs) h = refl
    go (suc i) [] h = absurd (omega arith)
    go (suc i) (x ∷ xs) h = ap (λ (l : List ℕ). verdict_of x ∷ l) (go i xs (omega arith))

pub turned-all : (i : ℕ) (xs w : List ℕ) → w ≡ turned_digits i xs → length w ≤ i → w ≡ map verdict_of xs
turned-all i xs w e h = e ∙ go i xs (rw e at h)
  where
    go : (i : ℕ) (xs : List ℕ) → length (turned_digits i xs) ≤ i → turned_digits i xs ≡ map verdict_of xs
    go zero [] h = refl
    go zero (x ∷ xs) h = absurd (omega arith)
    go (suc i) [] h = refl
    go (suc i) (x ∷ xs) h = ap (λ (l : List ℕ). verdict_of x ∷ l) (go i xs (omega arith))
