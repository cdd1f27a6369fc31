-- The columns of a judgement, stored: each word is a phrase of its function's text, and the columns one after another are the line. The premises are literally
-- what a need is handed.
use Prim.Native.Nat.{ℕ, zero, suc, ◌<◌, ◌^◌}
use native.Mathlib.Omega.{arith}
use mathlib.Core.Path.{◌≡◌, refl}
use mathlib.Core.List.{List, [], ◌∷◌, ◌++◌, append_assoc}
use lib.ListN.{length}
use borrow.Author.Tests.{eq-eqb, ne_eqb}
use Rattle.base_sequences.specs.Stored.{Clipped}
use Rattle.base_sequences.proofs.Clips.{clipped-long, clipped-then}
use Rattle.base_readers.specs.Texts.{bytes}
use Rattle.base_readers.specs.Readers.{run}
use Rattle.text_decimals_rules.specs.Decimals.{decimal}
use Rattle.text_write.specs.Phrases.{start, phrase}
use Rattle.report_rules.specs.Report.{line}
use Rattle.arc_rules.specs.declared.Judged.{Judged}
use Rattle.judgement_rules.specs.Judgement.{outcome_word, reason_letter, status_word, oldest_word, columns_line}
use Rattle.judgement_lines.specs.Internal.{outcome_column, outcome_columns, verdict_columns}

-- ==== words by a number

outcome-is : (n : ℕ) → phrase n (bytes "chain\tnone|chain\tfailed|chain\tbuilt") ≡ outcome_column n
unfolding phrase start run outcome_word
outcome-is zero = refl
outcome-is (suc zero) = refl
outcome-is (suc (suc zero)) = refl
outcome-is (suc (suc (suc n))) = rw (ne_eqb (suc (suc (suc n))) 0 (λ (e : suc (suc (suc n)) ≡ 0). omega (arith, e)), ne_eqb (suc (suc (suc n))) 1 (λ (e : suc (suc (suc n)) ≡ 1). omega (arith, e)))

letter-is : (n : ℕ) → phrase n (bytes "\t-|\ta|\tb|\tc|\td|\te|\t-") ≡ 9 ∷ reason_letter n
unfolding phrase start run reason_letter
letter-is zero = refl
letter-is (suc zero) = refl
letter-is (suc (suc zero)) = refl
letter-is (suc (suc (suc zero))) = refl
letter-is (suc (suc (suc (suc zero)))) = refl
letter-is (suc (suc (suc (suc (suc zero))))) = refl
letter-is (suc (suc (suc (suc (suc (suc zero)))))) = refl
letter-is (suc (suc (suc (suc (suc (suc (suc n))))))) = rw (ne_eqb (suc (suc (suc (suc (suc (suc (suc n))))))) 1 (λ (e : suc (suc (suc (suc (suc (suc (suc n)))))) ≡ 1). omega (arith, e)), ne_eqb (suc (suc (suc (suc (suc (suc (suc n))))))) 2 (λ (e : suc (suc (suc (suc (suc (suc (suc n)))))) ≡ 2). omega (arith, e)), ne_eqb (suc (suc (suc (suc (suc (suc (suc n))))))) 3 (λ (e : suc (suc (suc (suc (suc (suc (suc n)))))) ≡ 3). omega (arith, e)), ne_eqb (suc (suc (suc (suc (suc (suc (suc n))))))) 4 (λ (e : suc (suc (suc (suc (suc (suc (suc n)))))) ≡ 4). omega (arith, e)), ne_eqb (suc (suc (suc (suc (suc (suc (suc n))))))) 5 (λ (e : suc (suc (suc (suc (suc (suc (suc n)))))) ≡ 5). omega (arith, e)))

status-is : (n : ℕ) → phrase n (bytes "\tnone|\tpass|\tfail") ≡ 9 ∷ status_word n
unfolding phrase start run status_word
status-is zero = refl
status-is (suc zero) = refl
status-is (suc (suc zero)) = refl
status-is (suc (suc (suc n))) = rw (ne_eqb (suc (suc (suc n))) 0 (λ (e : suc (suc (suc n)) ≡ 0). omega (arith, e)), ne_eqb (suc (suc (suc n))) 1 (λ (e : suc (suc (suc n)) ≡ 1). omega (arith, e)))

module _ (n : ℕ) (old : List ℕ) (to : ℕ) (new : List ℕ) (r : ℕ) where
  pub outcome-put : Clipped old to (phrase n (bytes "chain\tnone|chain\tfailed|chain\tbuilt")) new r → Clipped old to (outcome_column n) new r
  outcome-put w = rw (← outcome-is n) w

  pub letter-put : Clipped old to (phrase n (bytes "\t-|\ta|\tb|\tc|\td|\te|\t-")) new r → Clipped old to (9 ∷ reason_letter n) new r
  letter-put w = rw (← letter-is n) w

  pub status-put : Clipped old to (phrase n (bytes "\tnone|\tpass|\tfail")) new r → Clipped old to (9 ∷ status_word n) new r
  status-put w = rw (← status-is n) w

module _ (status n : ℕ) (old : List ℕ) (to : ℕ) (new : List ℕ) (r : ℕ) where
  pub oldest-some : status ≡ 1 → Clipped old to (9 ∷ decimal n) new r → Clipped old to (9 ∷ oldest_word status n) new r
  unfolding oldest_word
  oldest-some a w = rw (eq-eqb status 1 a) w

  pub oldest-none : (status ≡ 1 → ⊥) → Clipped old to (9 ∷ bytes "-") new r → Clipped old to (9 ∷ oldest_word status n) new r
  unfolding oldest_word
  oldest-none a w = rw (ne_eqb status 1 a) w

-- ==== one column after another

module _ {o₀ o₁ o₂ : List ℕ} {to a b : ℕ} (h : length o₀ < 2 ^ 64) where
  pub number_put : (n : ℕ) → Clipped o₀ to (9 ∷ []) o₁ a → Clipped o₁ a (decimal n) o₂ b → Clipped o₀ to (9 ∷ decimal n) o₂ b
  number_put n p q = clipped-then (omega arith) p q

columns : (j : Judged) → outcome_columns j ++ (verdict_columns j ++ (10 ∷ [])) ≡ columns_line j
unfolding columns_line line
columns j =
    rw (
      append_assoc (outcome_column j.outcome) ((9 ∷ reason_letter j.reason) ++ (9 ∷ decimal j.field)) (verdict_columns j ++ (10 ∷ [])),
      append_assoc (bytes "chain") (9 ∷ outcome_word j.outcome) (((9 ∷ reason_letter j.reason) ++ (9 ∷ decimal j.field)) ++ (verdict_columns j ++ (10 ∷ []))),
      append_assoc (9 ∷ reason_letter j.reason) (9 ∷ decimal j.field) (verdict_columns j ++ (10 ∷ [])),
      append_assoc (9 ∷ decimal j.instances) ((9 ∷ status_word j.status) ++ (9 ∷ oldest_word j.status j.oldest)) (10 ∷ []),
      append_assoc (9 ∷ status_word j.status) (9 ∷ oldest_word j.status j.oldest) (10 ∷ []),
    )

module _ (j : Judged) {o₀ o₁ o₂ o₃ : List ℕ} {to a b c : ℕ} (h : length o₀ < 2 ^ 64) where
  pub outcomes-put : Clipped o₀ to (outcome_column j.outcome) o₁ a → Clipped o₁ a (9 ∷ reason_letter j.reason) o₂ b → Clipped o₂ b (9 ∷ decimal j.field) o₃ c
      → Clipped o₀ to (outcome_columns j) o₃ c
  outcomes-put p q r = let k = clipped-long p in clipped-then (omega arith) p (clipped-then (omega (arith, k)) q r)

  pub verdicts-put : Clipped o₀ to (9 ∷ decimal j.instances) o₁ a → Clipped o₁ a (9 ∷ status_word j.status) o₂ b → Clipped o₂ b (9 ∷ oldest_word j.status j.oldest) o₃ c
      → Clipped o₀ to (verdict_columns j) o₃ c
  verdicts-put p q r = let k = clipped-long p in clipped-then (omega arith) p (clipped-then (omega (arith, k)) q r)

  pub columns-put : Clipped o₀ to (outcome_columns j) o₁ a → Clipped o₁ a (verdict_columns j) o₂ b → Clipped o₂ b (10 ∷ []) o₃ c → Clipped o₀ to (columns_line j) o₃ c
  columns-put p q r = let k = clipped-long p in rw (← columns j) (clipped-then (omega arith) p (clipped-then (omega (arith, k)) q r))
