-- The words of the line of a field, stored: each case of a definition is a phrase of its function's text, and the parts one after another. The premises are literally what a need
-- is handed.
use Prim.Native.Nat.{ℕ, ◌<◌, ◌^◌}
use native.Mathlib.Omega.{arith}
use mathlib.Core.Path.{◌≡◌, refl, sym, ◌∙◌}
use mathlib.Core.Bool.{Bool, true, false}
use mathlib.Core.List.{List, ◌++◌, append_assoc}
use lib.ListN.{length}
use Rattle.base_sequences.specs.Stored.{Clipped}
use Rattle.base_sequences.proofs.Clips.{clipped-long, clipped-then}
use Rattle.base_readers.specs.Texts.{bytes, same}
use Rattle.text_write.specs.Phrases.{phrase}
use Rattle.explain_rules.specs.Explained.{column, behind, shown, text, whose_words, answer_words, count_words, field_words}
use Rattle.explain_fields.specs.Internal.{whoses, answers, results, results_words, answer_on, whose_on}

-- ==== how many results are not shown

pub results-put : (w : List ℕ) (p : ℕ) → phrase p results ≡ results_words w → (old : List ℕ) (to : ℕ) (new : List ℕ) (r : ℕ) → Clipped old to (phrase p results) new r
    → Clipped old to (results_words w) new r
results-put w p e old to new r v = rw (← e) v

pub counted-put : (w old : List ℕ) (to : ℕ) → length old < 2 ^ 64 → (o : List ℕ) (a : ℕ) → Clipped old to (bytes "; ") o a → (new : List ℕ) (r : ℕ) → Clipped o a (shown w) new r
    → Clipped old to (bytes "; " ++ shown w) new r
counted-put w old to h o a v new r u = clipped-then (omega arith) v u

module _ (w old : List ℕ) (to : ℕ) (z : Bool) (e : z ≡ same w (bytes "0")) where
  pub count_none : z ≡ true → to < 2 ^ 64 → Clipped old to (count_words w) old to
  unfolding count_words
  count_none q h =
      let t : same w (bytes "0") ≡ true = sym e ∙ q in
      rw t (record { place = omega arith; bytes = refl })

  pub count-some : z ≡ false → length old < 2 ^ 64 → (o : List ℕ) (a : ℕ) → Clipped old to (bytes "; " ++ shown w) o a → (new : List ℕ) (r : ℕ) → Clipped o a (results_words w) new r
      → Clipped old to (count_words w) new r
  unfolding count_words results_words
  count-some q h o a v new r u =
      let t : same w (bytes "0") ≡ false = sym e ∙ q in
      let k : Clipped old to ((bytes "; " ++ shown w) ++ results_words w) new r = clipped-then (omega arith) v u in
      rw t (rw (append_assoc (bytes "; ") (shown w) (results_words w)) at k)

-- ==== what an answer means

pub answer-put : (w : List ℕ) (p : ℕ) → phrase p answers ≡ answer_words w → (old : List ℕ) (to : ℕ) (new : List ℕ) (r : ℕ) → Clipped old to (phrase p answers) new r
    → Clipped old to (answer_words w) new r
answer-put w p e old to new r v = rw (← e) v

-- ==== whose word it is

pub whose-put : (w : List ℕ) (p : ℕ) → phrase p whoses ≡ whose_words w → (old : List ℕ) (to : ℕ) (new : List ℕ) (r : ℕ) → Clipped old to (phrase p whoses) new r
    → Clipped old to (whose_words w) new r
whose-put w p e old to new r v = rw (← e) v

-- ==== the columns of a field

module _ (l old : List ℕ) (to : ℕ) (h : length old < 2 ^ 64) (rest : List ℕ) (e : rest ≡ behind l) where
  pub answers-put : (w : List ℕ) → w ≡ column l → (o : List ℕ) (a : ℕ) → Clipped old to (answer_words w) o a → (c : List ℕ) → c ≡ column rest → (new : List ℕ) (r : ℕ)
      → Clipped o a (count_words c) new r → Clipped old to (answer_on l) new r
  answers-put w p o a v c q new r u = clipped-then (omega arith) (rw p at v) (rw (q, e) at u)

  pub owner-put : (w : List ℕ) → w ≡ column l → (o : List ℕ) (a : ℕ) → Clipped old to (whose_words w) o a → (new : List ℕ) (r : ℕ) → Clipped o a (answer_on rest) new r
      → Clipped old to (whose_on l) new r
  owner-put w p o a v new r u = clipped-then (omega arith) (rw p at v) (rw e at u)

  pub field_put : (o₁ : List ℕ) (a : ℕ) → Clipped old to (bytes "Field " ++ text l) o₁ a → (o₂ : List ℕ) (b : ℕ) → Clipped o₁ a (bytes ": ") o₂ b → (new : List ℕ) (r : ℕ)
      → Clipped o₂ b (whose_on rest) new r → Clipped old to (field_words l) new r
  unfolding field_words
  field_put o₁ a v o₂ b u new r t = clipped-then (omega arith) v (clipped-then (omega (arith, clipped-long v)) u (rw e at t))
