-- The words of a judgement, stored: each case of the definitions is a phrase of its function's text, and texts that are stored one after another. The premises are
-- literally what a need is handed.
use Prim.Native.Nat.{ℕ, zero, suc, ◌<◌, ◌^◌}
use native.Mathlib.Omega.{arith}
use mathlib.Core.Path.{◌≡◌, refl}
use mathlib.Core.Bool.{cond}
use mathlib.Core.List.{List, ◌++◌, append_assoc, append-nil}
use lib.Dec.{eqb}
use lib.ListN.{length}
use borrow.Author.Tests.{eq-eqb, ne_eqb}
use Rattle.base_sequences.specs.Stored.{Clipped}
use Rattle.base_sequences.proofs.Clips.{clipped-then}
use Rattle.base_readers.specs.Texts.{bytes}
use Rattle.base_readers.specs.Readers.{run}
use Rattle.text_decimals_rules.specs.Decimals.{decimal}
use Rattle.text_write.specs.Phrases.{start, phrase}
use Rattle.arc_rules.specs.declared.Judged.{Judged}
use Rattle.judgement_rules.specs.Judgement.{reason_words, field_words, sets_words, oldest_words, status_words, chain_words}
use Rattle.judgement_lines.specs.WordsInternal.{numbered, sets_on, pass_words, built_words}

-- ==== reasons

abbrev reasons : List ℕ
reasons = bytes "a seal's cv is not the one that RFC 8617 prescribes|an ARC field can't be read|a kind of ARC field is there twice at one instance|an instance lacks a kind of ARC field|the last seal has cv=fail|a seal's cv is not the one that RFC 8617 prescribes"

reason-is : (n : ℕ) → phrase n reasons ≡ reason_words n
unfolding phrase start run reason_words
reason-is zero = refl
reason-is (suc zero) = refl
reason-is (suc (suc zero)) = refl
reason-is (suc (suc (suc zero))) = refl
reason-is (suc (suc (suc (suc zero)))) = refl
reason-is (suc (suc (suc (suc (suc zero))))) = refl
reason-is (suc (suc (suc (suc (suc (suc n)))))) =
    rw (
      ne_eqb (suc (suc (suc (suc (suc (suc n)))))) 1 (λ (e : suc (suc (suc (suc (suc (suc n))))) ≡ 1). omega (arith, e)),
      ne_eqb (suc (suc (suc (suc (suc (suc n)))))) 2 (λ (e : suc (suc (suc (suc (suc (suc n))))) ≡ 2). omega (arith, e)),
      ne_eqb (suc (suc (suc (suc (suc (suc n)))))) 3 (λ (e : suc (suc (suc (suc (suc (suc n))))) ≡ 3). omega (arith, e)),
      ne_eqb (suc (suc (suc (suc (suc (suc n)))))) 4 (λ (e : suc (suc (suc (suc (suc (suc n))))) ≡ 4). omega (arith, e)),
    )

module _ (n : ℕ) (old : List ℕ) (to : ℕ) (new : List ℕ) (r : ℕ) where
  pub reason-put : Clipped old to (phrase n reasons) new r → Clipped old to (reason_words n) new r
  reason-put w = rw (← reason-is n) w

-- ==== phrases with a number

field_is : (n : ℕ) → numbered (bytes "|, field ") n ≡ field_words n
unfolding phrase start run numbered field_words
field_is zero = refl
field_is (suc zero) = refl
field_is (suc (suc n)) = rw (ne_eqb (suc (suc n)) 0 (λ (e : suc (suc n) ≡ 0). omega (arith, e)))

abbrev passes : List ℕ
passes = bytes "pass: every seal and the last signature are good, and so is every other signature|pass: every seal and the last signature are good; oldest-pass is "

pass-is : (n : ℕ) → numbered passes n ≡ pass_words n
unfolding phrase start run numbered oldest_words
pass-is zero = refl
pass-is (suc zero) = refl
pass-is (suc (suc n)) = rw (ne_eqb (suc (suc n)) 0 (λ (e : suc (suc n) ≡ 0). omega (arith, e)))

module _ (n : ℕ) (old : List ℕ) (to : ℕ) (new : List ℕ) (r : ℕ) where
  pub field_put : Clipped old to (numbered (bytes "|, field ") n) new r → Clipped old to (field_words n) new r
  field_put w = rw (← field_is n) w

  pub pass-put : Clipped old to (numbered passes n) new r → Clipped old to (pass_words n) new r
  pass-put w = rw (← pass-is n) w

  pub no_number : (all : List ℕ) → Clipped old to (phrase n all) new r → n ≡ 0 → Clipped old to (numbered all n) new r
  unfolding numbered
  no_number all w a = rw (eq-eqb n 0 a, append-nil (phrase n all)) w

-- ==== one text after another

module _ {o₀ o₁ o₂ : List ℕ} {to a b : ℕ} (h : length o₀ < 2 ^ 64) where
  pub number_put : (all : List ℕ) (n : ℕ) → Clipped o₀ to (phrase n all) o₁ a → (n ≡ 0 → ⊥) → Clipped o₁ a (decimal n) o₂ b → Clipped o₀ to (numbered all n) o₂ b
  unfolding numbered
  number_put all n p e q = rw (ne_eqb n 0 e) (clipped-then (omega arith) p q)

  pub two-put : (x y : List ℕ) → Clipped o₀ to x o₁ a → Clipped o₁ a y o₂ b → Clipped o₀ to (x ++ y) o₂ b
  two-put x y p q = clipped-then (omega arith) p q

sets_word : (n : ℕ) → phrase n (bytes " sets; | set; | sets; ") ≡ cond (eqb n 1) (bytes " set") (bytes " sets") ++ bytes "; "
unfolding phrase start run
sets_word zero = refl
sets_word (suc zero) = refl
sets_word (suc (suc zero)) = refl
sets_word (suc (suc (suc n))) = rw (ne_eqb (suc (suc (suc n))) 1 (λ (e : suc (suc (suc n)) ≡ 1). omega (arith, e)))

sets-is : (n : ℕ) → decimal n ++ phrase n (bytes " sets; | set; | sets; ") ≡ sets_on n
unfolding sets_words
sets-is n = rw (sets_word n, append_assoc (decimal n) (cond (eqb n 1) (bytes " set") (bytes " sets")) (bytes "; "))

pub sets-put : {o₀ o₁ o₂ : List ℕ} {to a b : ℕ} → length o₀ < 2 ^ 64 → (n : ℕ) → Clipped o₀ to (decimal n) o₁ a → Clipped o₁ a (phrase n (bytes " sets; | set; | sets; ")) o₂ b
    → Clipped o₀ to (sets_on n) o₂ b
sets-put h n p q = rw (← sets-is n) (clipped-then (omega arith) p q)

-- ==== the verdict

module _ (status n : ℕ) (old : List ℕ) (to : ℕ) (new : List ℕ) (r : ℕ) where
  pub verdict-pass : status ≡ 1 → Clipped old to (pass_words n) new r → Clipped old to (status_words status n) new r
  unfolding status_words
  verdict-pass e w = rw (eq-eqb status 1 e) w

  pub verdict-fail : (status ≡ 1 → ⊥) → Clipped old to (bytes "fail: a seal or the last signature is not good") new r → Clipped old to (status_words status n) new r
  unfolding status_words
  verdict-fail e w = rw (ne_eqb status 1 e) w

-- ==== the whole

abbrev fronts : List ℕ
fronts = bytes "There is no ARC field.|The chain is failed: |The chain is built, with "

module _ (n : ℕ) where
  front-none : n ≡ 0 → phrase n fronts ≡ bytes "There is no ARC field."
  unfolding phrase start run
  front-none e = rw e

  front-failed : n ≡ 1 → phrase n fronts ≡ bytes "The chain is failed: "
  unfolding phrase start run
  front-failed e = rw e

front-built : (n : ℕ) → (n ≡ 0 → ⊥) → (n ≡ 1 → ⊥) → phrase n fronts ≡ bytes "The chain is built, with "
unfolding phrase start run
front-built zero a b = absurd (a refl)
front-built (suc zero) a b = absurd (b refl)
front-built (suc (suc zero)) a b = refl
front-built (suc (suc (suc n))) a b = refl

module _ (j : Judged) {o₀ o₁ : List ℕ} {to a : ℕ} (p : Clipped o₀ to (phrase j.outcome fronts) o₁ a) where
  pub chain-none : j.outcome ≡ 0 → Clipped o₀ to (chain_words j) o₁ a
  unfolding chain_words
  chain-none e = rw (eq-eqb j.outcome 0 e) (rw (front-none j.outcome e) at p)

  module _ (h : length o₀ < 2 ^ 64) (n : j.outcome ≡ 0 → ⊥) {o₂ : List ℕ} {b : ℕ} where
    pub chain-failed : j.outcome ≡ 1 → Clipped o₁ a (reason_words j.reason ++ field_words j.field) o₂ b → Clipped o₀ to (chain_words j) o₂ b
    unfolding chain_words
    chain-failed e q = rw (ne_eqb j.outcome 0 n, eq-eqb j.outcome 1 e) (clipped-then (omega arith) (rw (front-failed j.outcome e) at p) q)

    pub chain-built : (j.outcome ≡ 1 → ⊥) → Clipped o₁ a (built_words j) o₂ b → Clipped o₀ to (chain_words j) o₂ b
    unfolding chain_words
    chain-built e q =
        rw (ne_eqb j.outcome 0 n, ne_eqb j.outcome 1 e)
        (clipped-then (omega arith) (rw (front-built j.outcome n e) at p) (rw (append_assoc (sets_words j.instances) (bytes "; ") (status_words j.status j.oldest)) at q))
