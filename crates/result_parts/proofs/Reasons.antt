-- The reason, by the tests that the code makes in turn; and what the code finds is what the parser yields.
use Prim.Native.Nat.{ℕ, zero, suc, ◌+◌, ◌-◌}
use native.Mathlib.Omega.{arith}
use mathlib.Core.Path.{◌≡◌, refl, sym, ap, ◌∙◌}
use mathlib.Core.Bool.{Bool, true, false}
use mathlib.Core.List.{List}
use lib.ListN.{get_or, take, drop}
use Rattle.base_readers.specs.Texts.{bytes, within, same}
use Rattle.base_readers.specs.Parsers.{Got, nothing, got, when}
use Rattle.base_readers.specs.Places.{from}
use Rattle.base_readers.proofs.Readers.{passing-yes, passing-no}
use Rattle.base_readers.proofs.Places.{goes_on, stops, passes, fails}
use Rattle.lexis_rules.specs.declared.Value.{Value}
use Rattle.lexis_rules.specs.declared.Value.TheVariants.{Token, Quoted, Nothing}
use Rattle.lexis_rules.specs.Bytes.{lower, alike}
use Rattle.lexis_rules.specs.Pieces.{space, keyword}
use Rattle.lexis_rules.specs.Words.{keyword_text, gap, read_keyword, read_word}
use Rattle.lexis_rules.specs.Answers.{value_at, value_got}
use Rattle.lexis_laws.proofs.Values.{value-got}
use Rattle.result_parts.specs.declared.Reason.{Reason}
use Rattle.result_parts.specs.declared.Reason.TheVariants.{Absent}
use Rattle.result_rules.specs.Results.{separator, reason}
use Rattle.result_laws.proofs.Keywords.{alike-first}
use Rattle.result_separators.specs.Separators.{separated, behind}
use Rattle.result_parts.specs.Parts.{reason_word, stated_as, reason_from, reason_at, reason_got}
use Rattle.base_sequences.specs.Spans.{span}
use Rattle.result_separators.proofs.Separators.{past-none, past-some, behind-none, behind-some, Reads, through, gap-reads, separator-reads, keyword-reads}

-- ==== the word, by the tests of the code

-- another letter comes first
pub word-starts-not : (s : List ℕ) (at b r : ℕ) → b ≡ get_or (drop at s) 0 0 → r ≡ lower b → (r ≡ 114 → ⊥) → at ≡ at + reason_word (drop at s)
unfolding lower within
word-starts-not s at b r h i ne =
    let j : r ≡ lower (get_or (drop at s) 0 0) = i ∙ ap lower h in
    let t = alike-first (keyword (drop at s)) (drop at s) 114 (bytes "eason") (λ e. ne (j ∙ e)) in
    omega (arith, passing-no (λ k. alike k (bytes "reason")) keyword (drop at s) t)

module _ (s : List ℕ) (at e : ℕ) (q : e ≡ at + keyword (drop at s)) where
  pub word-empty : e ≡ at → at ≡ at + reason_word (drop at s)
  word-empty z = go (alike (take (keyword (drop at s)) (drop at s)) (bytes "reason")) refl
    where
      go : (t : Bool) → alike (take (keyword (drop at s)) (drop at s)) (bytes "reason") ≡ t → at ≡ at + reason_word (drop at s)
      go true h = omega (arith, passing-yes (λ k. alike k (bytes "reason")) keyword (drop at s) h)
      go false h = omega (arith, passing-no (λ k. alike k (bytes "reason")) keyword (drop at s) h)

  module _ (r : Bool) (h : r ≡ alike (span s at e) (bytes "reason")) where
    word-tested : alike (take (keyword (drop at s)) (drop at s)) (bytes "reason") ≡ r
    word-tested = let j : e - at ≡ keyword (drop at s) = omega arith in rw (← j) (sym h)

    pub word-there : r ≡ true → e ≡ at + reason_word (drop at s)
    word-there t = omega (arith, passing-yes (λ k. alike k (bytes "reason")) keyword (drop at s) (word-tested ∙ t))

    pub word-other : r ≡ false → at ≡ at + reason_word (drop at s)
    word-other t = omega (arith, passing-no (λ k. alike k (bytes "reason")) keyword (drop at s) (word-tested ∙ t))

-- ==== the reason, by the tests of the code

module _ (s : List ℕ) (at a : ℕ) where
  pub reason-no-space : a ≡ at → Absent ≡ reason_from s at a
  unfolding reason_from
  reason-no-space z = sym (past-none at a Absent _ z)

  module _ (na : a ≡ at → ⊥) (e : ℕ) (p : e ≡ a + reason_word (drop a s)) where
    from-word : reason_from s at a ≡ behind reason_word s a Absent (λ e. behind (separated 61) s e Absent (λ v. stated_as (value_at s v)))
    unfolding reason_from
    from-word = past-some at a Absent _ na

    pub reason-no-word : e ≡ a → Absent ≡ reason_from s at a
    reason-no-word z = sym (from-word ∙ behind-none reason_word s a e p Absent _ z)

    module _ (ne : e ≡ a → ⊥) (v : ℕ) (m : v ≡ e + separated 61 (drop e s)) where
      from-equals : reason_from s at a ≡ behind (separated 61) s e Absent (λ v. stated_as (value_at s v))
      from-equals = from-word ∙ behind-some reason_word s a e p Absent _ ne

      pub reason-no-equals : v ≡ e → Absent ≡ reason_from s at a
      reason-no-equals z = sym (from-equals ∙ behind-none (separated 61) s e v m Absent _ z)

      pub reason-value : (v ≡ e → ⊥) → (x : Value) → x ≡ value_at s v → (y : Reason) → y ≡ stated_as x → y ≡ reason_from s at a
      reason-value nv x i y j = j ∙ (ap stated_as i ∙ sym (from-equals ∙ behind-some (separated 61) s e v m Absent _ nv))

-- ==== what the parser yields

-- the word in lower case
reason-lower : (k : List ℕ) → same (keyword_text k) (bytes "reason") ≡ alike k (bytes "reason")
unfolding alike lower within
reason-lower k = refl

module _ (s : List ℕ) (at : ℕ) where
  -- a keyword that is the word, or another
  word-from : (e : ℕ) → e ≡ at + keyword (drop at s) → (e ≡ at → ⊥) → (x : Got (Unit {0})) → x ≡ from (when (alike (span s at e) (bytes "reason"))) s e
      → x ≡ from (read_word (bytes "reason")) s at
  unfolding read_word
  word-from e q ne x h =
      goes_on read_keyword _ s at (keyword_text (span s at e)) e x ((keyword-reads s at).there e q ne) (rw (reason-lower (span s at e)) h)

  -- the word's reader takes what its parser takes
  word-reads : Reads reason_word (read_word (bytes "reason")) s at (λ e. tt)
  unfolding read_word
  word-reads = go (alike (span s at k) (bytes "reason")) refl
    where
      k : ℕ
      k = at + keyword (drop at s)

      other : (n : ℕ) → keyword (drop at s) ≡ n → alike (span s at k) (bytes "reason") ≡ false → nothing ≡ from (read_word (bytes "reason")) s at
      other zero i h = stops read_keyword _ s at ((keyword-reads s at).missing at (omega arith) refl)
      other (suc n) i h = word-from k refl (λ z. omega arith) nothing (fails (alike (span s at k) (bytes "reason")) s k h)

      go : (t : Bool) → alike (span s at k) (bytes "reason") ≡ t → Reads reason_word (read_word (bytes "reason")) s at (λ e. tt)
      go true h =
          let w : k ≡ at + reason_word (drop at s) = word-there s at k refl true (sym h) refl in
          record {
            there = λ e q ne.
                (let j : e ≡ k = q ∙ sym w in
                word-from e j ne (got tt e) (passes (alike (span s at e) (bytes "reason")) s e (rw j h)));
            missing = λ e q z. stops read_keyword _ s at ((keyword-reads s at).missing e (q ∙ sym w) z);
          }
      go false h =
          let w : at ≡ at + reason_word (drop at s) = word-other s at k refl false (sym h) refl in
          record {
            there = λ e q ne. absurd (ne (q ∙ sym w));
            missing = λ e q z. other (keyword (drop at s)) refl h;
          }

module _ (s : List ℕ) where
  -- a value is the reason's text as it stands
  stated-got : (v : Value) → reason_got s (stated_as v) ≡ value_got s v
  stated-got (Token a e) = refl
  stated-got (Quoted a e) = refl
  stated-got Nothing = refl

  -- an answer stands for what a parser gives
  abbrev Stands : Reason → Got (List ℕ) → Type 0
  Stands m y = reason_got s m ≡ y

  -- what the code finds is what the parser yields
  pub reason-got : (at : ℕ) → reason_got s (reason_at s at) ≡ from reason s at
  unfolding reason reason_from
  reason-got at =
      through Stands space gap s at _ (gap-reads s at) Absent _ _ refl
      (λ a. through Stands reason_word (read_word (bytes "reason")) s a _ (word-reads s a) Absent _ _ refl
      (λ e. through Stands (separated 61) (separator 61) s e _ (separator-reads s e 61) Absent _ _ refl
      (λ v. stated-got (value_at s v) ∙ value-got s v)))
