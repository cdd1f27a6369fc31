-- The step reader finds what the parser of properties yields, and it ends where a result may end. By cases of what stands before a
-- property value.
use Prim.Native.Char.{code}
use Prim.Native.Nat.{ℕ, ◌≤◌, ◌<◌}
use native.Mathlib.Omega.{arith}
use mathlib.Core.Path.{◌≡◌, refl, sym, ap, ◌∙◌}
use mathlib.Core.Bool.{Bool, true, false}
use mathlib.Core.List.{List}
use lib.Dec.{eqb}
use lib.ListN.{length, get_or, drop}
use lib.Seq.{drop-drop}
use Rattle.base_readers.specs.Parsers.{nothing, got}
use Rattle.base_readers.specs.Places.{from}
use Rattle.base_readers.proofs.Texts.{follows-at, follows-end}
use Rattle.base_readers.proofs.Places.{goes_on, stops, gives}
use Rattle.lexis_rules.specs.Words.{keyword_text}
use Rattle.result_steps.specs.declared.Step.{Step}
use Rattle.result_steps.specs.declared.Step.TheVariants as step
use Rattle.result_parts.specs.declared.Label.{Label}
use Rattle.result_values.specs.declared.Found.{Found}
use Rattle.std.specs.Prelude.{Option, Some, None}
use Rattle.result_rules.specs.Results.{Property, property, property_value}
use Rattle.result_separators.specs.Separators.{spaced}
use Rattle.result_parts.specs.Parts.{label_read, label_from, label_at}
use Rattle.result_values.specs.Values.{value_of, value_at, value_got}
use Rattle.base_sequences.specs.Spans.{span}
use Rattle.result_steps.specs.Steps.{is_end, closes, end_of, property_of, step_of, step_from, step_at, property_got}
use Rattle.result_parts.proofs.Labels.{property-behind, property-not}
use Rattle.result_values.proofs.ValueGot.{value-got}

-- ==== by the tests of the code

module _ (s : List ℕ) (at : ℕ) where
  pub end-at : at < length s → (r : Bool) → r ≡ eqb (get_or s at 0) (code ";") → r ≡ is_end (drop at s)
  unfolding is_end
  end-at h r e = follows-at (λ b. eqb b (code ";")) s at h r e

  pub end-over : length s ≤ at → true ≡ is_end (drop at s)
  unfolding is_end
  end-over h = follows-end (λ b. eqb b (code ";")) s at h

module _ (s : List ℕ) (at x : ℕ) where
  pub step-property : (a e b f v : ℕ) → label_read a e b f v ≡ label_from s at x → (w : Option Found) → w ≡ value_at s v → (r : Step) → r ≡ property_of a e b f w
      → r ≡ step_from s at x
  step-property a e b f v h w i r k = k ∙ (ap (property_of a e b f) i ∙ ap (step_of s x) h)

  pub step_end : None ≡ label_from s at x → (c : Bool) → c ≡ is_end (drop x s) → (r : Step) → r ≡ end_of c → r ≡ step_from s at x
  step_end h c i r k = k ∙ (ap end_of i ∙ ap (step_of s x) h)

-- ==== what the parser yields

module _ (s : List ℕ) (at : ℕ) where
  closes-is : closes (drop at s) ≡ is_end (drop (spaced s at) s)
  unfolding closes
  closes-is = rw drop-drop

  -- what a step finds, with its texts, is what the parser of properties yields there
  pub step-got : property_got s (step_at s at) ≡ from property s at
  step-got = go (label_at s at) refl
    where
      ends : (c : Bool) → nothing ≡ from property s at → property_got s (end_of c) ≡ from property s at
      ends true k = k
      ends false k = k

      valued : (a e b f v : ℕ) → label_read a e b f v ≡ label_at s at → (x : Option Found) → value_at s v ≡ x → property_got s (property_of a e b f x) ≡ from property s at
      valued a e b f v h None i = property-behind s at a e b f v h nothing (stops property_value _ s v (ap (value_got s) (sym i) ∙ value-got s v))
      valued a e b f v h (Some y) i =
          let p : Property = record { ptype = keyword_text (span s a e); property = keyword_text (span s b f); value = value_of s y.value } in
          property-behind s at a e b f v h (got p y.end) (goes_on property_value _ s v (value_of s y.value) y.end (got p y.end) (ap (value_got s) (sym i) ∙ value-got s v) (gives p s y.end))

      go : (l : Option Label) → label_at s at ≡ l → property_got s (step_of s (spaced s at) l) ≡ from property s at
      go None h = ends (is_end (drop (spaced s at) s)) (property-not s at (sym h))
      go (Some l) h = valued l.type_start l.type_end l.name_start l.name_end l.value (sym h) (value_at s l.value) refl

  -- where a step says that the result is done, it may end
  pub step-done : step.Done ≡ step_at s at → closes (drop at s) ≡ true
  step-done d = go (label_at s at) refl
    where
      ends : (c : Bool) → closes (drop at s) ≡ c → step.Done ≡ end_of c → closes (drop at s) ≡ true
      ends true q k = q
      ends false q k = absurd (let z : ◌≡◌ {A = ℕ} 0 1 = cc in omega arith)

      valued : (a e b f : ℕ) (x : Option Found) → step.Done ≡ property_of a e b f x → closes (drop at s) ≡ true
      valued a e b f None k = absurd (let z : ◌≡◌ {A = ℕ} 0 1 = cc in omega arith)
      valued a e b f (Some w) k = absurd (let z : ◌≡◌ {A = ℕ} 0 1 = cc in omega arith)

      go : (l : Option Label) → label_at s at ≡ l → closes (drop at s) ≡ true
      go None h = ends (is_end (drop (spaced s at) s)) closes-is (d ∙ ap (step_of s (spaced s at)) h)
      go (Some l) h = valued l.type_start l.type_end l.name_start l.name_end (value_at s l.value) (d ∙ ap (step_of s (spaced s at)) h)
