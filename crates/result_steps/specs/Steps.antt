-- What the step reader answers: what stands behind a method, a reason or a property.
use Prim.Native.Char.{code}
use Rattle.std.specs.Prelude.{ℕ, Bool, true, false, List, eqb, drop, Option, Some, None}
use Rattle.base_readers.specs.Texts.{follows}
use Rattle.base_readers.specs.Parsers.{Got, nothing, got}
use Rattle.lexis_rules.specs.Pieces.{space}
use Rattle.lexis_rules.specs.Words.{keyword_text}
use Rattle.result_steps.specs.declared.Step.{Step}
use Rattle.result_steps.specs.declared.Step.TheVariants as step
use Rattle.result_parts.specs.declared.Label.{Label}
use Rattle.result_values.specs.declared.Found.{Found}
use Rattle.result_rules.specs.Results.{Property}
use Rattle.result_separators.specs.Separators.{spaced}
use Rattle.result_parts.specs.Parts.{label_from}
use Rattle.result_values.specs.Values.{value_of, value_at}
use Rattle.base_sequences.specs.Spans.{span}

-- ";" or the end comes next
unfoldable pub is_end : List ℕ → Bool
is_end = follows (λ b. eqb b (code ";"))

-- after the longest space, ";" or the end comes next
unfoldable pub closes : List ℕ → Bool
closes xs = is_end (drop (space xs) xs)

-- a result may end here, or nothing that is allowed stands here
abbrev pub end_of : Bool → Step
end_of true = step.Done
end_of false = step.Refused

-- a property whose names stand at these places, with the value that was found behind them
abbrev pub property_of : ℕ → ℕ → ℕ → ℕ → Option Found → Step
property_of a e b f (Some w) = step.Property a e b f w.value w.end
property_of a e b f None = step.Refused

-- the step that this makes, where the space behind the part before it ends at x
abbrev pub step_of : List ℕ → ℕ → Option Label → Step
step_of s x (Some l) = property_of l.type_start l.type_end l.name_start l.name_end (value_at s l.value)
step_of s x None = end_of (is_end (drop x s))

-- behind a part that ends at `at`, what stands at the place x
abbrev pub step_from : List ℕ → ℕ → ℕ → Step
step_from s at x = step_of s x (label_from s at x)

-- what stands behind the space
abbrev pub step_at : List ℕ → ℕ → Step
step_at s at = step_from s at (spaced s at)

-- a property that was found, and the place after it
abbrev pub property_got : List ℕ → Step → Got Property
property_got s (step.Property a e b f v x) = got (record { ptype = keyword_text (span s a e); property = keyword_text (span s b f); value = value_of s v }) x
property_got s step.Done = nothing
property_got s step.Refused = nothing
