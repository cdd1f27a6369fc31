-- The lines of a report by the places of their texts.
use Prim.Native.Char.{code}
use Rattle.std.specs.Prelude.{ℕ, Bool, List, [], ◌∷◌, ◌++◌}
use Rattle.std.proofs.Math.Option.{some}
use Rattle.base_readers.specs.Texts.{bytes}
use Rattle.lexis_rules.specs.Words.{keyword_text}
use Rattle.identifier.specs.Answers.{text_of}
use Rattle.result_values.specs.declared.Value as place
use Rattle.result_rules.specs.Results.{Value}
use Rattle.result_values.specs.Values.{value_of}
use Rattle.base_sequences.specs.Spans.{span}
use Rattle.report_rules.specs.Report.{escape, line, reason_line, letter_of, property_line}

-- the line of a method from a up to e with its result from b up to f
abbrev pub method_text : List ℕ → ℕ → ℕ → ℕ → ℕ → List ℕ
method_text s a e b f = line (bytes "m" ∷ keyword_text (span s a e) ∷ keyword_text (span s b f) ∷ [])

-- the line of a reason from a up to e, quoted or not
abbrev pub reason_text : List ℕ → ℕ → ℕ → Bool → List ℕ
reason_text s a e q = reason_line (some (text_of s a e q))

-- the line of a property whose ptype stands from a up to e and whose name from b up to f
abbrev pub property_text : List ℕ → ℕ → ℕ → ℕ → ℕ → place.Value → List ℕ
property_text s a e b f v = property_line (record { ptype = keyword_text (span s a e); property = keyword_text (span s b f); value = value_of s v })

-- the last two columns of it, with the tabs before them and LF
abbrev pub value_columns : Value → List ℕ
value_columns v = code "\t" ∷ (letter_of v.kind ++ (code "\t" ∷ (escape v.text ++ (code "\n" ∷ []))))
