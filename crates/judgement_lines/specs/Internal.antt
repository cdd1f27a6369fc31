-- The columns of a judgement in parts, which private functions write. No public contract cites these.
use Rattle.std.specs.Prelude.{ℕ, List, ◌∷◌, ◌++◌}
use Rattle.base_readers.specs.Texts.{bytes}
use Rattle.text_decimals_rules.specs.Decimals.{decimal}
use Rattle.arc_rules.specs.declared.Judged.{Judged}
use Rattle.judgement_rules.specs.Judgement.{outcome_word, reason_letter, status_word, oldest_word}

-- `chain` and outcome
abbrev pub outcome_column : ℕ → List ℕ
outcome_column n = bytes "chain" ++ (9 ∷ outcome_word n)

-- `chain`, outcome, reason, field
abbrev pub outcome_columns : Judged → List ℕ
outcome_columns j = outcome_column j.outcome ++ ((9 ∷ reason_letter j.reason) ++ (9 ∷ decimal j.field))

-- instances, status, oldest-pass
abbrev pub verdict_columns : Judged → List ℕ
verdict_columns j = (9 ∷ decimal j.instances) ++ ((9 ∷ status_word j.status) ++ (9 ∷ oldest_word j.status j.oldest))
