-- What the command writes of a judgement (arc_rules): a line of columns, and the same in words.
use Prim.Native.Char.{code}
use Rattle.std.specs.Prelude.{ℕ, ◌-◌, cond, List, [], ◌∷◌, ◌++◌, eqb}
use Rattle.base_readers.specs.Texts.{bytes, within}
use Rattle.text_decimals_rules.specs.Decimals.{decimal}
use Rattle.report_rules.specs.Report.{line}
use Rattle.arc_rules.specs.declared.Judged.{Judged}

-- ==== the verdicts, as the command is handed them

-- one digit for each instance from 1: 2 for a good seal and 1 for a good signature. What is no such digit is no verdict either
unfoldable pub verdict_of : ℕ → ℕ
verdict_of x = cond (within (code "0") (code "3") x) (x - code "0") 255

-- ==== columns

unfoldable pub outcome_word : ℕ → List ℕ
outcome_word n = cond (eqb n 0) (bytes "none") (cond (eqb n 1) (bytes "failed") (bytes "built"))

-- the letter of a reason (01, The chain); "-" where there is none
unfoldable pub reason_letter : ℕ → List ℕ
reason_letter n =
    cond (eqb n 1) (bytes "a")
    (cond (eqb n 2) (bytes "b")
    (cond (eqb n 3) (bytes "c")
    (cond (eqb n 4) (bytes "d")
    (cond (eqb n 5) (bytes "e") (bytes "-")))))

unfoldable pub status_word : ℕ → List ℕ
status_word n = cond (eqb n 0) (bytes "none") (cond (eqb n 1) (bytes "pass") (bytes "fail"))

-- there is an oldest-pass where the status is pass; "-" elsewhere
unfoldable pub oldest_word : ℕ → ℕ → List ℕ
oldest_word status oldest = cond (eqb status 1) (decimal oldest) (bytes "-")

-- `chain`, outcome, reason, the field that it names, instances, status, oldest-pass
unfoldable pub columns_line : Judged → List ℕ
columns_line j =
    line (bytes "chain" ∷ outcome_word j.outcome ∷ reason_letter j.reason ∷ decimal j.field ∷ decimal j.instances ∷ status_word j.status ∷ oldest_word j.status j.oldest ∷ [])

-- ==== words

-- why a chain is failed
unfoldable pub reason_words : ℕ → List ℕ
reason_words n =
    cond (eqb n 1) (bytes "an ARC field can't be read")
    (cond (eqb n 2) (bytes "a kind of ARC field is there twice at one instance")
    (cond (eqb n 3) (bytes "an instance lacks a kind of ARC field")
    (cond (eqb n 4) (bytes "the last seal has cv=fail") (bytes "a seal's cv is not the one that RFC 8617 prescribes"))))

-- which field it is, by its number among all fields
unfoldable pub field_words : ℕ → List ℕ
field_words n = cond (eqb n 0) [] (bytes ", field " ++ decimal n)

unfoldable pub sets_words : ℕ → List ℕ
sets_words n = decimal n ++ cond (eqb n 1) (bytes " set") (bytes " sets")

unfoldable pub oldest_words : ℕ → List ℕ
oldest_words n = cond (eqb n 0) (bytes ", and so is every other signature") (bytes "; oldest-pass is " ++ decimal n)

-- what the verdicts make of a chain that is built
unfoldable pub status_words : ℕ → ℕ → List ℕ
status_words status oldest =
    cond (eqb status 1) (bytes "pass: every seal and the last signature are good" ++ oldest_words oldest) (bytes "fail: a seal or the last signature is not good")

unfoldable pub chain_words : Judged → List ℕ
chain_words j =
    cond (eqb j.outcome 0) (bytes "There is no ARC field.")
    (cond (eqb j.outcome 1) (bytes "The chain is failed: " ++ (reason_words j.reason ++ field_words j.field))
    (bytes "The chain is built, with " ++ (sets_words j.instances ++ (bytes "; " ++ status_words j.status j.oldest))))

-- both lines
unfoldable pub judgement : Judged → List ℕ
judgement j = columns_line j ++ (chain_words j ++ (code "\n" ∷ []))
