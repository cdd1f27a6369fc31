-- What the function for hosts returns of a chain, by the definition of the library's call, and by the struct that the call returns.
use Rattle.std.specs.Prelude.{ℕ, cond, eqb}
use Rattle.arc_rules.specs.Chain as arc
use Rattle.arc_rules.specs.declared.Judged.{Judged}
use Rattle.host_structs.specs.declared.judge.JudgeFace.{JudgeFace}

-- there is an oldest-pass exactly where the status is pass
abbrev pub has_oldest_pass : ℕ → ℕ
has_oldest_pass status = cond (eqb status 1) 1 0

abbrev pub judge_face : arc.Answer → JudgeFace
judge_face a =
    record {
      number = a.number;
      outcome = a.outcome;
      reason = a.reason;
      status = a.status;
      has_oldest_pass = has_oldest_pass a.status;
      place = a.place;
      field = a.field;
      instances = a.instances;
      oldest_pass = a.oldest;
    }

-- with the code of whether there is an oldest-pass
abbrev pub judged_with : Judged → ℕ → JudgeFace
judged_with j has =
    record {
      number = j.number;
      outcome = j.outcome;
      reason = j.reason;
      status = j.status;
      has_oldest_pass = has;
      place = j.place;
      field = j.field;
      instances = j.instances;
      oldest_pass = j.oldest;
    }

abbrev pub judged_face : Judged → JudgeFace
judged_face j = judged_with j (has_oldest_pass j.status)
