-- The struct for hosts that is made from the struct of the call has what the call's definition says, field by field.
use mathlib.Core.Path.{◌≡◌}
use Rattle.arc_rules.specs.declared.Judged.{Judged}
use Rattle.arc_rules.specs.Chain as arc
use Rattle.arc_rules.specs.Answers as judging
use Rattle.host_structs.specs.declared.judge.JudgeFace.{JudgeFace}
use Rattle.host_structs.specs.JudgeFaces.{judge_face, judged_face}

pub judge-faced : (f : JudgeFace) (r : Judged) (a : arc.Answer) → r ≡ judging.answer_of a → f ≡ judged_face r → f ≡ judge_face a
judge-faced f r a e h = rw (h, e)
