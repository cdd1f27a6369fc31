-- A struct for hosts that is made from the struct of a call has what the call's definition says, field by field.
use mathlib.Core.Path.{◌≡◌}
use Rattle.strip_rules.specs.declared.Stripped.{Stripped}
use Rattle.strip_rules.specs.Strip as strip
use Rattle.strip_rules.specs.Answers as copying
use Rattle.strip_steps_rules.specs.declared.Marked.{Marked}
use Rattle.strip_steps_rules.specs.Steps as steps
use Rattle.strip_steps_rules.specs.Answers as marking
use Rattle.report_rules.specs.Report as report
use Rattle.report_rules.specs.declared.Reported.{Reported}
use Rattle.report_rules.specs.Answers as reporting
use Rattle.write_rules.specs.Compose as compose
use Rattle.write_rules.specs.declared.Written.{Written}
use Rattle.write_rules.specs.Answers as writing
use Rattle.host_structs.specs.declared.MarkFace.{MarkFace}
use Rattle.host_structs.specs.declared.CopyFace.{CopyFace}
use Rattle.host_structs.specs.declared.ReportFace.{ReportFace}
use Rattle.host_structs.specs.declared.WriteFace.{WriteFace}
use Rattle.host_structs.specs.Faces.{mark_face, copy_face, report_face, write_face}
use Rattle.host_structs.specs.Made.{marked_face, copied_face, reported_face, written_face}

pub mark-faced : (f : MarkFace) (r : Marked) (a : steps.Marks) → r ≡ marking.answer_of a → f ≡ marked_face r → f ≡ mark_face a
mark-faced f r a e h = rw (h, e)

pub copy-faced : (f : CopyFace) (r : Stripped) (a : strip.Answer) → r ≡ copying.answer_of a → f ≡ copied_face r → f ≡ copy_face a
copy-faced f r a e h = rw (h, e)

pub report-faced : (f : ReportFace) (r : Reported) (a : report.Answer) → r ≡ reporting.answer_of a → f ≡ reported_face r → f ≡ report_face a
report-faced f r a e h = rw (h, e)

pub write-faced : (f : WriteFace) (r : Written) (a : compose.Answer) → r ≡ writing.answer_of a → f ≡ written_face r → f ≡ write_face a
write-faced f r a e h = rw (h, e)
