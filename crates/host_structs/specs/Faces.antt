-- What the functions for hosts return, by the definitions of the library's calls.
use Rattle.std.specs.Prelude.{length}
use Rattle.strip_rules.specs.Strip as strip
use Rattle.strip_steps_rules.specs.Steps as steps
use Rattle.report_rules.specs.Report as report
use Rattle.write_rules.specs.Compose as compose
use Rattle.block_walk_rules.specs.declared.Step.{Step}
use Rattle.block_walk_rules.specs.declared.Step.TheVariants.{Field, Last}
use Rattle.host_structs.specs.declared.MarkFace.{MarkFace}
use Rattle.host_structs.specs.declared.CopyFace.{CopyFace}
use Rattle.host_structs.specs.declared.ReportFace.{ReportFace}
use Rattle.host_structs.specs.declared.WriteFace.{WriteFace}
use Rattle.host_structs.specs.declared.NextFace.{NextFace}

abbrev pub mark_face : steps.Marks → MarkFace
mark_face a = record { number = a.number; place = a.place; written = length a.written }

abbrev pub copy_face : strip.Answer → CopyFace
copy_face a = record { number = a.number; place = a.place; kept = a.kept; removed = a.removed; fields = a.fields }

abbrev pub report_face : report.Answer → ReportFace
report_face a = record { number = a.number; place = a.place; written = length a.written; ignored = a.ignored }

abbrev pub write_face : compose.Answer → WriteFace
write_face a = record { number = a.number; place = a.place; written = length a.written }

abbrev pub next_face : Step → NextFace
next_face (Field a n b e) = record { number = 0; found = 1; place = 0; start = a; name_end = n; body_start = b; end = e }
next_face (Last n p) = record { number = n; found = 0; place = p; start = 0; name_end = 0; body_start = 0; end = 0 }
