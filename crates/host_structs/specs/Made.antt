-- The structs for hosts, made from the structs that the library's calls return.
use Rattle.strip_rules.specs.declared.Stripped.{Stripped}
use Rattle.strip_steps_rules.specs.declared.Marked.{Marked}
use Rattle.report_rules.specs.declared.Reported.{Reported}
use Rattle.write_rules.specs.declared.Written.{Written}
use Rattle.host_structs.specs.declared.MarkFace.{MarkFace}
use Rattle.host_structs.specs.declared.CopyFace.{CopyFace}
use Rattle.host_structs.specs.declared.ReportFace.{ReportFace}
use Rattle.host_structs.specs.declared.WriteFace.{WriteFace}

abbrev pub marked_face : Marked → MarkFace
marked_face m = record { number = m.number; place = m.place; written = m.written }

abbrev pub copied_face : Stripped → CopyFace
copied_face s = record { number = s.number; place = s.place; kept = s.kept; removed = s.removed; fields = s.fields }

abbrev pub reported_face : Reported → ReportFace
reported_face a = record { number = a.number; place = a.place; written = a.written; ignored = a.ignored }

abbrev pub written_face : Written → WriteFace
written_face w = record { number = w.number; place = w.place; written = w.written }
