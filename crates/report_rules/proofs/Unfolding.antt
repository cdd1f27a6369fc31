-- Every definition of a whole body and its report opened at once: `unfolding opened` lets a proof compute with all of them.
use Rattle.lexis_rules.specs.Words.{read_digits}
use Rattle.identifier_rules.specs.Identifier.{identifier_byte, identifier}
use Rattle.identifier_rules.specs.Version.{stated, header_version}
use Rattle.result_rules.proofs.Unfolding as resinfo
use Rattle.report_rules.specs.Body as body
use Rattle.report_rules.specs.Report.{plain, escape, line, id_line, version_line, none_line, method_line, reason_line, letter_of, property_line, property_lines, result_lines, lines, ignored_of, refusal, fitted, answer, report}
use Rattle.report_rules.specs.Newer.{naming}
use Rattle.report_rules.specs.Beside.{sized, extent, places_around, insertion_places, insert_at}

unfoldable pub opened : Unit {0}
unfolding resinfo.opened read_digits identifier_byte identifier stated header_version body.head body.resinfo body.resinfos body.word_none body.payload body.headed body.reading
    plain escape line id_line version_line none_line method_line reason_line letter_of property_line property_lines result_lines lines ignored_of
    refusal fitted answer report naming sized extent places_around insertion_places insert_at
opened = tt
