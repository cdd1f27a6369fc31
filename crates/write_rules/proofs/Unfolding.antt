-- Every definition of our own field opened at once: `unfolding opened` lets a proof compute with all of them.
use Rattle.base_readers.specs.Parsers.{either}
use Rattle.report_rules.proofs.Unfolding as body
use Rattle.write_rules.specs.Entries as entries
use Rattle.write_rules.specs.Bodies as bodies
use Rattle.write_rules.specs.Compose.{goes, final, steps, step, walked, sized, answer, compose}
use Rattle.write_rules.specs.Promise.{lines_with_feeds}

unfoldable pub opened : Unit {0}
unfolding body.opened either entries.line_of entries.each entries.whole entries.quotable entries.is_text entries.is_keyword entries.local_of
    entries.domain_of entries.stands entries.single entries.literal entries.is_hex entries.hex_value entries.hex_or entries.escaped entries.coded entries.kind_of
    entries.kind_letter entries.id_entry entries.none_entry entries.method_entry entries.reason_entry entries.allowed entries.property_entry entries.entry
    bodies.guarded bodies.quote bodies.bare_or bodies.is_bare_local bodies.pvalue bodies.piece bodies.body_of goes final steps step walked sized answer
    compose lines_with_feeds
opened = tt
