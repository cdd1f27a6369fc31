-- Every definition of the report of a block opened at once: `unfolding opened` lets a proof compute with all of them.
use Rattle.block_rules.proofs.Examples as block
use Rattle.ownlist_rules.proofs.Unfolding as authserv
use Rattle.report_rules.proofs.Unfolding as body
use Rattle.text_decimals_rules.specs.Decimals.{digits, decimal}
use Rattle.blockreport_rules.specs.FieldLines.{word_of, field_line, identifier_line}
use Rattle.blockreport_rules.specs.BlockReport.{detail_line, body_lines, addition, additions, fitted, report_fields, block_report}

unfoldable pub opened : Unit {0}
unfolding block.opened authserv.opened body.opened digits decimal word_of field_line identifier_line detail_line body_lines addition additions fitted report_fields block_report
opened = tt
