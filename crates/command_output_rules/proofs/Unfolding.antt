-- Every definition of the outputs opened at once: `unfolding opened` lets a proof compute with all of them.
use Rattle.text_decimals_rules.specs.Decimals.{digits, decimal}
use Rattle.block_rules.specs.Fields.{select, bytes_of}
use Rattle.ownlist_rules.specs.Listed.{among}
use Rattle.ownlist_rules.proofs.Unfolding as ownlists
use Rattle.strip_rules.specs.Strip.{ours_or_unreadable, is_removed, fitted, strip_fields, strip}
use Rattle.blockreport_rules.proofs.Unfolding as reports
use Rattle.write_rules.proofs.Unfolding as bodies
use Rattle.arc_rules.proofs.Unfolding as chains
use Rattle.explain_rules.proofs.Unfolding as sayings
use Rattle.judgement_rules.specs.Judgement.{verdict_of, outcome_word, reason_letter, status_word, oldest_word, columns_line, reason_words, field_words, sets_words, oldest_words, status_words, chain_words, judgement}
use Rattle.command_list_rules.specs.Notices.{marked, starless, notice_of, words, noticed_line, compared_line, line_of, lines_from, notices, notes, notes_of, check_text}
use Rattle.command_sets.specs.Sets.{sets_of}
use Rattle.command_output_rules.specs.Outputs.{made_of, said_of, worded, stripped_block, reported_block, explained_block, checked_list, judged_block, written_body, ending_after}

unfoldable pub opened : Unit {0}
unfolding digits decimal select bytes_of among ownlists.opened ours_or_unreadable is_removed fitted strip_fields strip reports.opened bodies.opened chains.opened sayings.opened
    verdict_of outcome_word reason_letter status_word oldest_word columns_line reason_words field_words sets_words oldest_words status_words chain_words judgement
    marked starless notice_of words noticed_line compared_line line_of lines_from notices notes notes_of check_text sets_of
    made_of said_of worded stripped_block reported_block explained_block checked_list judged_block written_body ending_after
opened = tt
