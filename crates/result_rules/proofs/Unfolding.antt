-- Every definition up to a result opened at once: `unfolding opened` lets a proof compute with all of them.
use Rattle.base_readers.specs.Texts.{starts, follows}
use Rattle.base_readers.specs.Parsers.{after, ◌>>=◌, give, when, ahead, end, byte, taken, skipping, text, pass, branch, optional, cons, several}
use Rattle.lexis_rules.specs.Words.{read_value, read_keyword, read_word, read_number}
use Rattle.lexis_rules.proofs.Examples as lexis
use Rattle.result_rules.specs.Results.{separator, or_one, read_quoted, alphanumeric, in_local_part, in_domain, single_dots, is_local_part, labels, is_domain, addressed, address, quoted_mailbox, quoted_value, token_value, at_behind, property_value, method_version, methodspec, reason, property, result}
use Rattle.result_rules.specs.Table.{listed, tabled, known_version, known_method, known_types, understood}

unfoldable pub opened : Unit {0}
unfolding lexis.opened starts follows after ◌>>=◌ give when ahead end byte taken skipping text pass branch optional cons several
    read_value read_keyword read_word read_number separator or_one read_quoted alphanumeric in_local_part in_domain single_dots is_local_part labels
    is_domain addressed address quoted_mailbox quoted_value token_value at_behind property_value method_version methodspec reason property result
    listed tabled known_version known_method known_types understood
opened = tt
