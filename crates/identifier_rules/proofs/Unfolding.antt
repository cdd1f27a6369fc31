-- Every definition of an identifier and of a header version opened at once: `unfolding opened` lets a proof compute with all of them.
use Rattle.base_readers.specs.Texts.{within, one_of, same, follows}
use Rattle.base_readers.specs.Readers.{run, many, choose, between, passing, lasts}
use Rattle.base_readers.specs.Parsers.{after, ◌>>=◌, give, when, ahead, skipping, text, pass, optional}
use Rattle.lexis_rules.specs.Bytes.{in_class, letter, lower, alike}
use Rattle.lexis_rules.specs.Pieces.{pair, fold, item, comment, leading, decimal}
use Rattle.lexis_rules.specs.Words.{quoted_text, value_text, counted, read_digits}
use Rattle.punycode_rules.proofs.Unfolding as spellings
use Rattle.identifier_rules.specs.Identifier.{identifier_byte, identifier, same_identifier}
use Rattle.identifier_rules.specs.Version.{stated, header_version}
use Rattle.identifier_rules.specs.Terms.{plain_identifier}

unfoldable pub opened : Unit {0}
unfolding within one_of same follows run many choose between passing lasts after ◌>>=◌ give when ahead skipping text pass optional in_class letter
    lower alike pair fold item comment leading decimal quoted_text value_text counted read_digits spellings.opened identifier_byte identifier
    same_identifier stated header_version plain_identifier
opened = tt
