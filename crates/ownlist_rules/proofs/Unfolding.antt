-- Every definition of our own list opened at once, with those of identifiers: `unfolding opened` lets a proof compute with all of them.
use Rattle.base_readers.specs.Walks.{walk}
use Rattle.base_readers.specs.Lines.{lined, lines_of}
use Rattle.identifier_rules.proofs.Unfolding as identifiers
use Rattle.ownlist_rules.specs.Utf8.{lead, second, further, sequence}
use Rattle.ownlist_rules.specs.OwnList.{entry_item, entry, entry_at}
use Rattle.ownlist_rules.specs.Listed.{among}
use Rattle.ownlist_rules.specs.Spelled.{among_lines, among_spelled}
use Rattle.ownlist_rules.specs.Terms.{entry_point}

unfoldable pub opened : Unit {0}
unfolding identifiers.opened walk lined lines_of lead second further sequence entry_item entry entry_at among among_lines among_spelled entry_point
opened = tt
