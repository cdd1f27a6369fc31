-- What the theorems on stripping speak of.
use Rattle.std.specs.Prelude.{ℕ, List}
use Rattle.block_rules.specs.Fields.{Field, fields}
use Rattle.ownlist_rules.specs.OwnList.{own_list}
use Rattle.ownlist_rules.specs.Listed.{among}
use Rattle.ownlist_rules.specs.Calls as calls
use Rattle.strip_rules.specs.Strip.{removed_of, kept_of}

-- the fields of a block that stripping by a list keeps, and those that it removes
abbrev pub kept_fields : List ℕ → List ℕ → List Field
kept_fields block list = kept_of (among (own_list list).items) (fields block).items

abbrev pub removed_fields : List ℕ → List ℕ → List Field
removed_fields block list = removed_of (among (own_list list).items) (fields block).items

-- they are all there: the block is within the limit, the list is good, and the walk over the block comes to its end
abbrev pub Known : List ℕ → List ℕ → Type 0
Known = calls.Known
