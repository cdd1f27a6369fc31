-- What the theorems on the report of a block speak of.
use Rattle.std.specs.Prelude.{ℕ, List}
use Rattle.block_rules.specs.Fields.{fields}
use Rattle.ownlist_rules.specs.OwnList.{own_list}
use Rattle.ownlist_rules.specs.Listed.{own_of}
use Rattle.ownlist_rules.specs.Calls as calls
use Rattle.blockreport_rules.specs.declared.Detail.{Detail}
use Rattle.blockreport_rules.specs.BlockReport.{additions}

-- what the fields of a block add, by a list
abbrev pub block_text : Detail → List ℕ → List ℕ → List ℕ
block_text detail block list = additions detail (own_of (own_list list).items) 1 (fields block).items

-- it is known: the block is within the limit, the list is good, and the walk over the block comes to its end
abbrev pub Known : List ℕ → List ℕ → Type 0
Known = calls.Known
