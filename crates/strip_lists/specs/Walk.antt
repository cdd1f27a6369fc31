-- What both calls of stripping have in common: 1, 5, then the walk over the fields of a block, up to its 2 to 4. No public contract but this crate's cites these.
use Rattle.std.specs.Prelude.{ℕ, Bool, List}
use Rattle.base_readers.specs.Walks.{Walked, ended}
use Rattle.block_rules.specs.Fields.{Field, fields}
use Rattle.ownlist_rules.specs.OwnList.{own_list}
use Rattle.ownlist_rules.specs.Listed.{among}
use Rattle.ownlist_rules.specs.Calls.{by_list}

-- an identifier is listed when it equals a list entry
abbrev pub listed_by : List ℕ → List ℕ → Bool
listed_by list = among (own_list list).items

-- 01, Answer numbers: 1, 5, then 2 to 4. The fields of a block, up to the refusal; none where it is too long or the list is bad
unfoldable pub fields_by : List ℕ → List ℕ → Walked Field
fields_by block list = by_list ended block list (λ own. fields block)
