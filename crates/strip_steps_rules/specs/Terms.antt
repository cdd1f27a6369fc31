-- What the theorems on stripping in two steps speak of.
use Rattle.std.specs.Prelude.{ℕ, List}
use Rattle.block_rules.specs.Fields.{fields}
use Rattle.ownlist_rules.specs.OwnList.{own_list}
use Rattle.ownlist_rules.specs.Listed.{among}
use Rattle.strip_steps_rules.specs.Steps.{marks_of}

-- the marks of a block by a list: those of all its fields, where nothing is refused (`Known`)
abbrev pub marks_for : List ℕ → List ℕ → List ℕ
marks_for block list = marks_of (among (own_list list).items) (fields block).items
