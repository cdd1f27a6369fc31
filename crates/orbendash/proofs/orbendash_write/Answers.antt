-- `orbendash::orbendash_write` meets its contract: the answer is that of `write::write`, field by field.
use Rattle.host_structs.proofs.Returned.{write-faced}
use borrow.Author.Rules.{rules}
use Rattle.orbendash.proofs.orbendash_write.Goals as goal

pub returns : goal.returns
returns c = record { value = search write-faced; out_after = search rules }
