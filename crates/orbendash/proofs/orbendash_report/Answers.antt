-- `orbendash::orbendash_report` meets its contract: the answer is that of `report::report`, field by field.
use Rattle.host_structs.proofs.Returned.{report-faced}
use borrow.Author.Rules.{rules}
use Rattle.orbendash.proofs.orbendash_report.Goals as goal

pub returns : goal.returns
returns c = record { value = search report-faced; out_after = search rules }
