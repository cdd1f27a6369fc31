-- The entries say of each byte what the class's rule says.
use Rattle.lexis_table.proofs.Entries.{class-run}
use Rattle.lexis_table.proofs.run_end.Goals as goal

pub returns : goal.returns
returns c = class-run _ _ _ _ _ c.digit.ensures c.run_end.ensures
