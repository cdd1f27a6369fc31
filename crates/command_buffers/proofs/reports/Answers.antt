-- So many of one byte: their count by the law on it, without counting them.
use Rattle.std.proofs.Common.{ℕ, refl, sym}
use Rattle.std.proofs.lemmas.List.{length-replicate}
use Rattle.command_buffers.proofs.reports.Goals as goal

pub returns-clause-value : goal.returns-clause-value
returns-clause-value c = refl

pub returns-clause-value_2 : goal.returns-clause-value_2
returns-clause-value_2 c = sym (length-replicate {0} {A = ℕ} 229377 0)
