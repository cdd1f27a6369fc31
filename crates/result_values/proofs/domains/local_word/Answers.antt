-- `result_values::domains::local_word` meets its contract: each test is one of the definition.
use Rattle.result_values.proofs.DomainLabels.{local-first, local_second, local-none}
use Rattle.result_values.proofs.domains.local_word.Goals as goal

pub returns-then-b-lt64 : goal.returns-then-b-lt64
returns-then-b-lt64 c = search local-first

pub returns-then-b-lt128 : goal.returns-then-b-lt128
returns-then-b-lt128 c = search local_second

pub returns : goal.returns
returns c = search local-none
