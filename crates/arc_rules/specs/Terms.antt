-- What the theorems on judging speak of.
use Rattle.std.specs.Prelude.{ℕ, ◌≤◌, ◌≡◌, false, List, length}
use Rattle.lexis_rules.specs.Limits.{byte_limit}
use Rattle.block_rules.specs.Fields.{fields}
use Rattle.arc_rules.specs.Chain.{built, outcome, valid_for}

-- the fields of a block are all there: it is within the limit, and its walk comes to the end
abbrev pub Known : List ℕ → Type 0
Known block = (length block ≤ byte_limit) × ((fields block).number ≡ 0)

-- the block is within the limit, its walk has no refusal, its chain is built, and the verdicts aren't one byte from 0 to 3 for each instance
pub record BadVerdicts (block verdicts : List ℕ) : Type 0 where
  pub small : length block ≤ byte_limit
  pub sound : (fields block).number ≡ 0
  pub instances : ℕ
  pub chain : outcome (fields block).items ≡ built instances
  pub bad : valid_for instances verdicts ≡ false
