-- What the code's answer tells of a tag list.
use Rattle.std.specs.Prelude.{ℕ, Option, Some, None}
use Rattle.std.proofs.Math.Option as math
use Rattle.std.proofs.Math.Option.{none, some}

-- what an answer tells
abbrev pub listed_said : Option ℕ → math.Option ℕ
listed_said (Some c) = some c
listed_said None = none
