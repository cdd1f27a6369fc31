-- What the code finds by places is what the grammar's parser yields there, with its text.
use Prim.Native.Nat.{ℕ}
use mathlib.Core.Path.{◌≡◌}
use mathlib.Core.List.{List}
use Rattle.base_readers.specs.Places.{from}
use Rattle.identifier_rules.specs.Identifier.{identifier}
use Rattle.identifier.specs.Answers.{identifier_at, identifier_got}
use Rattle.identifier.proofs.Identifiers as identifiers

-- `identify`: the identifier
pub identifier-got : (s : List ℕ) → identifier_got s (identifier_at s) ≡ from identifier s 0
identifier-got = identifiers.identifier-got
