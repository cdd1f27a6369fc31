-- What the code finds by places is what the grammar's parser yields there, with its digits.
use Prim.Native.Nat.{ℕ}
use mathlib.Core.Path.{◌≡◌}
use mathlib.Core.List.{List}
use Rattle.base_readers.specs.Parsers.{optional}
use Rattle.base_readers.specs.Places.{from}
use Rattle.identifier_rules.specs.Version.{stated}
use Rattle.identifier.specs.VersionAnswers.{version_at, version_got}
use Rattle.identifier.proofs.Versions as versions

-- `version_at`: the header version behind an identifier
pub version-got : (s : List ℕ) (at : ℕ) → version_got s at (version_at s at) ≡ from (optional stated) s at
version-got = versions.version-got
