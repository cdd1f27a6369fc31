-- Document 01, "Identifier and header version": the header version.
use Rattle.std.specs.Prelude.{ℕ, List}
use Rattle.std.proofs.Math.Option.{Option, none, some}
use Rattle.base_readers.specs.Texts.{bytes}
use Rattle.base_readers.specs.Parsers.{Parser, ◌>>◌}
use Rattle.lexis_rules.specs.Words.{gap, read_digits}

-- After space that isn't empty, a digit run is the header version
unfoldable pub stated : Parser (List ℕ)
stated = do
  gap
  read_digits

-- Absent means 1: the digits of the header version
unfoldable pub header_version : Option (List ℕ) → List ℕ
header_version none = bytes "1"
header_version (some v) = v
