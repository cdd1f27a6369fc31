-- What the answer says.
use Rattle.std.specs.Prelude.{ℕ, zero, suc, ◌+◌, ◌-◌, List, take, drop}
use Rattle.std.proofs.Math.Option.{Option, none, some}
use Rattle.base_readers.specs.Parsers.{Got, got}
use Rattle.lexis_rules.specs.Pieces.{space, digits, leading}
use Rattle.lexis_rules.specs.Numbers.{number_of}
use Rattle.identifier.specs.declared.version.Version.{Version}
use Rattle.identifier.specs.declared.version.Version.TheVariants.{Absent, Stated}

-- the digits that count, the place after them, and the number
unfoldable pub version_from : List ℕ → ℕ → Version
version_from s a =
    elim (digits (drop a s)) [
      | zero ↦ Absent
      | suc n ↦ Stated (a + leading (drop a s)) (a + suc n) (number_of (drop a s))
    ]

unfoldable pub version_at : List ℕ → ℕ → Version
version_at s at = elim (space (drop at s)) [ zero ↦ Absent | suc n ↦ version_from s (at + suc n) ]

-- the digits that count of a version that is stated, and the place after it; nothing is taken where it is absent
abbrev pub version_got : List ℕ → ℕ → Version → Got (Option (List ℕ))
version_got s at (Stated a e v) = got (some (take (e - a) (drop a s))) e
version_got s at Absent = got none at
