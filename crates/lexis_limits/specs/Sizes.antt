-- The size of a block or a field body.
use Rattle.std.specs.Prelude.{ℕ}
use Rattle.lexis_limits.specs.declared.Size.{Size}

-- so many bytes
abbrev pub size_of : ℕ → Size
size_of n = record { bytes = n }
