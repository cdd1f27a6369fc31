-- Limits.
use Rattle.std.specs.Prelude.{ℕ}

-- 01, What the library is handed: block or field body 65,536 bytes
abbrev pub byte_limit : ℕ
byte_limit = 65536

-- 01, What the library is handed: comments nested 16 deep
abbrev pub depth_limit : ℕ
depth_limit = 16
