-- What private functions say of their answers. No public contract cites these.
use Rattle.std.specs.Prelude.{ℕ, ◌+◌, ◌≡◌, Bool, true, false, List, drop}
use Rattle.lexis_rules.specs.Bytes.{alike}

-- ==== a comparison of several bytes at once

-- what comparing n bytes of two texts from a place on tells: where none differs the texts are as alike from there on as behind those
-- bytes, and where one does they are not
pub record Compared (a b : List ℕ) (at n : ℕ) (differ : Bool) : Type 0 where
  pub on : differ ≡ false → alike (drop (at + n) a) (drop (at + n) b) ≡ alike (drop at a) (drop at b)
  pub off : differ ≡ true → alike (drop at a) (drop at b) ≡ false
