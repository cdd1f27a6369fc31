-- Parts of a list by places.
use Rattle.std.specs.Prelude.{ℕ, ◌-◌, List, take, drop}

-- the bytes from a up to e, as far as they stand inside
abbrev pub span : List ℕ → ℕ → ℕ → List ℕ
span s a e = take (e - a) (drop a s)
