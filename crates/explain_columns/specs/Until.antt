-- Any byte but one.
use Rattle.std.specs.Prelude.{ℕ, Bool, not, eqb}

abbrev pub except : ℕ → ℕ → Bool
except b x = not (eqb x b)
