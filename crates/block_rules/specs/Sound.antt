-- What it is for a field to stand by itself.
use Rattle.std.specs.Prelude.{ℕ, ◌+◌, ◌≤◌, ◌<◌, ◌≡◌, false, List, [], ◌∷◌, ◌++◌, length, get_or}
use Rattle.base_readers.specs.Walks.{item}
use Rattle.lexis_rules.specs.declared.Class.TheVariants.{Blank}
use Rattle.lexis_rules.specs.Bytes.{in_class}
use Rattle.block_rules.specs.Fields.{Field, field_limit, field_at}

-- a field that is read from its own bytes, wherever it stands, before whatever doesn't start with space or tab
pub record Sound (f : Field) : Type 0 where
  pub some : 0 < length f.bytes
  pub first : in_class Blank (get_or f.bytes 0 0) ≡ false
  pub steady : (at count : ℕ) (t : List ℕ) → count < field_limit → in_class Blank (get_or t 0 0) ≡ false
      → field_at at count (f.bytes ++ t) ≡ item f (length f.bytes)
  pub within : f.body + 2 ≤ length f.bytes
  pub named : f.name < f.body
  pub one : 0 < f.name

pub data AllSound : List Field → Type 0 where
  none : AllSound []
  more : {f : Field} {fs : List Field} → Sound f → AllSound fs → AllSound (f ∷ fs)
