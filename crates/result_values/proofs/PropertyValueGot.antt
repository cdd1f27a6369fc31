-- What the code finds by places is what the grammar's parser of property values yields there: kind, text and place.
use Prim.Native.Nat.{ℕ}
use mathlib.Core.Path.{◌≡◌}
use mathlib.Core.List.{List}
use Rattle.base_readers.specs.Places.{from}
use Rattle.result_rules.specs.Results.{property_value}
use Rattle.result_values.specs.Values.{value_at, value_got}
use Rattle.result_values.proofs.ValueGot as values

-- `value_at`
pub value-got : (s : List ℕ) (at : ℕ) → value_got s (value_at s at) ≡ from property_value s at
value-got = values.value-got
