-- The laws of items at a place of a slice, with premises as a need is handed them. Each is a law of `base_readers` at one reader.
use Prim.Native.Nat.{ℕ, ◌+◌, ◌-◌, ◌<◌, ◌^◌}
use mathlib.Core.Path.{◌≡◌}
use mathlib.Core.List.{List}
use lib.ListN.{length, drop}
use mir.Syntax.{w64}
use mir.Val as machine
use Rattle.base_readers.specs.Readers.{many}
use Rattle.base_readers.specs.Places.{Reaches}
use Rattle.base_readers.proofs.Loops.{many-on, many-off, turn-fits, turn-less}
use Rattle.lexis_rules.specs.declared.Class.{Class}
use Rattle.lexis_rules.specs.Pieces.{item}
use Rattle.lexis_laws.proofs.Pieces.{item-fits}

-- ==== items of a class

module _ (c : Class) (s : List ℕ) (at i n : ℕ) where
  pub items-on : Reaches (many (item c) 0) s at i → n ≡ item c (drop i s) → Reaches (many (item c) 0) s at (i + n)
  items-on w q = many-on (item c) (item-fits c) s at i n q w

  pub items-off : Reaches (many (item c) 0) s at i → n ≡ item c (drop i s) → n ≡ 0 → i ≡ at + many (item c) 0 (drop at s)
  items-off w q z = many-off (item c) (item-fits c) s at i n q w z

module _ (c : Class) (s : List ℕ) (i n : ℕ) (q : n ≡ item c (drop i s)) (ne : n ≡ 0 → ⊥) where
  pub item-turn : length s < 2 ^ 64 → machine.Fits w64 (i + n)
  item-turn l = turn-fits (item c) (item-fits c) s i i n q ne l

  pub item-less : length s - (i + n) < length s - i
  item-less = turn-less (item c) (item-fits c) s i i n q ne
