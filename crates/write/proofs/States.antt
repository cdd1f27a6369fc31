-- What stands before a line: the code's states are those of the definitions.
use Prim.Native.Nat.{ℕ}
use mathlib.Core.Path.{◌≡◌, refl}
use mathlib.Core.Option as math
use mathlib.Core.Option.{none, some}
use Rattle.std.specs.Prelude.{Option, Some, None}
use Rattle.write_rules.specs.Entries.{Entry, identified, unstated, judged, reasoned, shown}
use Rattle.write_rules.specs.Compose as lines
use Rattle.write_rules.specs.Compose.{front, named, closed, stated, detailed, goes, final}
use Rattle.write.specs.declared.State.{State}
use Rattle.write.specs.declared.State.TheVariants.{Front, Named, Closed, Stated, Detailed}
use Rattle.write.specs.Internal.{next_of, is_final}

-- the code's state
abbrev pub state_of : lines.State → State
state_of front = Front
state_of named = Named
state_of closed = Closed
state_of stated = Stated
state_of detailed = Detailed

abbrev pub state_in : math.Option lines.State → Option State
state_in none = None
state_in (some t) = Some (state_of t)

-- the first byte of a line tells what it is
unfoldable pub letter : Entry → ℕ
letter (identified i) = 105
letter unstated = 110
letter (judged m r) = 109
letter (reasoned t) = 114
letter (shown p) = 112

pub next-is : (s : lines.State) (e : Entry) → next_of (state_of s) (letter e) ≡ state_in (goes s e)
unfolding goes letter
next-is front (identified i) = refl
next-is front unstated = refl
next-is front (judged m r) = refl
next-is front (reasoned t) = refl
next-is front (shown p) = refl
next-is named (identified i) = refl
next-is named unstated = refl
next-is named (judged m r) = refl
next-is named (reasoned t) = refl
next-is named (shown p) = refl
next-is closed (identified i) = refl
next-is closed unstated = refl
next-is closed (judged m r) = refl
next-is closed (reasoned t) = refl
next-is closed (shown p) = refl
next-is stated (identified i) = refl
next-is stated unstated = refl
next-is stated (judged m r) = refl
next-is stated (reasoned t) = refl
next-is stated (shown p) = refl
next-is detailed (identified i) = refl
next-is detailed unstated = refl
next-is detailed (judged m r) = refl
next-is detailed (reasoned t) = refl
next-is detailed (shown p) = refl

pub final-is : (s : lines.State) → is_final (state_of s) ≡ final s
unfolding final
final-is front = refl
final-is named = refl
final-is closed = refl
final-is stated = refl
final-is detailed = refl
