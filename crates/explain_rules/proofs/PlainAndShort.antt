-- What holds of what is said of any report, of any bytes.
use Prim.Native.Nat.{ℕ, ◌+◌, ◌*◌, ◌≤◌, ◌<◌}
use native.Mathlib.Omega.{arith}
use mathlib.Core.Path.{◌≡◌, refl}
use mathlib.Core.Logic.{◌⊎◌}
use mathlib.Core.List.{List, [], ◌∷◌}
use lib.ListN.{length, get_or}
use Rattle.base_readers.specs.Texts.{within}
use Rattle.base_readers.specs.Lines.{lines_of}
use Rattle.explain_rules.specs.Explained.{explained}
use Rattle.explain_rules.specs.Promise.{plain, weighed, added, field_lines, head_lines}
use Rattle.explain_rules.proofs.Terminal.{AllPlain, all-at, plain-when, lines-plain}
use Rattle.explain_rules.proofs.Lengths.{weighed-most, lines_long, added-most, fields-few, heads-few}

-- ==== no control byte but LF, and no byte from 127 up, reaches the terminal

explained-all : (l : List ℕ) → AllPlain (explained l)
unfolding explained plain within
explained-all [] = record { holds = refl }
explained-all (x ∷ xs) = lines-plain (lines_of (x ∷ xs))

pub explained-plain : (l : List ℕ) (k : ℕ) → k < length (explained l) → (get_or (explained l) k 0 ≡ 10) ⊎ ((32 ≤ get_or (explained l) k 0) × (get_or (explained l) k 0 ≤ 126))
explained-plain l k h = plain-when (get_or (explained l) k 0) (all-at (explained l) (explained-all l).holds k h)

-- ==== how long it is: what was told, and for each line our own words

pub explained-added : (l : List ℕ) → length (explained l) ≤ 42 + weighed l + added (lines_of l)
unfolding explained
explained-added [] = omega arith
explained-added (x ∷ xs) = omega (arith, lines_long (x ∷ xs))

-- 13 bytes for each line, 18 more for one that stands in front of results, and 144 more for that of a field
pub explained-long : (l : List ℕ) → length (explained l) ≤ 42 + weighed l + 13 * length (lines_of l) + 18 * head_lines (lines_of l) + 144 * field_lines (lines_of l)
explained-long l = omega (arith, explained-added l, added-most (lines_of l))

-- of any bytes: no byte weighs more than four
pub explained-lines : (l : List ℕ) → length (explained l) ≤ 42 + 4 * length l + 175 * length (lines_of l)
explained-lines l = omega (arith, explained-long l, weighed-most l, fields-few (lines_of l), heads-few (lines_of l))
