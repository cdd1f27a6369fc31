-- What the theorems on whole walks speak of, at worked examples: fields in order, fields that start before a place, and the first one that
-- starts there or later, with what each is not.
use Prim.Native.Nat.{◌≤◌, ◌<◌}
use native.Mathlib.Omega.{arith}
use mathlib.Core.Path.{◌≡◌, refl}
use mathlib.Core.List.{[], ◌∷◌, map}
use lib.Dec.{lit≤, lit<}
use Rattle.base_readers.specs.Texts.{bytes}
use Rattle.block_rules.specs.Fields.{Field, bytes_of}
use Rattle.block_walk_rules.specs.declared.Step.TheVariants as step
use Rattle.block_walk_rules.specs.Steps.{last_of, placed, past_of}
use Rattle.block_walk_rules.specs.Whole.{in_order, AllBefore, First, found, none}

-- two fields, of seven and of five bytes
abbrev a : Field
a = record { bytes = bytes "A : b\r\n"; name = 1; body = 3 }

abbrev b : Field
b = record { bytes = bytes "Bc:\r\n"; name = 2; body = 3 }

-- the last answer has number and place; a field its start, the end of its name, the start of its body, and its end
answers : last_of (record { items = a ∷ []; number = 3; place = 8 }) ∷ placed 10 a ∷ placed 7 b ∷ [] ≡ step.Last 3 8 ∷ step.Field 10 11 13 17 ∷ step.Field 7 9 10 12 ∷ []
answers = refl

-- the place past a field that was given; after the last answer there is no further one
pasts : map (past_of 5) (step.Field 6 7 8 9 ∷ step.Last 2 4 ∷ []) ≡ 9 ∷ 5 ∷ []
pasts = refl

-- fields one after the other, and then the last answer
orders : in_order 0 (a ∷ b ∷ []) (step.Last 0 0) ≡ step.Field 0 1 3 7 ∷ step.Field 7 9 10 12 ∷ step.Last 0 0 ∷ []
unfolding in_order
orders = refl

-- both start before 8: at 0 and at 7. The second doesn't start before 7, and nothing starts before 0
before-eight : AllBefore 8 0 (a ∷ b ∷ [])
before-eight = (lit< tt, (lit< tt, tt))

not-before-seven : AllBefore 7 0 (a ∷ b ∷ []) → ⊥
not-before-seven h = let l : 7 < 7 = h.1.0 in omega arith

not-before-zero : AllBefore 0 0 (a ∷ []) → ⊥
not-before-zero h = let l : 0 < 0 = h.0 in omega arith

-- 01, What the library is handed: the first of these fields that starts there or later: at 7 for the places 1 to 7
first-from-one : First 1 0 (a ∷ b ∷ []) (step.Last 0 0) (step.Field 7 9 10 12)
unfolding bytes_of
first-from-one =
    let there : 1 ≤ 7 = lit≤ tt in
    let behind : (0 < 1) × Unit {0} = (lit< tt, tt) in
    found (a ∷ []) [] b refl there behind

first-from-seven : First 7 0 (a ∷ b ∷ []) (step.Last 0 0) (step.Field 7 9 10 12)
unfolding bytes_of
first-from-seven =
    let there : 7 ≤ 7 = lit≤ tt in
    let behind : (0 < 7) × Unit {0} = (lit< tt, tt) in
    found (a ∷ []) [] b refl there behind

first-from-zero : First 0 0 (a ∷ b ∷ []) (step.Last 0 0) (step.Field 0 1 3 7)
unfolding bytes_of
first-from-zero =
    let there : 0 ≤ 0 = lit≤ tt in
    found [] (b ∷ []) a refl there tt

-- or else that last answer
none-from-eight : First 8 0 (a ∷ b ∷ []) (step.Last 3 9) (step.Last 3 9)
none-from-eight =
    let behind : (0 < 8) × ((7 < 8) × Unit {0}) = (lit< tt, (lit< tt, tt)) in
    none behind
