-- Steps and whole walks at worked examples, computed.
use Prim.Native.Nat.{ℕ}
use mathlib.Core.Path.{◌≡◌, refl}
use mathlib.Core.List.{List, [], ◌∷◌, map}
use lib.ListN.{length}
use Rattle.base_readers.specs.Texts.{bytes}
use Rattle.base_readers.proofs.Cases.{case, Says}
use Rattle.block_rules.proofs.Examples as block
use Rattle.block_laws.proofs.Limits.{short}
use Rattle.block_walk_rules.specs.declared.Step.TheVariants.{Field, Last}
use Rattle.block_walk_rules.specs.Steps.{given, first_from, step_from, past_from}
use Rattle.block_walk_rules.specs.Whole.{steps_from, in_order}

unfoldable pub opened : Unit {0}
unfolding block.opened given first_from steps_from in_order
opened = tt

-- three fields, of which the second has blanks before its colon and the third a further line
abbrev three : List ℕ
three = bytes "A: b\r\nFrom : c\r\nD:e\r\n f\r\n"

-- a sound block, walked from the front: all its fields, then 0
whole : steps_from 9 three 0 ≡ Field 0 1 2 6 ∷ Field 6 10 12 16 ∷ Field 16 17 18 25 ∷ Last 0 0 ∷ []
unfolding opened
whole = refl

-- places: at the front, in a field, at its last byte, where the next one starts, before and in the last one, in its further line, at the end,
-- far past
places :
    map (step_from three) (0 ∷ 1 ∷ 5 ∷ 6 ∷ 7 ∷ 15 ∷ 16 ∷ 17 ∷ 21 ∷ 25 ∷ 26 ∷ 70000 ∷ [])
    ≡ Field 0 1 2 6 ∷ Field 6 10 12 16 ∷ Field 6 10 12 16 ∷ Field 6 10 12 16
    ∷ Field 16 17 18 25 ∷ Field 16 17 18 25 ∷ Field 16 17 18 25
    ∷ Last 0 0 ∷ Last 0 0 ∷ Last 0 0 ∷ Last 0 0 ∷ Last 0 0 ∷ []
unfolding opened
places = refl

-- the further line of a field would be a field by itself; from no place is it given as one
inside : map (step_from (bytes "A:\r\n B: c\r\n")) (0 ∷ 4 ∷ 5 ∷ 6 ∷ []) ≡ Field 0 1 2 11 ∷ Last 0 0 ∷ Last 0 0 ∷ Last 0 0 ∷ []
unfolding opened
inside = refl

-- the reader handed back: past the field that is given, and where it was after the last answer
past : map (past_from three) (0 ∷ 1 ∷ 16 ∷ 17 ∷ 25 ∷ 99 ∷ []) ≡ 6 ∷ 16 ∷ 25 ∷ 17 ∷ 25 ∷ 99 ∷ []
unfolding opened
past = refl

-- 2 and 3: the fields before the line, then the answer. A bad line that starts with a space belongs to the field before it, which is not given
refused :
    Says (λ (b : List ℕ). steps_from 9 b 0)
    (case [] (Last 0 0 ∷ [])
    ∷ case (bytes "A: b\r\nC: d") (Field 0 1 2 6 ∷ Last 2 10 ∷ [])
    ∷ case (bytes "A: b\r\nC: d\re\r\n") (Field 0 1 2 6 ∷ Last 2 10 ∷ [])
    ∷ case (bytes "A: b\r\nC: d\ne\r\n") (Field 0 1 2 6 ∷ Last 2 10 ∷ [])
    ∷ case (bytes "A: b\r\nC: d\r\n e") (Field 0 1 2 6 ∷ Last 2 14 ∷ [])
    ∷ case (bytes "A: b\r\n\r\nC: d\r\n") (Field 0 1 2 6 ∷ Last 3 6 ∷ [])
    ∷ case (bytes " A: b\r\n") (Last 3 0 ∷ [])
    ∷ case (bytes "A: b\r\nC d\r\nE: f\r\n") (Field 0 1 2 6 ∷ Last 3 6 ∷ [])
    ∷ [])
unfolding opened
refused = refl

-- a refusal is the last answer from every place, also from one past its line
later : map (step_from (bytes "A: b\r\nC d\r\nE: f\r\n")) (0 ∷ 1 ∷ 6 ∷ 11 ∷ 40 ∷ []) ≡ Field 0 1 2 6 ∷ Last 3 6 ∷ Last 3 6 ∷ Last 3 6 ∷ Last 3 6 ∷ []
unfolding opened
later = refl

-- 1, from every place and before 2, for every block of 65,537 bytes that starts with an LF. One of 65,536 is walked
long : (rest : List ℕ) (place : ℕ) → length rest ≡ 65536 → step_from (10 ∷ rest) place ≡ Last 1 0
unfolding opened
long rest place e = rw (given, e)

limit : (rest : List ℕ) (place : ℕ) → length rest ≡ 65535 → step_from (10 ∷ rest) place ≡ Last 2 0
unfolding opened
limit rest place e = rw (given, e)

-- 4: 513 fields of four bytes. The 512th is given, the 513th is not; 512 are sound
most : map (step_from (short 513)) (0 ∷ 2044 ∷ 2045 ∷ 2052 ∷ []) ≡ Field 0 1 2 4 ∷ Field 2044 2045 2046 2048 ∷ Last 4 2048 ∷ Last 4 2048 ∷ []
unfolding opened
most = refl

few : map (step_from (short 512)) (2044 ∷ 2045 ∷ []) ≡ Field 2044 2045 2046 2048 ∷ Last 0 0 ∷ []
unfolding opened
few = refl
