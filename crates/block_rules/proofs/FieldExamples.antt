-- Lines, names and bodies at worked examples, and the bytes that they may hold, computed.
use Prim.Native.Nat.{ℕ}
use mathlib.Core.Path.{◌≡◌, refl}
use mathlib.Core.Bool.{true, false}
use mathlib.Core.List.{List, [], ◌∷◌, ◌++◌, map}
use lib.Dec.{eqb}
use Rattle.base_readers.specs.Texts.{bytes}
use Rattle.base_readers.specs.Walks.{item, refused}
use Rattle.base_readers.proofs.Cases.{case, Says}
use Rattle.lexis_rules.proofs.ClassExamples.{range, members}
use Rattle.block_rules.specs.Fields.{Field, in_line, line, name_colon, extent, name_of, body_of, named, field_limit, field_at, fields, bytes_of, select}
use Rattle.block_rules.proofs.Examples.{opened}

-- ==== bytes

-- 01, Answer numbers: a line ends at its first CR (13) or LF (10)
line_bytes : members in_line ≡ range 0 9 ++ range 11 12 ++ range 14 255
unfolding opened
line_bytes = refl

-- 01, Block and list: a name is one or more bytes 33 to 126 except colon (58)
first_bytes : members (λ b. eqb 2 (name_colon (b ∷ bytes ":"))) ≡ range 33 57 ++ range 59 126
unfolding opened
first_bytes = refl

-- spaces or tabs may stand before the colon
later_bytes : members (λ b. eqb 3 (name_colon (97 ∷ b ∷ bytes ":"))) ≡ bytes "\t " ++ range 33 57 ++ range 59 126
unfolding opened
later_bytes = refl

-- only a colon ends a name
name_ends : members (λ b. eqb 2 (name_colon (97 ∷ b ∷ []))) ≡ bytes ":"
unfolding opened
name_ends = refl

-- the lines after it that start with space or tab
fold_bytes : members (λ b. eqb 7 (extent (bytes "A:\r\n" ++ (b ∷ bytes "\r\n")))) ≡ bytes "\t "
unfolding opened
fold_bytes = refl

-- ==== lines and names

-- a line with its CRLF
lines :
    Says line
    (case (bytes "\r\n") 2
    ∷ case (bytes "ab\r\nc\r\n") 4
    ∷ case (bytes " a: \r\n") 6
    ∷ case (bytes "ab") 0
    ∷ case (bytes "ab\r") 0
    ∷ case (bytes "ab\rc\r\n") 0
    ∷ case (bytes "ab\n") 0
    ∷ case (bytes "ab\n\r\n") 0
    ∷ case [] 0
    ∷ [])
unfolding opened
lines = refl

-- a name with what stands before the colon, and the colon
labels :
    Says name_colon
    (case (bytes "A:b") 2
    ∷ case (bytes "A-b \t :c") 7
    ∷ case (bytes "A::b") 2
    ∷ case (bytes ":b") 0
    ∷ case (bytes " A:b") 0
    ∷ case (bytes "A b:c") 0
    ∷ case (bytes "A\r\n :c") 0
    ∷ case (bytes "A;") 0
    ∷ case (bytes "A ") 0
    ∷ case (bytes "é:") 0
    ∷ case [] 0
    ∷ [])
unfolding opened
labels = refl

-- ==== names and bodies

abbrev parts : List ℕ → List (List (List ℕ))
parts xs = map (λ (f : Field). name_of f ∷ body_of f ∷ []) (fields xs).items

-- the body runs from after the colon to before the last CRLF
bodies :
    Says parts
    (case (bytes "From : a\r\nB:\r\n") ((bytes "From" ∷ bytes " a" ∷ []) ∷ (bytes "B" ∷ [] ∷ []) ∷ [])
    ∷ case (bytes "A:b:\r\n c\r\n\t\r\nD:e \r\n") ((bytes "A" ∷ bytes "b:\r\n c\r\n\t" ∷ []) ∷ (bytes "D" ∷ bytes "e " ∷ []) ∷ [])
    ∷ [])
unfolding opened
bodies = refl

-- names compare without regard to ASCII case
nameds :
    Says (λ xs. map (named (bytes "Arc-Seal")) (fields xs).items)
    (case (bytes "ARC-SEAL:a\r\narc-seal \t:b\r\nARC-Seals:c\r\nARC-Sea:d\r\nARC_Seal:e\r\n") (true ∷ true ∷ false ∷ false ∷ false ∷ []) ∷ [])
unfolding opened
nameds = refl

-- the fields of a name, in order, and their bytes one after the other
picked :
    Says (λ xs. bytes_of (select (named (bytes "a")) (fields xs).items))
    (case (bytes "A:b\r\nB:c\r\na:d\r\n e\r\n") (bytes "A:b\r\na:d\r\n e\r\n") ∷ case (bytes "B:c\r\n") [] ∷ case [] [] ∷ [])
unfolding opened
picked = refl

-- ==== the limit

-- 01, What the library is handed: 512 fields
limits : field_limit ≡ 512
limits = refl

-- after 511 fields one more is read, after 512 none
counted :
    map (λ (n : ℕ). field_at 7 n (bytes "A:\r\n")) (511 ∷ 512 ∷ 513 ∷ [])
    ≡ item (record { bytes = bytes "A:\r\n"; name = 1; body = 2 }) 4 ∷ refused 4 7 ∷ refused 4 7 ∷ []
unfolding opened
counted = refl
