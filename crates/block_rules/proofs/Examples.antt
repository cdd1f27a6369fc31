-- The fields of a block at worked examples, computed.
use Prim.Native.Nat.{ℕ}
use mathlib.Core.Path.{refl}
use mathlib.Core.List.{List, [], ◌∷◌, map}
use lib.ListN.{length}
use Rattle.base_readers.specs.Texts.{bytes, within, one_of, same}
use Rattle.base_readers.specs.Readers.{run, many}
use Rattle.base_readers.specs.Walks.{item, refused, walk}
use Rattle.base_readers.proofs.Cases.{case, Says}
use Rattle.lexis_rules.specs.Bytes.{in_class, letter, lower, alike}
use Rattle.block_rules.specs.Fields.{Field, in_line, line, name_colon, folded, extent, named, field_of, field_at, fields, bytes_of, select}

-- every definition opened at once
unfoldable pub opened : Unit {0}
unfolding within one_of same run many walk in_class letter lower alike in_line line name_colon folded extent named field_of field_at bytes_of select
opened = tt

-- the answer, its place, and of each field the length of its name, where its body starts, and its length
pub record Told : Type 0 where
  pub number : ℕ
  pub place : ℕ
  pub of : List (List ℕ)

abbrev pub told : List ℕ → Told
told xs = record { number = (fields xs).number; place = (fields xs).place; of = map (λ (f : Field). f.name ∷ f.body ∷ length f.bytes ∷ []) (fields xs).items }

abbrev pub says : ℕ → ℕ → List (List ℕ) → Told
says n p l = record { number = n; place = p; of = l }

-- 01, Block and list: blanks before the colon, further lines, a line of blanks alone; an empty block is accepted
blocks :
    Says told
    (case [] (says 0 0 [])
    ∷ case (bytes "A: b\r\n") (says 0 0 ((1 ∷ 2 ∷ 6 ∷ []) ∷ []))
    ∷ case (bytes "From : a\r\nB:\r\n") (says 0 0 ((4 ∷ 6 ∷ 10 ∷ []) ∷ (1 ∷ 2 ∷ 4 ∷ []) ∷ []))
    ∷ case (bytes "A: b\r\n c\r\nD:e\r\n") (says 0 0 ((1 ∷ 2 ∷ 10 ∷ []) ∷ (1 ∷ 2 ∷ 5 ∷ []) ∷ []))
    ∷ case (bytes "A: b\r\n \r\n") (says 0 0 ((1 ∷ 2 ∷ 9 ∷ []) ∷ []))
    ∷ [])
unfolding opened
blocks = refl

-- 01, Answer numbers: 2: a CR without LF, an LF without CR, a last line without CRLF; before 3 on a line
ends :
    Says told
    (case (bytes "A: b\rc\r\n") (says 2 4 [])
    ∷ case (bytes "A: b\nc\r\n") (says 2 4 [])
    ∷ case (bytes "A: b\r\r\n") (says 2 4 [])
    ∷ case (bytes "A: b") (says 2 4 [])
    ∷ case (bytes "A: b\r") (says 2 4 [])
    ∷ case (bytes "A: b\r\n c") (says 2 8 [])
    ∷ case (bytes "A: b\r\n c\rd\r\n") (says 2 8 [])
    ∷ case (bytes "A: b\r\n c\r\n\td\n") (says 2 12 [])
    ∷ case (bytes "A:\r\nB: c\nD:\r\n") (says 2 8 ((1 ∷ 2 ∷ 4 ∷ []) ∷ []))
    ∷ case (bytes "A:\r\n\n") (says 2 4 ((1 ∷ 2 ∷ 4 ∷ []) ∷ []))
    ∷ case (bytes "b") (says 2 1 [])
    ∷ case (bytes "\t\r") (says 2 1 [])
    ∷ [])
unfolding opened
ends = refl

-- 01, Answer numbers: 3: an empty line, a first line that starts with space or tab, a field without name or colon
names :
    Says told
    (case (bytes "\r\n") (says 3 0 [])
    ∷ case (bytes " A: b\r\n") (says 3 0 [])
    ∷ case (bytes "A: b\r\n\r\n") (says 3 6 ((1 ∷ 2 ∷ 6 ∷ []) ∷ []))
    ∷ case (bytes ": b\r\n") (says 3 0 [])
    ∷ case (bytes "A b: c\r\n") (says 3 0 [])
    ∷ case (bytes "A\r\n : b\r\n") (says 3 0 [])
    ∷ case (bytes "A:\r\nB c\r\n") (says 3 4 ((1 ∷ 2 ∷ 4 ∷ []) ∷ []))
    ∷ case (bytes "\tA:\r\n") (says 3 0 [])
    ∷ case (bytes "A:\r\n\r\n b") (says 3 4 ((1 ∷ 2 ∷ 4 ∷ []) ∷ []))
    ∷ [])
unfolding opened
names = refl

-- 01, Answer numbers: 4: the 513th field, at the place 7; after 2 and 3 on a line. The 512th is a field
last : Says (field_at 7 511) (case (bytes "A:\r\n") (item (record { bytes = bytes "A:\r\n"; name = 1; body = 2 }) 4) ∷ [])
unfolding opened
last = refl

many-fields :
    Says (field_at 7 512)
    (case (bytes "A:\r\n") (refused 4 7)
    ∷ case (bytes "A:\r\n b") (refused 4 7)
    ∷ case (bytes "A\r\n") (refused 3 7)
    ∷ case (bytes "A:") (refused 2 9)
    ∷ [])
unfolding opened
many-fields = refl
