-- Document 01, "Block and list": the fields of a block, and answers 2 to 4.
use Prim.Native.Char.{code}
use Rattle.std.specs.Prelude.{ℕ, zero, suc, ◌+◌, ◌-◌, Bool, true, false, not, cond, ◌&&◌, List, [], ◌∷◌, ◌++◌, leb, eqb, length, get_or, take, drop}
use Rattle.base_readers.specs.Texts.{bytes, one_of}
use Rattle.base_readers.specs.Readers.{Reader, run, many}
use Rattle.base_readers.specs.Walks.{Met, item, refused, Walked, walk}
use Rattle.lexis_rules.specs.declared.Class.TheVariants.{Blank, Name}
use Rattle.lexis_rules.specs.Bytes.{in_class, alike}

-- neither CR nor LF
unfoldable pub in_line : ℕ → Bool
in_line x = not (one_of (bytes "\r\n") x)

-- 01, Answer numbers: a line ends at its first CR or LF: the bytes before that
abbrev pub line_text : Reader
line_text = run in_line

-- which must be CRLF: the line with its CRLF, nothing where it has none
unfoldable pub line : Reader
line xs = cond (eqb (get_or xs (line_text xs) 0) (code "\r") && eqb (get_or xs (line_text xs + 1) 0) (code "\n")) (line_text xs + 2) 0

-- Its name is one or more bytes 33 to 126 except colon
abbrev pub name : Reader
name = run (in_class Name)

-- spaces or tabs may stand before the colon: all up to the colon and with it; nothing where name or colon lacks
unfoldable pub name_colon : Reader
name_colon xs =
    elim (name xs) [
      | zero ↦ 0
      | suc n ↦ (let m = suc n + run (in_class Blank) (drop (suc n) xs) in cond (eqb (get_or xs m 0) (code ":")) (m + 1) 0)
    ]

-- a line that starts with space or tab
unfoldable pub folded : Reader
folded xs = cond (in_class Blank (get_or xs 0 0)) (line xs) 0

-- A field is a line that doesn't start with space or tab, and the lines after it that do, as far as each has its CRLF
unfoldable pub extent : Reader
extent xs = line xs + many folded 0 (drop (line xs) xs)

-- a field: all its bytes, how many of them are its name, and after how many its body starts
pub record Field : Type 0 where
  pub bytes : List ℕ
  pub name : ℕ
  pub body : ℕ

abbrev pub name_of : Field → List ℕ
name_of f = take f.name f.bytes

-- The body runs from after the colon to before the last CRLF
abbrev pub body_of : Field → List ℕ
body_of f = take (length f.bytes - 2 - f.body) (drop f.body f.bytes)

-- Names compare without regard to ASCII case
unfoldable pub named : List ℕ → Field → Bool
named n f = alike (name_of f) n

-- 01, What the library is handed: 512 fields
abbrev pub field_limit : ℕ
field_limit = 512

-- the field of n bytes at the front; 2 where a further line that starts with space or tab lacks its CRLF
unfoldable pub field_of : ℕ → List ℕ → ℕ → Met Field
field_of at xs n =
    elim (in_class Blank (get_or xs n 0)) [
      | true ↦ refused 2 (at + n + line_text (drop n xs))
      | false ↦ item (record { bytes = take n xs; name = name xs; body = name_colon xs }) n
    ]

-- 01, Answer numbers: what stands at the front of xs, which starts at a place of the block, after so many fields. On a line 2 is tried
-- before 3 and 3 before 4. (An empty line, and a first line starting with space or tab, lack a name.)
unfoldable pub field_at : ℕ → ℕ → List ℕ → Met Field
field_at at count xs =
    elim (line xs) [
      | zero ↦ refused 2 (at + line_text xs)
      | suc _ ↦ (elim (name_colon xs) [
        | zero ↦ refused 3 at
        | suc _ ↦ (elim (leb field_limit count) [ true ↦ refused 4 at | false ↦ field_of at xs (extent xs) ])
      ])
    ]

-- one walk from the front: the fields that end before the line of a 2 to 4, and the answer
abbrev pub fields : List ℕ → Walked Field
fields block = walk field_at 0 0 0 block

-- the bytes of fields, one after the other
unfoldable pub bytes_of : List Field → List ℕ
bytes_of [] = []
bytes_of (f ∷ fs) = f.bytes ++ bytes_of fs

-- the fields that pass a test, in order
unfoldable pub select : (Field → Bool) → List Field → List Field
select p [] = []
select p (f ∷ fs) = elim (p f) [ true ↦ f ∷ select p fs | false ↦ select p fs ]
