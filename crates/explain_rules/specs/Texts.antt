-- A text of a report as a person is shown it: the report's escaping is undone (01, The report: bytes outside 33 to 126 and the percent sign become % and
-- two upper-case hex digits), and what could look like more than one thing stands between quotes. What is shown can be read back (`read_shown`).
use Prim.Native.Char.{code}
use Rattle.std.specs.Prelude.{ℕ, zero, suc, ◌+◌, ◌*◌, ◌/◌, ◌%◌, Bool, true, false, cond, ◌&&◌, ◌||◌, List, [], ◌∷◌, ◌++◌, eqb, get_or, take, drop}
use Rattle.base_readers.specs.Texts.{bytes, within, one_of}
use Rattle.base_readers.specs.Readers.{run}
use Rattle.report_rules.specs.Report.{hex_digit}
use Rattle.write_rules.specs.Entries.{each, is_hex, hex_value}

-- ==== the text of a column

-- a percent sign and two upper-case hex digits come next
unfoldable pub is_code : List ℕ → Bool
is_code l = eqb (get_or l 0 0) (code "%") && (is_hex (get_or l 1 0) && is_hex (get_or l 2 0))

-- the byte that comes next: what these stand for, and any other byte for itself
unfoldable pub code_byte : List ℕ → ℕ
code_byte l = cond (is_code l) (hex_value (get_or l 1 0) * 16 + hex_value (get_or l 2 0)) (get_or l 0 0)

-- how many bytes behind its first one stand for it
unfoldable pub code_more : List ℕ → ℕ
code_more l = cond (is_code l) 2 0

-- k bytes of the list belong to what was taken last
unfoldable pub decoded_past : ℕ → List ℕ → List ℕ
decoded_past k [] = []
decoded_past (suc k) (x ∷ xs) = decoded_past k xs
decoded_past zero (x ∷ xs) = code_byte (x ∷ xs) ∷ decoded_past (code_more (x ∷ xs)) xs

abbrev pub decoded : List ℕ → List ℕ
decoded l = decoded_past 0 l

-- ==== what is shown of a text

-- a byte of a plain word: none that we, or a field, part things with
unfoldable pub in_word : ℕ → Bool
in_word x =
    within (code "0") (code "9") x || (within (code "A") (code "Z") x || (within (code "a") (code "z") x || one_of (bytes "+-./@_") x))

unfoldable pub is_word : List ℕ → Bool
is_word [] = false
is_word (x ∷ xs) = each in_word (x ∷ xs)

-- a byte between quotes: a quote and a backslash behind a backslash, any other of 32 to 126 as it is, and the rest by two upper-case hex digits
unfoldable pub quoted_byte : ℕ → List ℕ
quoted_byte x =
    cond (eqb x (code "\"") || eqb x (code "\\")) (code "\\" ∷ x ∷ [])
    (cond (within 32 126 x) (x ∷ [])
    (code "\\" ∷ code "x" ∷ hex_digit (x / 16 % 16) ∷ hex_digit (x % 16) ∷ []))

unfoldable pub quoted_bytes : List ℕ → List ℕ
quoted_bytes [] = []
quoted_bytes (x ∷ xs) = quoted_byte x ++ quoted_bytes xs

-- a plain word as it is, any other text between quotes
unfoldable pub shown_text : List ℕ → List ℕ
shown_text t = cond (is_word t) t (code "\"" ∷ (quoted_bytes t ++ (code "\"" ∷ [])))

-- ==== how it is read back

-- a text, and what stands behind it
pub record ReadText : Type 0 where
  pub text : List ℕ
  pub rest : List ℕ

-- the byte that comes next between quotes, and how many bytes behind its first one stand for it
unfoldable pub quoted_read : List ℕ → ℕ
quoted_read l =
    cond (eqb (get_or l 0 0) (code "\\"))
    (cond (eqb (get_or l 1 0) (code "x")) (hex_value (get_or l 2 0) * 16 + hex_value (get_or l 3 0)) (get_or l 1 0))
    (get_or l 0 0)

unfoldable pub quoted_more : List ℕ → ℕ
quoted_more l = cond (eqb (get_or l 0 0) (code "\\")) (cond (eqb (get_or l 1 0) (code "x")) 3 1) 0

abbrev pub in_front : ℕ → ReadText → ReadText
in_front x r = record { text = x ∷ r.text; rest = r.rest }

-- up to the quote that ends it; k bytes of the list belong to what was taken last
unfoldable pub read_quoted : ℕ → List ℕ → ReadText
read_quoted k [] = record { text = []; rest = [] }
read_quoted (suc k) (x ∷ xs) = read_quoted k xs
read_quoted zero (x ∷ xs) =
    elim (eqb x (code "\"")) [
      | true ↦ record { text = []; rest = xs }
      | false ↦ in_front (quoted_read (x ∷ xs)) (read_quoted (quoted_more (x ∷ xs)) xs)
    ]

-- what stands between quotes, or the longest word
unfoldable pub read_shown : List ℕ → ReadText
read_shown [] = record { text = []; rest = [] }
read_shown (x ∷ xs) =
    elim (eqb x (code "\"")) [
      | true ↦ read_quoted 0 xs
      | false ↦ record { text = take (run in_word (x ∷ xs)) (x ∷ xs); rest = drop (run in_word (x ∷ xs)) (x ∷ xs) }
    ]
