-- What is shown of a text is read back, whatever stands behind it, so no two texts look the same and none can end its own quotes; and the report's escaping is
-- undone. The two together: the text of the field itself is read back from what is shown.
use Prim.Native.Nat.{ℕ, ◌/◌, ◌%◌, ◌<◌}
use native.Mathlib.Omega.{arith}
use mathlib.Core.Path.{◌≡◌, refl, sym, ap, ◌∙◌}
use mathlib.Core.Bool.{Bool, true, false, cond, not, ◌||◌}
use mathlib.Core.List.{List, [], ◌∷◌, ◌++◌, append_assoc}
use lib.Dec.{eqb, ltb}
use lib.ListN.{take, drop}
use borrow.Author.Tests.{eqb-true, ltb-true}
use Rattle.base_sequences.proofs.Booleans.{no_true, both, and_left, and_right, neither_left, neither_right}
use Rattle.base_readers.specs.Texts.{bytes, within, starts}
use Rattle.base_readers.specs.Readers.{run}
use Rattle.lexis_rules.specs.declared.Class.TheVariants.{Visible}
use Rattle.lexis_rules.specs.Bytes.{in_class}
use Rattle.report_rules.specs.Report.{hex_digit, plain, escape}
use Rattle.write_rules.specs.Entries.{each}
use Rattle.write_rules.specs.Promise.{Bytes}
use Rattle.explain_rules.specs.Texts.{is_code, code_byte, code_more, decoded_past, decoded, in_word, is_word, quoted_byte, quoted_bytes, shown_text, ReadText, quoted_read, quoted_more, in_front, read_quoted, read_shown}
use Rattle.explain_rules.specs.declared.Line.{Line}
use Rattle.explain_rules.specs.declared.Line.TheVariants.{Field, Identifier, Version, NoResult, Method, Reason, Property, Other}
use Rattle.explain_rules.specs.Explained.{behind, kind_of_line, shown, words, goes_on, ended, lines_words}
use Rattle.explain_rules.proofs.Texts.{high-hex, low-hex, digits_value, quoted-mark, quoted-itself, quoted-hex, word_each, shown-word, shown-quoted}
use Rattle.explain_rules.proofs.Unfolding.{opened}

-- the first byte of bytes, and the others
bytes-first : (x : ℕ) (t : List ℕ) → Bytes (x ∷ t) → x < 256
unfolding each
bytes-first x t h = ltb-true x 256 (and_left (ltb x 256) (each (λ b. ltb b 256) t) h)

bytes_rest : (x : ℕ) (t : List ℕ) → Bytes (x ∷ t) → Bytes t
unfolding each
bytes_rest x t h = and_right (ltb x 256) (each (λ b. ltb b 256) t) h

-- ==== the escaping of a report undone

not-true : (b : Bool) → not b ≡ true → b ≡ false
not-true true q = absurd (no_true q)
not-true false q = refl

plain-no-percent : (x : ℕ) → plain x ≡ true → eqb x 37 ≡ false
unfolding plain
plain-no-percent x e = not-true (eqb x 37) (and_right (in_class Visible x) (not (eqb x 37)) e)

-- a byte in front, as it is and by its code
decoded-itself : (x : ℕ) (l : List ℕ) → eqb x 37 ≡ false → decoded (x ∷ l) ≡ x ∷ decoded l
unfolding decoded_past code_byte code_more is_code
decoded-itself x l e = rw (code_byte, is_code, e, code_more)

decoded-code : (x : ℕ) (l : List ℕ) → x < 256 → decoded (37 ∷ (hex_digit (x / 16) ∷ (hex_digit (x % 16) ∷ l))) ≡ x ∷ decoded l
unfolding decoded_past code_byte code_more is_code
decoded-code x l h = rw (code_byte, code_more, is_code, high-hex x h, low-hex x h, digits_value x h)

pub decoded-escape : (t : List ℕ) → Bytes t → decoded (escape t) ≡ t
unfolding escape decoded_past
decoded-escape [] h = refl
decoded-escape (x ∷ t) h = go (plain x) refl (decoded-escape t (bytes_rest x t h))
  where
    go : (b : Bool) → plain x ≡ b → decoded (escape t) ≡ t → decoded (escape (x ∷ t)) ≡ x ∷ t
    go true e ih = rw (escape, e) (decoded-itself x (escape t) (plain-no-percent x e) ∙ ap (λ (l : List ℕ). x ∷ l) ih)
    go false e ih = rw (escape, e) (decoded-code x (escape t) (bytes-first x t h) ∙ ap (λ (l : List ℕ). x ∷ l) ih)

-- ==== a byte between quotes is read

module _ (x : ℕ) (l : List ℕ) where
  mark-no-x : (eqb x 34 || eqb x 92) ≡ true → eqb x 120 ≡ false
  mark-no-x e = pick (eqb x 34) refl
    where
      pick : (b : Bool) → eqb x 34 ≡ b → eqb x 120 ≡ false
      pick true q = rw (eqb-true x 34 q)
      pick false q = let p : eqb x 92 ≡ true = rw q at e in rw (eqb-true x 92 p)

  read-mark : (eqb x 34 || eqb x 92) ≡ true → read_quoted 0 (92 ∷ (x ∷ l)) ≡ in_front x (read_quoted 0 l)
  unfolding read_quoted quoted_read quoted_more
  read-mark e = rw (quoted_read, quoted_more, mark-no-x e)

  read-itself : (eqb x 34 || eqb x 92) ≡ false → read_quoted 0 (x ∷ l) ≡ in_front x (read_quoted 0 l)
  unfolding read_quoted quoted_read quoted_more
  read-itself f = rw (read_quoted, neither_left (eqb x 34) (eqb x 92) f, quoted_read, quoted_more, neither_right (eqb x 34) (eqb x 92) f)

  read-hex : x < 256 → read_quoted 0 (92 ∷ (120 ∷ (hex_digit (x / 16 % 16) ∷ (hex_digit (x % 16) ∷ l)))) ≡ in_front x (read_quoted 0 l)
  unfolding read_quoted quoted_read quoted_more
  read-hex h = let d : x / 16 % 16 ≡ x / 16 = omega arith in rw (d, quoted_read, quoted_more, digits_value x h)

  quoted-read : x < 256 → read_quoted 0 (quoted_byte x ++ l) ≡ in_front x (read_quoted 0 l)
  quoted-read h = go (eqb x 34 || eqb x 92) (within 32 126 x) refl refl
    where
      go : (a b : Bool) → (eqb x 34 || eqb x 92) ≡ a → within 32 126 x ≡ b → read_quoted 0 (quoted_byte x ++ l) ≡ in_front x (read_quoted 0 l)
      go true b e q = rw (quoted-mark x e) (read-mark e)
      go false true f q = rw (quoted-itself x f q) (read-itself f)
      go false false f q = rw (quoted-hex x f q) (read-hex h)

quoted-back : (t rest : List ℕ) → Bytes t → read_quoted 0 (quoted_bytes t ++ (34 ∷ rest)) ≡ record { text = t; rest = rest }
unfolding quoted_bytes read_quoted
quoted-back [] rest h = refl
quoted-back (x ∷ t) rest h =
    ap (read_quoted 0) (append_assoc (quoted_byte x) (quoted_bytes t) (34 ∷ rest)) ∙ (quoted-read x (quoted_bytes t ++ (34 ∷ rest)) (bytes-first x t h) ∙ ap (in_front x) (quoted-back t rest (bytes_rest x t h)))

-- ==== a word is read

word-run : (t rest : List ℕ) → each in_word t ≡ true → starts in_word rest ≡ false → (take (run in_word (t ++ rest)) (t ++ rest) ≡ t) × (drop (run in_word (t ++ rest)) (t ++ rest) ≡ rest)
unfolding each run starts
word-run [] [] e f = (refl, refl)
word-run [] (y ∷ rest) e f = (rw (run, f), rw (run, f))
word-run (x ∷ t) rest e f =
    let a : in_word x ≡ true = and_left (in_word x) (each in_word t) e in
    let ih = word-run t rest (and_right (in_word x) (each in_word t) e) f in
    (rw (run, a) (ap (λ (l : List ℕ). x ∷ l) ih.0), rw (run, a) ih.1)

quote-no-word : in_word 34 ≡ false
unfolding opened
quote-no-word = refl

word_back : (t rest : List ℕ) → is_word t ≡ true → starts in_word rest ≡ false → read_shown (t ++ rest) ≡ record { text = t; rest = rest }
unfolding is_word read_shown each
word_back [] rest e f = absurd (no_true e)
word_back (x ∷ t) rest e f = go (eqb x 34) refl
  where
    go : (b : Bool) → eqb x 34 ≡ b → read_shown (x ∷ (t ++ rest)) ≡ record { text = x ∷ t; rest = rest }
    go true q = absurd (both (in_word x) (rw (eqb-true x 34 q) quote-no-word) (and_left (in_word x) (each in_word t) e))
    go false q =
        let r = word-run (x ∷ t) rest (word_each (x ∷ t) e) f in
        rw (read_shown, q, r.0, r.1)

-- ==== what is shown is read back

quotes-back : (t rest : List ℕ) → Bytes t → read_shown (34 ∷ ((quoted_bytes t ++ (34 ∷ [])) ++ rest)) ≡ record { text = t; rest = rest }
unfolding read_shown
quotes-back t rest h = ap (read_quoted 0) (append_assoc (quoted_bytes t) (34 ∷ []) rest) ∙ quoted-back t rest h

-- of any text of bytes, where no byte of a word stands behind it
pub shown-back : (t rest : List ℕ) → Bytes t → starts in_word rest ≡ false → read_shown (shown_text t ++ rest) ≡ record { text = t; rest = rest }
shown-back t rest h f = go (is_word t) refl
  where
    go : (b : Bool) → is_word t ≡ b → read_shown (shown_text t ++ rest) ≡ record { text = t; rest = rest }
    go true e = rw (shown-word t e) (word_back t rest e f)
    go false e = rw (shown-quoted t e) (quotes-back t rest h)

-- the text of a field, that its report has escaped
pub field-text-back : (t rest : List ℕ) → Bytes t → starts in_word rest ≡ false → read_shown (shown_text (decoded (escape t)) ++ rest) ≡ record { text = t; rest = rest }
field-text-back t rest h f = rw (decoded-escape t h) (shown-back t rest h f)

-- two texts that look the same are the same
pub shown-once : (t u : List ℕ) → Bytes t → Bytes u → shown_text t ≡ shown_text u → t ≡ u
unfolding starts
shown-once t u h k e =
    let a = shown-back t [] h refl in
    let b = shown-back u [] k refl in
    ap (λ (r : ReadText). r.text) (sym a ∙ (ap (λ (l : List ℕ). read_shown (l ++ [])) e ∙ b))

-- ==== also in the line where it stands

-- what is said of a line of any kind, behind the end of what was said before it
ends_of : (k : Line) (b rest : List ℕ) → starts in_word (cond (goes_on k) [] (10 ∷ []) ++ (words k b ++ rest)) ≡ false
unfolding opened starts
ends_of Field b rest = refl
ends_of Identifier b rest = refl
ends_of Version b rest = refl
ends_of NoResult b rest = refl
ends_of Method b rest = refl
ends_of Reason b rest = refl
ends_of Property b rest = refl
ends_of Other b rest = refl

-- no byte of a word stands behind what is said of a line
pub line-ends : (ls : List (List ℕ)) → starts in_word (ended ls ++ lines_words ls) ≡ false
unfolding opened starts
line-ends [] = refl
line-ends (l ∷ ls) = ends_of (kind_of_line l) (behind l) (ended ls ++ lines_words ls)

-- so the last text of a line, which an identifier, a reason and a value are, is read back there, whatever lines stand behind it
pub last-text-back : (t : List ℕ) → Bytes t → (ls : List (List ℕ))
    → read_shown (shown (escape t) ++ (ended ls ++ lines_words ls)) ≡ record { text = t; rest = ended ls ++ lines_words ls }
last-text-back t h ls = field-text-back t (ended ls ++ lines_words ls) h (line-ends ls)

-- ==== an instance of each: a value that ends its quotes and goes on as if it were us, with a byte that no terminal is shown, and behind it the next property

abbrev value : List ℕ
value = 27 ∷ bytes "\", dmarc: pass \\\""

decoded-instance : decoded (escape value) ≡ value
unfolding each
decoded-instance = decoded-escape value refl

shown-instance : read_shown (shown_text value ++ bytes ", header.d: example.org") ≡ record { text = value; rest = bytes ", header.d: example.org" }
unfolding each starts opened
shown-instance = shown-back value (bytes ", header.d: example.org") refl refl

field-text-instance : read_shown (shown_text (decoded (escape value)) ++ bytes ", header.d: example.org") ≡ record { text = value; rest = bytes ", header.d: example.org" }
unfolding each starts opened
field-text-instance = field-text-back value (bytes ", header.d: example.org") refl refl

once-instance : value ≡ value
unfolding each
once-instance = shown-once value value refl refl refl

last-text-instance : read_shown (shown (escape value) ++ (ended (bytes "p\theader\td\tt\texample.org" ∷ []) ++ lines_words (bytes "p\theader\td\tt\texample.org" ∷ []))) ≡ record { text = value; rest = bytes ", header.d: example.org\n" }
unfolding each opened
last-text-instance = last-text-back value refl (bytes "p\theader\td\tt\texample.org" ∷ [])
