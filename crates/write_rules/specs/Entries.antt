-- 02, ticket [1], "Write our own field": which texts are report lines (document 01, "The report"), and what each says. A line is taken as a
-- grammar that reads back what the report writes.
use Prim.Native.Char.{code}
use Rattle.std.specs.Prelude.{ℕ, ◌+◌, ◌-◌, ◌*◌, Bool, true, false, cond, not, ◌&&◌, ◌||◌, List, [], ◌∷◌, map, eqb, leb, length, drop}
use Rattle.std.proofs.Math.Option.{some}
use Rattle.base_readers.specs.Texts.{bytes, within, one_of, same}
use Rattle.base_readers.specs.Readers.{Reader}
use Rattle.base_readers.specs.Parsers.{nothing, got, Parser, ◌>>=◌, ◌>>◌, give, when, byte, text, either, several}
use Rattle.lexis_rules.specs.declared.Class.TheVariants as class
use Rattle.lexis_rules.specs.Bytes.{in_class, lower}
use Rattle.lexis_rules.specs.Pieces.{token, keyword}
use Rattle.lexis_rules.specs.Numbers.{one}
use Rattle.result_rules.specs.Results.{Kind, Token, Quoted, Mailbox, AtDomain, Property, next, domain}
use Rattle.result_rules.specs.Table.{listed, table, ptypes, tabled}
use Rattle.report_rules.specs.Report.{plain, id_line, none_line, method_line, reason_line, property_line}

-- ==== what a line says

-- 02, ticket [1]: report lines (`id`, then `none` or `m`, `r` and `p` lines), in this order below
pub data Entry : Type 0 where
  identified : List ℕ → Entry
  unstated : Entry
  judged : List ℕ → List ℕ → Entry
  reasoned : List ℕ → Entry
  shown : Property → Entry

-- 01, The report: the line that is written for it
unfoldable pub line_of : Entry → List ℕ
line_of (identified i) = id_line i
line_of unstated = none_line
line_of (judged m r) = method_line (record { method = m; version = one; result = r })
line_of (reasoned t) = reason_line (some t)
line_of (shown p) = property_line p

-- ==== which texts can stand in a body

-- a text all of whose bytes are of the class
unfoldable pub each : (ℕ → Bool) → List ℕ → Bool
each c [] = true
each c (x ∷ xs) = c x && each c xs

-- a text that a reader takes to its last byte; 01, Small pieces: token and keyword are never empty
unfoldable pub whole : Reader → List ℕ → Bool
whole f [] = false
whole f (x ∷ xs) = eqb (f (x ∷ xs)) (length (x ∷ xs))

-- 01, Small pieces: Quoted: a byte that its text can hold, standing there itself or behind a backslash; the CRLFs are dropped
unfoldable pub quotable : ℕ → Bool
quotable b = in_class class.Quoted b || in_class class.Escaped b

-- 02, ticket [1]: (a text that) as a quoted string (can be written): identifier, reason, local part and values of kind q
unfoldable pub is_text : List ℕ → Bool
is_text t = each quotable t

-- 01, Small pieces: Keywords .. are reported in lower case
unfoldable pub is_keyword : List ℕ → Bool
is_keyword k = whole keyword k && same (map lower k) k

-- 01, The report: A mailbox's text is the local part's text, "@", domain. A domain has no "@", so the last one parts them; where there is
-- none, all is local part and the domain is empty
unfoldable pub local_of : List ℕ → List ℕ
local_of [] = []
local_of (x ∷ xs) = elim (eqb x (code "@") && not (one_of xs (code "@"))) [ true ↦ [] | false ↦ x ∷ local_of xs ]

-- 01, The report: the domain of that text
unfoldable pub domain_of : List ℕ → List ℕ
domain_of [] = []
domain_of (x ∷ xs) = elim (eqb x (code "@") && not (one_of xs (code "@"))) [ true ↦ xs | false ↦ domain_of xs ]

-- 01, Results: A property value is one of four kinds: token, quoted, mailbox or at-domain. One of this kind has the text
unfoldable pub stands : Kind → List ℕ → Bool
stands Token t = whole token t
stands Quoted t = is_text t
stands Mailbox t = is_text (local_of t) && whole domain (domain_of t)
stands AtDomain t = next (code "@") t && whole domain (drop 1 t)

-- ==== lines as a grammar

-- one byte of the class, and which
unfoldable pub single : (ℕ → Bool) → Parser ℕ
single c [] = nothing
single c (x ∷ xs) = elim (c x) [ true ↦ got x 1 | false ↦ nothing ]

-- just these bytes
unfoldable pub literal : List ℕ → Parser Unit
literal [] = give tt
literal (c ∷ w) = do
  byte c
  literal w

-- 01, The report: upper-case hex digits
unfoldable pub is_hex : ℕ → Bool
is_hex x = within (code "0") (code "9") x || within (code "A") (code "F") x

-- 01, The report: the number that such a digit stands for
unfoldable pub hex_value : ℕ → ℕ
hex_value x = cond (leb x (code "9")) (x - code "0") (x - code "A" + 10)

-- what a program is told that asks for it: 16 for every other byte
unfoldable pub hex_or : ℕ → ℕ
hex_or x = cond (is_hex x) (hex_value x) 16

-- 01, The report: bytes outside 33 to 126 and the percent sign become % and two upper-case hex digits; no other byte does
unfoldable pub escaped : Parser ℕ
escaped = do
  byte (code "%")
  h ← single is_hex
  l ← single is_hex
  when (not (plain (hex_value h * 16 + hex_value l)))
  give (hex_value h * 16 + hex_value l)

-- 01, The report: a text in an id, r or p line, read back
unfoldable pub coded : Parser (List ℕ)
coded = several (either (single plain) escaped) 0

-- 01, The report: kind letter t q m or a
unfoldable pub kind_of : ℕ → Kind
kind_of b = cond (eqb b (code "t")) Token (cond (eqb b (code "q")) Quoted (cond (eqb b (code "m")) Mailbox AtDomain))

-- 01, The report: that column
unfoldable pub kind_letter : Parser Kind
kind_letter = do
  b ← single (one_of (bytes "tqma"))
  give (kind_of b)

-- 01, The report: `id`, text; Lines ended by LF, columns parted by one tab
unfoldable pub id_entry : Parser Entry
id_entry = do
  literal (bytes "id\t")
  t ← coded
  byte (code "\n")
  when (is_text t)
  give (identified t)

-- 01, The report: `none` alone for the word none
unfoldable pub none_entry : Parser Entry
none_entry = do
  literal (bytes "none\n")
  give unstated

-- 01, The report: for each result not ignored `m`, method, result; 01, Results: one row of the table has both
unfoldable pub method_entry : Parser Entry
method_entry = do
  literal (bytes "m\t")
  m ← text keyword
  byte (code "\t")
  r ← text keyword
  byte (code "\n")
  when (tabled table m r)
  give (judged m r)

-- 01, The report: `r`, text
unfoldable pub reason_entry : Parser Entry
reason_entry = do
  literal (bytes "r\t")
  t ← coded
  byte (code "\n")
  when (is_text t)
  give (reasoned t)

-- 01, Results: the ptype is smtp, header, body or policy (else the result is ignored), the property is any keyword
unfoldable pub allowed : Property → Bool
allowed p = listed ptypes p.ptype && is_keyword p.property && stands p.value.kind p.value.text

-- 01, The report: `p`, ptype, property, kind letter t q m or a, text
unfoldable pub property_entry : Parser Entry
property_entry = do
  literal (bytes "p\t")
  t ← text keyword
  byte (code "\t")
  p ← text keyword
  byte (code "\t")
  k ← kind_letter
  byte (code "\t")
  x ← coded
  byte (code "\n")
  when (allowed (record { ptype = t; property = p; value = record { kind = k; text = x } }))
  give (shown (record { ptype = t; property = p; value = record { kind = k; text = x } }))

-- 02, ticket [1]: a line of these five; `v` lines are of no body that answers 0
unfoldable pub entry : Parser Entry
entry = either id_entry (either none_entry (either method_entry (either reason_entry property_entry)))
