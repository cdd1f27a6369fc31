-- What is said of the columns of a line, for this crate and those that write what it reads: no other contract cites these.
use Rattle.std.specs.Prelude.{ℕ, ◌+◌, ◌-◌, ◌≤◌, ◌<◌, ◌≡◌, Bool, true, cond, ◌&&◌, List, [], ◌∷◌, eqb, length, get_or, drop, Option, Some, None, MatchOption}
use Rattle.base_readers.specs.Readers.{Reader, run, many}
use Rattle.base_readers.specs.Parsers.{Got, nothing, got, Parser, ◌>>=◌, ◌>>◌, give, when, byte, text, either, several}
use Rattle.base_readers.specs.Places.{from, values}
use Rattle.lexis_rules.specs.declared.Class.TheVariants as class
use Rattle.lexis_rules.specs.Bytes.{in_class}
use Rattle.lexis_rules.specs.Pieces.{keyword}
use Rattle.identifier_rules.specs.Identifier.{identifier_byte}
use Rattle.result_rules.specs.Results.{Kind, Property, in_local_part}
use Rattle.base_sequences.specs.Spans.{span}
use Rattle.report_rules.specs.Report.{plain, escape}
use Rattle.write_rules.specs.Promise.{Bytes}
use Rattle.write_rules.specs.Entries.{Entry, shown, kind_of, kind_letter, stands, allowed, whole, single, escaped, quotable, is_text, coded}
use Rattle.write_columns.specs.declared.coded.Code.{Code}
use Rattle.write_columns.specs.declared.coded.Tail as tail
use Rattle.write_columns.specs.declared.coded.Test.{Test}
use Rattle.write_columns.specs.declared.coded.Test.TheVariants as test
use Rattle.write_columns.specs.declared.coded.Text as read

-- where a parser ended, or the place that it was given
abbrev pub end_or : {A : Type 0} → ℕ → Got A → ℕ
end_or at nothing = at
end_or at (got a n) = n

-- ==== texts

-- a byte of a text as the report writes it
abbrev pub coded_byte : Parser ℕ
coded_byte = either (single plain) escaped

-- how many bytes it has; 0 where there is none
unfoldable pub code_size : Reader
code_size xs = elim (coded_byte xs) [ nothing ↦ 0 | got a n ↦ n ]

-- how many it has and what it says
unfoldable pub code_at : List ℕ → Option Code
code_at xs = elim (coded_byte xs) [ nothing ↦ None | got a n ↦ Some (record { size = n; value = a }) ]

-- the text at the front
unfoldable pub text_of : List ℕ → List ℕ
text_of xs = values (several coded_byte 0 xs)

-- what the bytes of a text may have to be of
unfoldable pub in_test : Test → ℕ → Bool
in_test test.Text b = quotable b
in_test test.Token b = in_class class.Token b
in_test test.Identifier b = identifier_byte b
in_test test.Local b = in_local_part b

-- all that is read of a text in one walk
abbrev pub text_at : Test → List ℕ → ℕ → read.Text
text_at t s at = record { end = at + many code_size 0 (drop at s); holds = is_text (text_of (drop at s)); bare = whole (run (in_test t)) (text_of (drop at s)) }

-- a text that can stand, and LF: the end of a line
unfoldable pub tail_reader : {A : Type 0} → (List ℕ → A) → Parser A
tail_reader f = do
  t ← coded
  byte 10
  when (is_text t)
  give (f t)

-- where a line ends, if it ends there
unfoldable pub tail_end : List ℕ → ℕ → Option ℕ
tail_end s at = elim (from (tail_reader (λ (x : List ℕ). x)) s at) [ nothing ↦ None | got x n ↦ Some n ]

abbrev pub tail_at : Test → List ℕ → ℕ → tail.Tail
tail_at t s at = record { end = tail_end s at; bare = whole (run (in_test t)) (text_of (drop at s)) }

-- where it ends, whatever is made of the text, or that it isn't there
pub record TailEnds (s : List ℕ) (at r : ℕ) : Type 0 where
  pub reads : (f : List ℕ → Entry) → got (f (text_of (drop at s))) r ≡ from (tail_reader f) s at
  pub after : at < r
  pub inside : r ≤ length s

abbrev pub TailMissing : List ℕ → ℕ → Type 0
TailMissing s at = (f : List ℕ → Entry) → nothing ≡ from (tail_reader f) s at

-- ==== words

-- these bytes come next; none of them is 0
unfoldable pub spells : List ℕ → List ℕ → Bool
spells [] xs = true
spells (c ∷ w) xs = eqb (get_or xs 0 0) c && spells w (drop 1 xs)

-- a keyword and the byte that closes its column
abbrev pub column_reader : {A : Type 0} → ℕ → (List ℕ → Parser A) → Parser A
column_reader c q = ◌>>=◌ (text keyword) (λ k. ◌>>◌ (byte c) (q k))

-- how many bytes the keyword has; 0 where there is none that this byte closes
unfoldable pub column_size : ℕ → Reader
column_size c xs = cond (eqb (get_or (drop (keyword xs) xs) 0 0) c) (keyword xs) 0

-- where it ends, if it is there
abbrev pub ColumnAt : ℕ → List ℕ → ℕ → Option ℕ → Type 0
ColumnAt c s at r = MatchOption r (column_size c (drop at s) ≡ 0) (λ (e : ℕ). (e ≡ at + column_size c (drop at s)) × (at < e))

-- where it ends, whatever stands behind it, or that it isn't there
pub data ColumnEnd (s : List ℕ) (at c r : ℕ) : Type 0 where
  column : ((q : List ℕ → Parser Entry) (x : Got Entry) → x ≡ from (q (span s at r)) s (r + 1) → x ≡ from (column_reader c q) s at) → at < r → r < length s → ColumnEnd s at c r
  unclosed : ((q : List ℕ → Parser Entry) → nothing ≡ from (column_reader c q) s at) → r ≡ at → ColumnEnd s at c r

-- ==== properties

abbrev pub made : List ℕ → List ℕ → Kind → List ℕ → Property
made t p k x = record { ptype = t; property = p; value = record { kind = k; text = x } }

-- behind ptype and property: kind letter, text and LF
unfoldable pub shown_reader : List ℕ → List ℕ → Parser Entry
shown_reader t p = do
  k ← kind_letter
  byte 9
  x ← coded
  byte 10
  when (allowed (made t p k x))
  give (shown (made t p k x))

-- what a column is the coded form of
abbrev pub IsCoded : List ℕ → Type 0
IsCoded v = (escape (text_of v) ≡ v) × Bytes (text_of v)

-- the property whose kind letter stands at a place, and whose column ends before r
abbrev pub shown_at : List ℕ → List ℕ → List ℕ → ℕ → ℕ → Property
shown_at t p s at r = made t p (kind_of (get_or (drop at s) 0 0)) (text_of (span s (at + 2) (r - 1)))

-- where kind letter, text and LF end, whatever ptype and property are, or that they aren't there
pub data ShownEnd (s : List ℕ) (at r : ℕ) : Type 0 where
  shown_end : ((t p : List ℕ) (x : Got Entry) → x ≡ from (◌>>◌ (when (allowed (shown_at t p s at r))) (give (shown (shown_at t p s at r)))) s r → x ≡ from (shown_reader t p) s at)
      → IsCoded (span s (at + 2) (r - 1)) → at + 2 < r → r ≤ length s → ShownEnd s at r
  shown_not : ((t p : List ℕ) → nothing ≡ from (shown_reader t p) s at) → r ≡ at → ShownEnd s at r

-- the same, of an answer
abbrev pub ValueEnd : List ℕ → ℕ → Option ℕ → Type 0
ValueEnd s at r = MatchOption r (ShownEnd s at at) (λ (g : ℕ). ShownEnd s at g × (at < g))

-- where a property that may be reported ends, if one stands there
abbrev pub ShownAt : List ℕ → List ℕ → List ℕ → ℕ → Option ℕ → Type 0
ShownAt t p s at r =
    MatchOption r (at ≡ end_or at (from (shown_reader t p) s at)) (λ (g : ℕ). (g ≡ end_or at (from (shown_reader t p) s at)) × (at < g))

-- which property stands behind a ptype and a property name, or that none does
pub data ShownIs (t p s : List ℕ) (at r : ℕ) : Type 0 where
  shown_is : got (shown (shown_at t p s at r)) r ≡ from (shown_reader t p) s at → IsCoded (span s (at + 2) (r - 1))
      → stands (kind_of (get_or (drop at s) 0 0)) (text_of (span s (at + 2) (r - 1))) ≡ true → at + 2 < r → r ≤ length s → ShownIs t p s at r
  unshown : nothing ≡ from (shown_reader t p) s at → r ≡ at → ShownIs t p s at r
