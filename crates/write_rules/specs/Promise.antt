-- 02, ticket [1], "Write our own field": what is promised of the lines that are accepted and of those that are refused.
use Prim.Native.Char.{code}
use Rattle.std.specs.Prelude.{ℕ, suc, ◌≤◌, ◌<◌, ◌≡◌, true, false, List, [], ◌∷◌, eqb, ltb, length, take}
use Rattle.report_rules.specs.Body.{reading}
use Rattle.report_rules.specs.Report as report
use Rattle.lexis_rules.specs.Limits.{byte_limit}
use Rattle.write_rules.specs.Entries.{each}
use Rattle.write_rules.specs.Bodies.{body_of}
use Rattle.write_rules.specs.Compose.{entries}

-- a list of bytes: lists are of numbers, and a body has none from 256 up
abbrev pub Bytes : List ℕ → Type 0
Bytes xs = each (λ b. ltb b 256) xs ≡ true

-- 02, ticket [1]: (a) well-formed body without ignored results has that report: just enough room, answer 0, ignored 0, these lines. The
-- body may be of any size, since 11 comes before 1
abbrev pub Reports : List ℕ → List ℕ → Type 0
Reports body lines = report.answer (length lines) (reading body) ≡ record { number = 0; place = 0; ignored = 0; written = lines }

-- 02, ticket [1]: some such body has that report
pub record HasBody (lines : List ℕ) : Type 0 where
  pub body : List ℕ
  pub bytes : Bytes body
  pub reports : Reports body lines

-- a byte put in front of the first line
abbrev pub glue : ℕ → List (List ℕ) → List (List ℕ)
glue x [] = (x ∷ []) ∷ []
glue x (l ∷ ls) = (x ∷ l) ∷ ls

-- 02, ticket [1]: a line without LF can't (begin a report): lines keep their LF here, so that the last one may lack it
unfoldable pub lines_with_feeds : List ℕ → List (List ℕ)
lines_with_feeds [] = []
lines_with_feeds (x ∷ xs) = elim (eqb x (code "\n")) [ true ↦ (x ∷ []) ∷ lines_with_feeds xs | false ↦ glue x (lines_with_feeds xs) ]

-- 02, ticket [1]: (up to line k) the lines can begin such a report: one has the same first k lines. Where there are fewer than k lines, it
-- has no others: the lines are that report
pub record Begins (k : ℕ) (src : List ℕ) : Type 0 where
  pub lines : List ℕ
  pub reported : HasBody lines
  pub same : take k (lines_with_feeds lines) ≡ take k (lines_with_feeds src)

-- 02, ticket [1]: Its place is the first line, from 1, up to which the lines can begin no such report .. or, where they only stop too early,
-- one more than their count
pub record Placed (src : List ℕ) (place : ℕ) : Type 0 where
  pub from_one : 1 ≤ place
  pub within : place ≤ suc (length (lines_with_feeds src))
  pub cannot : Begins place src → ⊥
  pub can : (k : ℕ) → k < place → Begins k src

-- 02, ticket [1]: the same lines back with an ignored count of zero
abbrev pub says_lines : List ℕ → report.Answer
says_lines lines = record { number = 0; place = 0; ignored = 0; written = lines }

-- 02, ticket [1]: the body to be written
abbrev pub body_for : List ℕ → List ℕ
body_for src = body_of (entries src).items

-- 02, ticket [1]: After 11 come 1, for the body to be written
abbrev pub TooLong : List ℕ → Type 0
TooLong src = HasBody src × (byte_limit < length (body_for src))

-- 02, ticket [1]: and 6; 01, Answer numbers: lent output shorter than the whole output
abbrev pub TooShort : List ℕ → ℕ → Type 0
TooShort src room = HasBody src × (length (body_for src) ≤ byte_limit) × (room < length (body_for src))

-- 01, Answer numbers: done
abbrev pub Fits : List ℕ → ℕ → Type 0
Fits src room = HasBody src × (length (body_for src) ≤ byte_limit) × (length (body_for src) ≤ room)
