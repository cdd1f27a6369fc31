-- Document 01, "The report" and "Answer numbers": the report of a body, and the answer.
use Prim.Native.Char.{code}
use Rattle.std.specs.Prelude.{ℕ, ◌+◌, ◌-◌, ◌/◌, ◌%◌, Bool, true, false, cond, not, ◌&&◌, List, [], ◌∷◌, ◌++◌, eqb, leb, length}
use Rattle.std.proofs.Math.Option.{Option, none, some}
use Rattle.base_readers.specs.Texts.{bytes}
use Rattle.lexis_rules.specs.Limits.{byte_limit}
use Rattle.lexis_rules.specs.declared.Class.TheVariants.{Visible}
use Rattle.lexis_rules.specs.Bytes.{in_class}
use Rattle.result_rules.specs.Results.{Kind, Token, Quoted, Mailbox, AtDomain, Property, Methodspec, Result}
use Rattle.result_rules.specs.Table.{understood}
use Rattle.report_rules.specs.Body.{Reading, unreadable, malformed, newer, no_result, results, reading}

-- ==== texts and lines

-- an upper-case hex digit
abbrev pub hex_digit : ℕ → ℕ
hex_digit n = cond (leb n 9) (code "0" + n) (code "A" + (n - 10))

-- bytes outside 33 to 126 and the percent sign are the others
unfoldable pub plain : ℕ → Bool
plain x = in_class Visible x && not (eqb x (code "%"))

-- In id, r and p texts, bytes outside 33 to 126 and the percent sign become % and two upper-case hex digits
unfoldable pub escape : List ℕ → List ℕ
escape [] = []
escape (x ∷ xs) =
    elim (plain x) [
      | true ↦ x ∷ escape xs
      | false ↦ code "%" ∷ hex_digit (x / 16) ∷ hex_digit (x % 16) ∷ escape xs
    ]

-- Lines ended by LF, columns parted by one tab
unfoldable pub line : List (List ℕ) → List ℕ
line [] = code "\n" ∷ []
line (c ∷ cs) = elim cs [ [] ↦ c ++ (code "\n" ∷ []) | d ∷ ds ↦ c ++ (code "\t" ∷ line cs) ]

-- `id`, text
unfoldable pub id_line : List ℕ → List ℕ
id_line i = line (bytes "id" ∷ escape i ∷ [])

-- `v` with the number without leading zeros (0 if all are zeros)
unfoldable pub version_line : List ℕ → List ℕ
version_line v = line (bytes "v" ∷ v ∷ [])

-- `none` alone for the word none
unfoldable pub none_line : List ℕ
none_line = line (bytes "none" ∷ [])

-- `m`, method, result
unfoldable pub method_line : Methodspec → List ℕ
method_line m = line (bytes "m" ∷ m.method ∷ m.result ∷ [])

-- `r`, text if there is a reason
unfoldable pub reason_line : Option (List ℕ) → List ℕ
reason_line none = []
reason_line (some r) = line (bytes "r" ∷ escape r ∷ [])

-- kind letter t q m or a
unfoldable pub letter_of : Kind → List ℕ
letter_of Token = bytes "t"
letter_of Quoted = bytes "q"
letter_of Mailbox = bytes "m"
letter_of AtDomain = bytes "a"

-- `p`, ptype, property, kind letter, text
unfoldable pub property_line : Property → List ℕ
property_line p = line (bytes "p" ∷ p.ptype ∷ p.property ∷ letter_of p.value.kind ∷ escape p.value.text ∷ [])

unfoldable pub property_lines : List Property → List ℕ
property_lines [] = []
property_lines (p ∷ ps) = property_line p ++ property_lines ps

unfoldable pub result_lines : Result → List ℕ
result_lines r = method_line r.methodspec ++ (reason_line r.reason ++ property_lines r.properties)

-- for each result not ignored
unfoldable pub lines : List Result → List ℕ
lines [] = []
lines (r ∷ rs) = cond (understood r) (result_lines r) [] ++ lines rs

-- 01, Results: A well-formed result is ignored, and counted once
unfoldable pub ignored_of : List Result → ℕ
ignored_of [] = 0
ignored_of (r ∷ rs) = cond (understood r) 0 1 + ignored_of rs

-- ==== the answer

pub record Answer : Type 0 where
  pub number : ℕ
  pub place : ℕ
  pub ignored : ℕ
  pub written : List ℕ

-- refusals; they write nothing and return zero counts
unfoldable pub refusal : ℕ → ℕ → Answer
refusal n p = record { number = n; place = p; ignored = 0; written = [] }

-- 6: lent output shorter than the whole output; the place is the bytes needed
unfoldable pub fitted : ℕ → ℕ → List ℕ → ℕ → Answer
fitted room n out k =
    elim (leb (length out) room) [
      | true ↦ record { number = n; place = 0; ignored = k; written = out }
      | false ↦ refusal 6 (length out)
    ]

-- 7, 8 or 9, then 6 (where it would have been 0 or 8)
unfoldable pub answer : ℕ → Reading → Answer
answer room unreadable = refusal 7 0
answer room malformed = refusal 9 0
answer room (newer h) = fitted room 8 (id_line h.identifier ++ version_line h.version) 0
answer room (no_result i) = fitted room 0 (id_line i ++ none_line) 0
answer room (results i rs) = fitted room 0 (id_line i ++ lines rs) (ignored_of rs)

-- 1: body over 65,536 bytes; then the others
unfoldable pub report : List ℕ → ℕ → Answer
report body room = elim (leb (length body) byte_limit) [ true ↦ answer room (reading body) | false ↦ refusal 1 0 ]
