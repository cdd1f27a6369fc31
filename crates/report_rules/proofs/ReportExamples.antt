-- The report and the answers at worked examples, computed part by part: which bytes stand for themselves, each line, what is ignored, the
-- order of the answers, and what a caller sees. The tables are small, so that an error shows the two sides.
use Prim.Native.Nat.{ℕ, zero, suc}
use mathlib.Core.Path.{◌≡◌, refl}
use mathlib.Core.Bool.{Bool, true, false}
use mathlib.Core.List.{List, [], ◌∷◌, ◌++◌, map}
use mathlib.Core.Option.{Option, none, some}
use lib.ListN.{length}
use Rattle.base_readers.specs.Texts.{bytes}
use Rattle.base_readers.proofs.Cases.{case, Says}
use Rattle.lexis_rules.specs.declared.VersionNumber.TheVariants.{Exact}
use Rattle.result_rules.specs.Results.{Kind, Token, Quoted, Mailbox, AtDomain, Property, Methodspec, Result}
use Rattle.report_rules.specs.Body.{Reading, unreadable, malformed, newer, no_result, results}
use Rattle.report_rules.specs.Report.{hex_digit, plain, escape, line, id_line, version_line, none_line, method_line, reason_line, letter_of, property_line, result_lines, lines, ignored_of, Answer, fitted, answer, report}
use Rattle.report_rules.specs.Answers.{answer_of, leaves}
use Rattle.report_rules.specs.ByCase as by_case
use Rattle.report_rules.proofs.Unfolding.{opened}

-- ==== texts

-- of the n numbers from x on, those that pass a test
abbrev chosen : (ℕ → Bool) → ℕ → ℕ → List ℕ
chosen p zero x = []
chosen p (suc n) x = elim (p x) [ true ↦ x ∷ chosen p n (suc x) | false ↦ chosen p n (suc x) ]

-- the n numbers from x on
abbrev numbers : ℕ → ℕ → List ℕ
numbers zero x = []
numbers (suc n) x = x ∷ numbers n (suc x)

-- 01, The report: the bytes that stand for themselves: 33 to 126 but the percent sign
plain-bytes : chosen plain 256 0 ≡ numbers 4 33 ++ numbers 89 38
unfolding opened
plain-bytes = refl

-- 01, The report: the others become % and two upper-case hex digits
hex-digits : map hex_digit (numbers 16 0) ≡ bytes "0123456789ABCDEF"
hex-digits = refl

escapes :
    Says escape
    (case [] []
    ∷ case (bytes "a!~") (bytes "a!~")
    ∷ case (bytes "a b%") (bytes "a%20b%25")
    ∷ case (0 ∷ 9 ∷ 10 ∷ 127 ∷ []) (bytes "%00%09%0A%7F")
    ∷ case (128 ∷ 239 ∷ 255 ∷ []) (bytes "%80%EF%FF")
    ∷ [])
unfolding opened
escapes = refl

-- ==== lines

-- 01, The report: lines ended by LF, columns parted by one tab; also one without columns
columns :
    map line ([] ∷ (bytes "a" ∷ []) ∷ (bytes "a" ∷ bytes "b" ∷ []) ∷ (bytes "a" ∷ [] ∷ bytes "c" ∷ []) ∷ [])
    ≡ bytes "\n" ∷ bytes "a\n" ∷ bytes "a\tb\n" ∷ bytes "a\t\tc\n" ∷ []
unfolding opened
columns = refl

abbrev spf : Methodspec
spf = record { method = bytes "spf"; version = Exact 1; result = bytes "pass" }

-- `id`, `v`, `none` and `m`
first-lines :
    id_line (bytes "a b") ∷ version_line (bytes "20") ∷ none_line ∷ method_line spf ∷ []
    ≡ bytes "id\ta%20b\n" ∷ bytes "v\t20\n" ∷ bytes "none\n" ∷ bytes "m\tspf\tpass\n" ∷ []
unfolding opened
first-lines = refl

-- `r`, text if there is a reason
reason-lines : map reason_line (none ∷ some [] ∷ some (bytes "a b") ∷ []) ≡ [] ∷ bytes "r\t\n" ∷ bytes "r\ta%20b\n" ∷ []
unfolding opened
reason-lines = refl

-- kind letter t q m or a
letters : map letter_of (Token ∷ Quoted ∷ Mailbox ∷ AtDomain ∷ []) ≡ bytes "t" ∷ bytes "q" ∷ bytes "m" ∷ bytes "a" ∷ []
unfolding opened
letters = refl

abbrev property : List ℕ → Kind → List ℕ → Property
property t k x = record { ptype = t; property = bytes "x"; value = record { kind = k; text = x } }

-- `p`, ptype, property, kind letter, text
property-lines :
    map property_line (property (bytes "smtp") Token (bytes "b") ∷ property (bytes "body") Quoted (bytes "b c") ∷ [])
    ≡ bytes "p\tsmtp\tx\tt\tb\n" ∷ bytes "p\tbody\tx\tq\tb%20c\n" ∷ []
unfolding opened
property-lines = refl

abbrev result : Methodspec → Option (List ℕ) → List Property → Result
result m r ps = record { methodspec = m; reason = r; properties = ps }

-- a result: m, r, then each p in order
whole-result :
    result_lines (result spf (some (bytes "b")) (property (bytes "smtp") Token (bytes "c") ∷ property (bytes "body") AtDomain (bytes "@d.e") ∷ []))
    ≡ bytes "m\tspf\tpass\nr\tb\np\tsmtp\tx\tt\tc\np\tbody\tx\ta\t@d.e\n"
unfolding opened
whole-result = refl

-- ==== what is ignored

abbrev new_method : Methodspec
new_method = record { method = bytes "spf"; version = Exact 2; result = bytes "pass" }

abbrev other_method : Methodspec
other_method = record { method = bytes "none"; version = Exact 1; result = bytes "pass" }

-- understood, then for each reason one that isn't (a method version, a method, a ptype), then understood
abbrev some-results : List Result
some-results =
    result spf none []
    ∷ result new_method none []
    ∷ result other_method none (property (bytes "q") Token (bytes "c") ∷ [])
    ∷ result spf none (property (bytes "smtp") Token (bytes "c") ∷ property (bytes "q") Token (bytes "c") ∷ [])
    ∷ result spf (some (bytes "z")) []
    ∷ []

-- 01, The report: for each result not ignored, in order; 01, Results: each of the others is counted once
shown : lines some-results ≡ bytes "m\tspf\tpass\nm\tspf\tpass\nr\tz\n"
unfolding opened
shown = refl

ignored : ignored_of [] ∷ ignored_of some-results ∷ ignored_of (some-results ++ some-results) ∷ [] ≡ 0 ∷ 3 ∷ 6 ∷ []
unfolding opened
ignored = refl

-- ==== answers

abbrev says : ℕ → ℕ → ℕ → List ℕ → Answer
says n p k w = record { number = n; place = p; ignored = k; written = w }

-- 6: lent output shorter than the whole output; the place is the bytes needed, the counts are zero and nothing is written
rooms :
    map (λ (room : ℕ). fitted room 8 (bytes "abc") 5) (0 ∷ 2 ∷ 3 ∷ 4 ∷ [])
    ≡ says 6 3 0 [] ∷ says 6 3 0 [] ∷ says 8 0 5 (bytes "abc") ∷ says 8 0 5 (bytes "abc") ∷ []
unfolding opened
rooms = refl

abbrev readings : List Reading
readings =
    unreadable
    ∷ malformed
    ∷ newer (record { identifier = bytes "a"; version = bytes "20" })
    ∷ no_result (bytes "a")
    ∷ results (bytes "a") (result spf none [] ∷ result new_method none [] ∷ [])
    ∷ []

-- 7, 9, 8 with two lines and an ignored count of zero, 0 with the word none, 0 with results
answers :
    map (answer 100) readings
    ≡ says 7 0 0 []
    ∷ says 9 0 0 []
    ∷ says 8 0 0 (bytes "id\ta\nv\t20\n")
    ∷ says 0 0 0 (bytes "id\ta\nnone\n")
    ∷ says 0 0 1 (bytes "id\ta\nm\tspf\tpass\n")
    ∷ []
unfolding opened
answers = refl

-- 01, Answer numbers: 6 only where it would have been 0 or 8
answers-without-room : map (answer 4) readings ≡ says 7 0 0 [] ∷ says 9 0 0 [] ∷ says 6 10 0 [] ∷ says 6 10 0 [] ∷ says 6 16 0 [] ∷ []
unfolding opened
answers-without-room = refl

-- what is told of each case where there is room: number, bytes and count apart, and together
case-numbers : map by_case.number_of readings ≡ 7 ∷ 9 ∷ 8 ∷ 0 ∷ 0 ∷ []
case-numbers = refl

case-texts : map by_case.text_of readings ≡ [] ∷ [] ∷ bytes "id\ta\nv\t20\n" ∷ bytes "id\ta\nnone\n" ∷ bytes "id\ta\nm\tspf\tpass\n" ∷ []
unfolding opened
case-texts = refl

case-counts : map by_case.count_of readings ≡ 0 ∷ 0 ∷ 0 ∷ 0 ∷ 1 ∷ []
unfolding opened
case-counts = refl

cases : map by_case.told readings ≡ map (answer 100) readings
unfolding opened
cases = refl

-- those that have a report are those that answer 6 without room
case-reports : map by_case.has_report readings ≡ false ∷ false ∷ true ∷ true ∷ true ∷ []
case-reports = refl

-- 1 before 7: every body of 65,537 bytes that starts with a ";". One of 65,536 is read
long : (rest : List ℕ) (room : ℕ) → length rest ≡ 65536 → report (59 ∷ rest) room ≡ says 1 0 0 []
unfolding opened
long rest room e = rw (report, e)

limit : (rest : List ℕ) (room : ℕ) → length rest ≡ 65535 → report (59 ∷ rest) room ≡ says 7 0 0 []
unfolding opened
limit rest room e = rw (report, e)

-- ==== what the caller sees

-- number, place and counts; of the bytes written, how many there are
told : answer_of (says 1 2 3 (bytes "abcd")) ≡ record { number = 1; place = 2; written = 4; ignored = 3 }
told = refl

-- 01, Answer numbers: on every answer, bytes past those written stay unchanged
left : map (leaves (says 0 7 5 (bytes "ab"))) (bytes "1234567" ∷ bytes "12" ∷ []) ≡ bytes "ab34567" ∷ bytes "ab" ∷ []
left = refl
