-- What the theorems on our own field speak of, at worked examples: of each notion something that it holds of, and next to that something that it does not
-- hold of.
use Prim.Native.Nat.{ℕ, zero, suc, ◌≤◌, ◌<◌}
use native.Mathlib.Omega.{arith}
use mathlib.Core.Path.{◌≡◌, refl, sym, ap}
use mathlib.Core.Bool.{Bool, true, false}
use mathlib.Core.List.{List, [], ◌∷◌, ◌++◌}
use lib.Dec.{eqb, leb, lit≤, lit<}
use lib.ListN.{length, get_or, take}
use Rattle.base_sequences.proofs.Booleans.{no_true}
use Rattle.base_readers.specs.Texts.{bytes}
use Rattle.report_rules.specs.Body.{Reading, unreadable, malformed, newer, no_result, results, reading}
use Rattle.report_rules.specs.Report as report
use Rattle.write_rules.specs.Promise.{Bytes, Reports, HasBody, glue, lines_with_feeds, Begins, Placed, says_lines, body_for, TooLong, TooShort, Fits}
use Rattle.write_rules.proofs.Unfolding.{opened}

-- ==== bytes

-- 255 is the last byte
bytes-255 : Bytes (0 ∷ 255 ∷ [])
unfolding opened
bytes-255 = refl

not-256 : Bytes (0 ∷ 256 ∷ []) → ⊥
unfolding opened
not-256 e = no_true e

-- ==== a body that has these lines for its report

abbrev none_lines : List ℕ
none_lines = bytes "id\ta\nnone\n"

says-lines : says_lines none_lines ≡ record { number = 0; place = 0; ignored = 0; written = none_lines }
says-lines = refl

-- just enough room for the lines, which are more bytes than the body
reports : Reports (bytes "a;none") none_lines
unfolding opened
reports = refl

-- no other lines
not-other-lines : Reports (bytes "a;none") (bytes "id\tb\nnone\n") → ⊥
unfolding opened
not-other-lines e = let h : ◌≡◌ {A = ℕ} 97 98 = ap (λ (a : report.Answer). get_or a.written 3 0) e in omega arith

-- no ignored result
not-ignored : Reports (bytes "a;spf=pass;b=c") (bytes "id\ta\nm\tspf\tpass\n") → ⊥
unfolding opened
not-ignored e = let h : ◌≡◌ {A = ℕ} 1 0 = ap (λ (a : report.Answer). a.ignored) e in omega arith

-- no newer version
not-newer : Reports (bytes "a 2") (bytes "id\ta\nv\t2\n") → ⊥
unfolding opened
not-newer e = let h : ◌≡◌ {A = ℕ} 8 0 = ap (λ (a : report.Answer). a.number) e in omega arith

has_body : HasBody none_lines
unfolding opened
has_body = record { body = bytes "a;none"; bytes = refl; reports = refl }

-- each report starts with an id line: by cases of what was read
fits : (t : Bool) (n k : ℕ) (out lines : List ℕ)
    → ◌≡◌ {A = report.Answer} (elim t [ true ↦ record { number = n; place = 0; ignored = k; written = out } | false ↦ report.refusal 6 (length out) ]) (says_lines lines)
    → (n ≡ 0) × (out ≡ lines)
unfolding opened
fits true n k out lines e = (ap (λ (a : report.Answer). a.number) e, ap (λ (a : report.Answer). a.written) e)
fits false n k out lines e = let h : ◌≡◌ {A = ℕ} 6 0 = ap (λ (a : report.Answer). a.number) e in absurd (omega arith)

id-first : (room : ℕ) (r : Reading) (lines : List ℕ) → report.answer room r ≡ says_lines lines → take 3 lines ≡ bytes "id\t"
unfolding opened
id-first room unreadable lines e = let h : ◌≡◌ {A = ℕ} 7 0 = ap (λ (a : report.Answer). a.number) e in absurd (omega arith)
id-first room malformed lines e = let h : ◌≡◌ {A = ℕ} 9 0 = ap (λ (a : report.Answer). a.number) e in absurd (omega arith)
id-first room (newer h) lines e =
    let out = report.id_line h.identifier ++ report.version_line h.version in
    let z : ◌≡◌ {A = ℕ} 8 0 = (fits (leb (length out) room) 8 0 out lines e).0 in
    absurd (omega arith)
id-first room (no_result i) lines e =
    let out = report.id_line i ++ report.none_line in
    ap (take 3) (sym (fits (leb (length out) room) 0 0 out lines e).1)
id-first room (results i rs) lines e =
    let out = report.id_line i ++ report.lines rs in
    ap (take 3) (sym (fits (leb (length out) room) 0 (report.ignored_of rs) out lines e).1)

body-id : (lines : List ℕ) → HasBody lines → take 3 lines ≡ bytes "id\t"
body-id lines h = id-first (length lines) (reading h.body) lines h.reports

no_body : HasBody (bytes "x\n") → ⊥
no_body h = let e : ◌≡◌ {A = ℕ} 120 105 = ap (λ (l : List ℕ). get_or l 0 0) (body-id (bytes "x\n") h) in omega arith

-- ==== up to line k the lines can begin a report

-- the first line is that of a report, though the second is not
begins : Begins 1 (bytes "id\ta\nx")
unfolding opened
begins = record { lines = none_lines; reported = has_body; same = refl }

-- all lines are, also where there are fewer than k
begins-whole : Begins 3 none_lines
unfolding opened
begins-whole = record { lines = none_lines; reported = has_body; same = refl }

-- no line is asked for
begins-anyhow : Begins 0 (bytes "x\n")
unfolding opened
begins-anyhow = record { lines = none_lines; reported = has_body; same = refl }

-- the first byte of some lines
abbrev first_byte : List (List ℕ) → ℕ
first_byte ls = get_or (get_or ls 0 []) 0 0

glue-first : (x : ℕ) (ls : List (List ℕ)) → first_byte (take 1 (glue x ls)) ≡ x
glue-first x [] = refl
glue-first x (l ∷ ls) = refl

lines-first : (x : ℕ) (xs : List ℕ) → first_byte (take 1 (lines_with_feeds (x ∷ xs))) ≡ x
unfolding lines_with_feeds
lines-first x xs = go (eqb x 10) refl
  where
    go : (t : Bool) → eqb x 10 ≡ t → first_byte (take 1 (lines_with_feeds (x ∷ xs))) ≡ x
    go true e = rw (lines_with_feeds, e)
    go false e = rw (lines_with_feeds, e) (glue-first x (lines_with_feeds xs))

-- no report has this first line
not-begun : Begins 1 (bytes "x\n") → ⊥
unfolding opened
not-begun b = go b.lines (body-id b.lines b.reported) b.same
  where
    go : (lines : List ℕ) → take 3 lines ≡ bytes "id\t" → take 1 (lines_with_feeds lines) ≡ bytes "x\n" ∷ [] → ⊥
    go [] e s = let h : ◌≡◌ {A = ℕ} 0 105 = ap (λ (l : List ℕ). get_or l 0 0) e in omega arith
    go (x ∷ xs) e s =
        let i : x ≡ 105 = ap (λ (l : List ℕ). get_or l 0 0) e in
        let q : first_byte (take 1 (lines_with_feeds (x ∷ xs))) ≡ 120 = ap first_byte s in
        omega (arith, i, q, lines-first x xs)

-- ==== the place of 11

-- the first line up to which they can begin none
placed : Placed (bytes "x\n") 1
unfolding opened
placed = record { from_one = lit≤ tt; within = lit≤ tt; cannot = not-begun; can = before }
  where
    before : (k : ℕ) → k < 1 → Begins k (bytes "x\n")
    before zero h = begins-anyhow
    before (suc k) h = absurd (omega arith)

-- not a later one, though they can begin none up to that either
not-later : Placed (bytes "x\n") 2 → ⊥
not-later p = not-begun (p.can 1 (lit< tt))

-- not one up to which they can
not_earlier : Placed (bytes "id\ta\nx") 1 → ⊥
not_earlier p = p.cannot begins

-- from 1
not-nought : (src : List ℕ) → Placed src 0 → ⊥
not-nought src p = let h : 1 ≤ 0 = p.from_one in omega arith

-- at most one more than there are lines
not-past : Placed (bytes "id\ta\n") 3 → ⊥
unfolding opened
not-past p = let h : 3 ≤ 2 = p.within in omega arith

-- ==== too long, too short, and else

body-for : body_for none_lines ≡ bytes " a; none"
unfolding opened
body-for = refl

-- over 65,536 bytes, and not these themselves; and there is such a body
too_long : (src : List ℕ) → HasBody src → length (body_for src) ≡ 65537 → TooLong src
too_long src h e = (h, omega (arith, e))

not-long : (src : List ℕ) → length (body_for src) ≡ 65536 → TooLong src → ⊥
not-long src e t = omega (arith, e, t.1)

long-body : TooLong (bytes "x\n") → ⊥
long-body t = no_body t.0

-- one byte of room too few, and none; of a body that isn't too long
too_short : TooShort none_lines 7
unfolding opened
too_short = (has_body, lit≤ tt, lit< tt)

not_short : TooShort none_lines 8 → ⊥
unfolding opened
not_short t = let h : 8 < 8 = t.2 in omega arith

short-long : (src : List ℕ) → length (body_for src) ≡ 65537 → TooShort src 0 → ⊥
short-long src e t = omega (arith, e, t.1)

short-body : TooShort (bytes "x\n") 0 → ⊥
short-body t = no_body t.0

-- as much room as it has bytes, and one too few; a body of 65,536 bytes, and one of more
fits-just : Fits none_lines 8
unfolding opened
fits-just = (has_body, lit≤ tt, lit≤ tt)

fits-limit : (src : List ℕ) → HasBody src → length (body_for src) ≡ 65536 → Fits src 65536
fits-limit src h e = (h, omega (arith, e), omega (arith, e))

not-fitting : Fits none_lines 7 → ⊥
unfolding opened
not-fitting t = let h : 8 ≤ 7 = t.2 in omega arith

fits-long : (src : List ℕ) → length (body_for src) ≡ 65537 → Fits src 65537 → ⊥
fits-long src e t = omega (arith, e, t.1)

fits-body : Fits (bytes "x\n") 100 → ⊥
fits-body t = no_body t.0
