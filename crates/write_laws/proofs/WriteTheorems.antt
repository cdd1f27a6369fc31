-- 02, ticket [1], "Write our own field": the theorems, each under the sentence that it proves, with an instance where it has premises. They
-- hold of every list of lines and every room; each is read off the cases of the answer (Answering).
use Prim.Native.Nat.{ℕ, ◌≤◌}
use native.Mathlib.Omega.{arith}
use mathlib.Core.Path.{◌≡◌, refl, sym, ap, ◌∙◌, subst}
use mathlib.Core.Bool.{Bool, true, false}
use mathlib.Core.List.{List, [], ◌∷◌, ◌++◌}
use lib.Dec.{leb, lit≤, lit<}
use borrow.Author.Tests.{leb-true, leb-false}
use lib.ListN.{length}
use Rattle.base_readers.specs.Texts.{bytes, one_of}
use Rattle.report_rules.specs.Body.{reading}
use Rattle.report_rules.specs.Report.{report}
use Rattle.report_laws.proofs.Readings.{report-is}
use Rattle.write_rules.specs.Entries.{line_of}
use Rattle.write_rules.specs.Compose.{entries, Answer, refusal, compose}
use Rattle.write_rules.specs.Promise.{Reports, HasBody, Placed, says_lines, body_for, TooLong, TooShort, Fits}
use Rattle.write_laws.proofs.Readback.{joined}
use Rattle.write_rules.proofs.Unfolding.{opened}
use Rattle.write_laws.proofs.Reporting.{answer-more}
use Rattle.write_laws.proofs.Lengthy.{lengthy, lengthy-reported, lengthy-body}
use Rattle.write_laws.proofs.Answering.{placed-none, reported-accepted, answers0, answers1, answers6, answers11, answered, not-both}

-- the report of RFC 8601, Appendix B.6 (first field), and its body as it is written
abbrev example : List ℕ
example =
    bytes "id\texample.com\nm\tdkim\tpass\nr\tgood%20signature\np\theader\ti\ta\t@mail-router.example.net\n"
    ++ bytes "m\tdkim\tfail\nr\tbad%20signature\np\theader\ti\ta\t@newyork.example.com\n"

abbrev example_body : List ℕ
example_body =
    bytes " example.com; dkim=pass reason=\"good signature\" header.i=@mail-router.example.net;"
    ++ bytes " dkim=fail reason=\"bad signature\" header.i=@newyork.example.com"

-- ==== For every list of lines it accepts, reading the written body gives the same lines back with an ignored count of zero

-- of every body that would be written, however long it is and however little room there is
pub body-reports : (src : List ℕ) → HasBody src → Reports (body_for src) src
body-reports src v = (reported-accepted src v).body-reports

example-reported : HasBody example
unfolding opened
example-reported = record { body = example_body; bytes = refl; reports = refl }

body-reports-instance : Reports example_body example
unfolding opened
body-reports-instance = body-reports example example-reported

-- of the body that is written, within the limit
pub round_trip : (src : List ℕ) (room : ℕ) → (compose src room).number ≡ 0 → (r : ℕ) → length src ≤ r → report (compose src room).written r ≡ says_lines src
round_trip src room e r l =
    elim (answered src room) [
      | answers0 f q ↦
          (let b : (compose src room).written ≡ body_for src = ap (λ (x : Answer). x.written) q in
          rw b (report-is (body_for src) r f.1 ∙ answer-more (length src) r src (reading (body_for src)) (body-reports src f.0) l))
      | answers1 f q ↦ absurd (not-both _ _ 0 q e refl)
      | answers6 f q ↦ absurd (not-both _ _ 0 q e refl)
      | answers11 p h q ↦ absurd (not-both _ _ 0 q e refl)
    ]

round-trip-instance : report example_body 148 ≡ says_lines example
unfolding opened
round-trip-instance = round_trip example 200 refl 148 (lit≤ tt)

-- and what is written for the lines is written for what they say, line by line
pub lines_are : (src : List ℕ) → HasBody src → joined line_of (entries src).items ≡ src
lines_are src v = (reported-accepted src v).lines_are

-- ==== It refuses exactly when no well-formed body without ignored results has that report, with number 11

pub refused_none : (src : List ℕ) (room : ℕ) → (compose src room).number ≡ 11 → HasBody src → ⊥
refused_none src room e v =
    elim (answered src room) [
      | answers0 f q ↦ not-both _ _ 11 q e refl
      | answers1 f q ↦ not-both _ _ 11 q e refl
      | answers6 f q ↦ not-both _ _ 11 q e refl
      | answers11 p h q ↦ placed-none src p h v
    ]

pub none-refused : (src : List ℕ) (room : ℕ) → (HasBody src → ⊥) → (compose src room).number ≡ 11
none-refused src room n =
    elim (answered src room) [
      | answers0 f q ↦ absurd (n f.0)
      | answers1 f q ↦ absurd (n f.0)
      | answers6 f q ↦ absurd (n f.0)
      | answers11 p h q ↦ ap (λ (x : Answer). x.number) q
    ]

-- an `id` line alone is refused, whatever the room
id-alone : HasBody (bytes "id\ta\n") → ⊥
unfolding opened
id-alone = refused_none (bytes "id\ta\n") 0 refl

id-alone-refused : (room : ℕ) → (compose (bytes "id\ta\n") room).number ≡ 11
id-alone-refused room = none-refused (bytes "id\ta\n") room id-alone

-- ==== Its place is the first line, from 1, up to which the lines can begin no such report

-- a line without LF can begin none; where the lines only stop too early, the place is one more than their count
pub placed : (src : List ℕ) (room : ℕ) → (compose src room).number ≡ 11 → Placed src (compose src room).place
placed src room e =
    elim (answered src room) [
      | answers0 f q ↦ absurd (not-both _ _ 11 q e refl)
      | answers1 f q ↦ absurd (not-both _ _ 11 q e refl)
      | answers6 f q ↦ absurd (not-both _ _ 11 q e refl)
      | answers11 p h q ↦ subst (λ (x : Answer). Placed src x.place) (sym q) h
    ]

-- there is one such place
pub placed-once : (src : List ℕ) (p q : ℕ) → Placed src p → Placed src q → p ≡ q
placed-once src p q P Q = go (leb p q) refl (leb q p) refl
  where
    go : (a : Bool) → leb p q ≡ a → (b : Bool) → leb q p ≡ b → p ≡ q
    go true e true f = omega (arith, leb-true p q e, leb-true q p f)
    go true e false f = absurd (P.cannot (Q.can p (leb-false q p f)))
    go false e b f = absurd (Q.cannot (P.can q (leb-false p q e)))

-- a result of another method's row in line 2; lines that only stop too early; a last line without LF
row-placed : Placed (bytes "id\ta\nm\tdkim\tsoftfail\n") 2
unfolding opened
row-placed = placed (bytes "id\ta\nm\tdkim\tsoftfail\n") 0 refl

early-placed : Placed (bytes "id\ta\n") 2
unfolding opened
early-placed = placed (bytes "id\ta\n") 0 refl

unfinished-placed : Placed (bytes "id\ta\nnone") 2
unfolding opened
unfinished-placed = placed (bytes "id\ta\nnone") 0 refl

-- ==== 01, Answer numbers: All but 0 and 8 are refusals; they write nothing

pub refused-unwritten : (src : List ℕ) (room : ℕ) → ((compose src room).number ≡ 0 → ⊥) → (compose src room).written ≡ []
refused-unwritten src room n =
    elim (answered src room) [
      | answers0 f q ↦ absurd (n (ap (λ (x : Answer). x.number) q))
      | answers1 f q ↦ ap (λ (x : Answer). x.written) q
      | answers6 f q ↦ ap (λ (x : Answer). x.written) q
      | answers11 p h q ↦ ap (λ (x : Answer). x.written) q
    ]

six-unwritten : (compose example 144).written ≡ []
unfolding opened
six-unwritten = refused-unwritten example 144 (λ e. omega (arith, e))

-- ==== After 11 come 1, for the body to be written, and 6

-- there is no other number
pub numbers : (src : List ℕ) (room : ℕ) → one_of (0 ∷ 1 ∷ 6 ∷ 11 ∷ []) (compose src room).number ≡ true
unfolding one_of
numbers src room =
    elim (answered src room) [
      | answers0 f q ↦ rw q
      | answers1 f q ↦ rw q
      | answers6 f q ↦ rw q
      | answers11 p h q ↦ rw q
    ]

-- 1 exactly where there is such a body, but the one to be written is over the limit, whatever the room
pub long-refused : (src : List ℕ) (room : ℕ) → TooLong src → compose src room ≡ refusal 1 0
long-refused src room t =
    elim (answered src room) [
      | answers0 f q ↦ absurd (omega (arith, t.1, f.1))
      | answers1 f q ↦ q
      | answers6 f q ↦ absurd (omega (arith, t.1, f.1))
      | answers11 p h q ↦ absurd (placed-none src p h t.0)
    ]

long-instance : (room : ℕ) → compose (lengthy 65536) room ≡ refusal 1 0
long-instance room = long-refused (lengthy 65536) room (lengthy-reported 65536, lengthy-body 65536)

pub refused-long : (src : List ℕ) (room : ℕ) → (compose src room).number ≡ 1 → TooLong src
refused-long src room e =
    elim (answered src room) [
      | answers0 f q ↦ absurd (not-both _ _ 1 q e refl)
      | answers1 f q ↦ f
      | answers6 f q ↦ absurd (not-both _ _ 1 q e refl)
      | answers11 p h q ↦ absurd (not-both _ _ 1 q e refl)
    ]

refused-long-instance : TooLong (lengthy 65536)
refused-long-instance = refused-long (lengthy 65536) 0 (ap (λ (x : Answer). x.number) (long-instance 0))

-- 6 exactly where it is within the limit and longer than the room; the place is the bytes needed
pub short-refused : (src : List ℕ) (room : ℕ) → TooShort src room → compose src room ≡ refusal 6 (length (body_for src))
short-refused src room t =
    elim (answered src room) [
      | answers0 f q ↦ absurd (omega (arith, t.2, f.2))
      | answers1 f q ↦ absurd (omega (arith, t.1, f.1))
      | answers6 f q ↦ q
      | answers11 p h q ↦ absurd (placed-none src p h t.0)
    ]

short-instance : compose example 144 ≡ refusal 6 145
unfolding opened
short-instance = short-refused example 144 (example-reported, lit≤ tt, lit< tt)

pub refused-short : (src : List ℕ) (room : ℕ) → (compose src room).number ≡ 6 → TooShort src room
refused-short src room e =
    elim (answered src room) [
      | answers0 f q ↦ absurd (not-both _ _ 6 q e refl)
      | answers1 f q ↦ absurd (not-both _ _ 6 q e refl)
      | answers6 f q ↦ f
      | answers11 p h q ↦ absurd (not-both _ _ 6 q e refl)
    ]

refused-short-instance : TooShort example 144
unfolding opened
refused-short-instance = refused-short example 144 refl

-- 0 exactly where it is within both, and then it is written
pub fits-written : (src : List ℕ) (room : ℕ) → Fits src room → compose src room ≡ record { number = 0; place = 0; written = body_for src }
fits-written src room t =
    elim (answered src room) [
      | answers0 f q ↦ q
      | answers1 f q ↦ absurd (omega (arith, t.1, f.1))
      | answers6 f q ↦ absurd (omega (arith, t.2, f.2))
      | answers11 p h q ↦ absurd (placed-none src p h t.0)
    ]

fits-instance : compose example 145 ≡ record { number = 0; place = 0; written = example_body }
unfolding opened
fits-instance = fits-written example 145 (example-reported, lit≤ tt, lit≤ tt)

pub written-fits : (src : List ℕ) (room : ℕ) → (compose src room).number ≡ 0 → Fits src room
written-fits src room e =
    elim (answered src room) [
      | answers0 f q ↦ f
      | answers1 f q ↦ absurd (not-both _ _ 0 q e refl)
      | answers6 f q ↦ absurd (not-both _ _ 0 q e refl)
      | answers11 p h q ↦ absurd (not-both _ _ 0 q e refl)
    ]

written-fits-instance : Fits example 145
unfolding opened
written-fits-instance = written-fits example 145 refl
