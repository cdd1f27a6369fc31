-- Instances of Demand1's theorems: for each call and each number an input that is answered so, shown by the theorem. Every premise is met by something,
-- and what the theorems speak of computes.
use Prim.Native.Nat.{ℕ, ◌≤◌, ◌<◌}
use native.Mathlib.Omega.{arith}
use mathlib.Core.Path.{◌≡◌, refl}
use mathlib.Core.Logic.{inl, inr}
use mathlib.Core.List.{List, [], ◌∷◌}
use lib.Dec.{lit≤, lit<}
use lib.ListN.{length, replicate, length-replicate}
use Rattle.base_readers.specs.Texts.{bytes}
use Rattle.lexis_rules.specs.Limits.{byte_limit}
use Rattle.block_rules.specs.Fields.{bytes_of}
use Rattle.strip_rules.proofs.Examples as strip-opened
use Rattle.report_rules.proofs.Unfolding as body-opened
use Rattle.blockreport_rules.specs.declared.Detail.TheVariants.{Reported, Identified}
use Rattle.blockreport_rules.proofs.Unfolding as block-report-opened
use Rattle.host_whose_struct.proofs.WhoseExamples as whose-opened
use Rattle.write_rules.specs.Promise.{Reports, Placed}
use Rattle.write_rules.proofs.Unfolding as write-opened
use Rattle.write_laws.proofs.Lengthy.{lengthy, lengthy-reported, lengthy-body}
use Rattle.arc_rules.proofs.Unfolding as arc-opened
use Rattle.arc_laws.proofs.Acceptance.{built-none}
use Rattle.arc_laws.proofs.BuiltExactly as judge-laws
use Rattle.block_walk_rules.specs.declared.Step.TheVariants.{Last}
use Rattle.block_walk_rules.specs.Steps.{given, last_of}
use Rattle.block_walk_rules.proofs.Examples as step-opened
use Rattle.promises.specs.Calls.{strips, reports, block_reports, tells, writes, judges, steps}
use Rattle.promises.proofs.Demand1 as demand1
use Rattle.promises.proofs.Ticket1 as ticket1

-- ==== what is handed in

-- 65,537 bytes
abbrev long : List ℕ
long = replicate 65537 65

too_long : byte_limit < length long
too_long = omega (arith, length-replicate {A = ℕ} 65537 65)

-- document 01's sample, of which the second field of 19 bytes is kept
abbrev sample : List ℕ
sample = bytes "Authentication-Results : Example.COM; none\r\nFrom: a@b.example\r\n"

-- a last line without CRLF
abbrev unfinished : List ℕ
unfinished = bytes "A: b"

abbrev list : List ℕ
list = bytes "example.com\n"

-- its second entry is empty
abbrev bad_list : List ℕ
bad_list = bytes "a\n\n"

-- a lent buffer of one byte
abbrev lent : List ℕ
lent = bytes "!"

-- ==== stripping

strip-1-instance : (list old : List ℕ) → ((strips long list old).answer.number ≡ 1) × ((strips long list old).answer.place ≡ 0)
strip-1-instance list old = ((demand1.strip-1 long list old).1 too_long, demand1.strip-place-1 long list old too_long)

strip-5-instance : ((strips sample bad_list lent).answer.number ≡ 5) × ((strips sample bad_list lent).answer.place ≡ 2)
unfolding strip-opened.opened
strip-5-instance = ((demand1.strip-5 sample bad_list lent).1 (lit≤ tt, refl), demand1.strip-place-5 sample bad_list lent (lit≤ tt) refl)

strip-2-instance : ((strips unfinished list lent).answer.number ≡ 2) × ((strips unfinished list lent).answer.place ≡ 4)
unfolding strip-opened.opened
strip-2-instance = (
  (demand1.strip-2-to-4 unfinished list lent 2 (lit≤ tt) (lit≤ tt)).1 (lit≤ tt, (refl, refl)),
  demand1.strip-place-2-to-4 unfinished list lent 2 (lit≤ tt) (lit≤ tt) (lit≤ tt) refl refl,
)

strip-6-instance : ((strips sample list lent).answer.number ≡ 6) × ((strips sample list lent).answer.place ≡ 19)
unfolding strip-opened.opened
strip-6-instance =
    ((demand1.strip-6 sample list lent).1 ((lit≤ tt, (refl, refl)), lit< tt), demand1.strip-place-6 sample list lent (lit≤ tt, (refl, refl)) (lit< tt))

strip-0-instance :
    ((strips sample list (bytes "...................!")).answer.number ≡ 0) × ((strips sample list (bytes "...................!")).answer.place ≡ 0)
unfolding strip-opened.opened
strip-0-instance = (
  (demand1.strip-0 sample list (bytes "...................!")).1 ((lit≤ tt, (refl, refl)), lit≤ tt),
  demand1.strip-place-0 sample list (bytes "...................!") (lit≤ tt, (refl, refl)) (lit≤ tt),
)

strip-refusal-instance :
    strips unfinished list lent ≡ record { answer = record { number = 2; place = 4; kept = 0; removed = 0; fields = 0 }; left = lent }
unfolding strip-opened.opened
strip-refusal-instance = demand1.strip-refusal unfinished list lent (λ e. omega (arith, e))

-- ==== the report of one body

report-1-instance : (old : List ℕ) → (reports long old).answer.number ≡ 1
report-1-instance old = (demand1.report-1 long old).1 too_long

report-numbers-instance :
    ((reports [] lent).answer.number ≡ 7)
    × (((reports (bytes "a") lent).answer.number ≡ 9)
    × (((reports (bytes "a 2") (bytes ".........")).answer.number ≡ 8) × ((reports (bytes "a; none") (bytes "..........")).answer.number ≡ 0)))
unfolding body-opened.opened
report-numbers-instance = (
  (demand1.report-0-7-8-9 [] lent 7 (λ e. omega (arith, e)) (λ e. omega (arith, e))).1 (lit≤ tt, (refl, lit≤ tt)),
  (
    (demand1.report-0-7-8-9 (bytes "a") lent 9 (λ e. omega (arith, e)) (λ e. omega (arith, e))).1 (lit≤ tt, (refl, lit≤ tt)),
    (
      (demand1.report-0-7-8-9 (bytes "a 2") (bytes ".........") 8 (λ e. omega (arith, e)) (λ e. omega (arith, e))).1 (lit≤ tt, (refl, lit≤ tt)),
      (demand1.report-0-7-8-9 (bytes "a; none") (bytes "..........") 0 (λ e. omega (arith, e)) (λ e. omega (arith, e))).1 (lit≤ tt, (refl, lit≤ tt)),
    ),
  ),
)

report-6-instance : ((reports (bytes "a; none") lent).answer.number ≡ 6) × ((reports (bytes "a; none") lent).answer.place ≡ 10)
unfolding body-opened.opened
report-6-instance =
    ((demand1.report-6 (bytes "a; none") lent).1 (lit≤ tt, (refl, lit< tt)), demand1.report-place-6 (bytes "a; none") lent (lit≤ tt) refl (lit< tt))

report-refusal-instance :
    reports (bytes "a") lent ≡ record { answer = record { number = 9; place = 0; written = 0; ignored = 0 }; left = lent }
unfolding body-opened.opened
report-refusal-instance = demand1.report-refusal (bytes "a") lent (λ e. omega (arith, e)) (λ e. omega (arith, e))

report-place-instance : (reports (bytes "a") lent).answer.place ≡ 0
unfolding body-opened.opened
report-place-instance = demand1.report-place (bytes "a") lent (λ e. omega (arith, e))

report-8-instance :
    reports (bytes "a 02 ;;") (bytes "..........!") ≡ record { answer = record { number = 8; place = 0; written = 9; ignored = 0 }; left = bytes "id\ta\nv\t2\n.!" }
unfolding body-opened.opened
report-8-instance =
    demand1.report-8 (bytes "a 02 ;;") (bytes "..........!") (record { identifier = bytes "a"; version = bytes "2" }) (lit≤ tt) refl (lit≤ tt)

-- ==== the report of a block

-- a field with an identifier and nothing else
abbrev bare : List ℕ
bare = bytes "Authentication-Results: Example.com\r\n"

block-report-1-instance : (list old : List ℕ) → ((block_reports Reported long list old).answer.number ≡ 1) × ((block_reports Reported long list old).answer.place ≡ 0)
block-report-1-instance list old = ((demand1.block-report-1 Reported long list old).1 too_long, demand1.block-report-place-1 Reported long list old too_long)

block-report-5-instance : ((block_reports Reported sample bad_list lent).answer.number ≡ 5) × ((block_reports Reported sample bad_list lent).answer.place ≡ 2)
unfolding block-report-opened.opened
block-report-5-instance =
    ((demand1.block-report-5 Reported sample bad_list lent).1 (lit≤ tt, refl), demand1.block-report-place-5 Reported sample bad_list lent (lit≤ tt) refl)

block-report-2-instance : ((block_reports Identified unfinished list lent).answer.number ≡ 2) × ((block_reports Identified unfinished list lent).answer.place ≡ 4)
unfolding block-report-opened.opened
block-report-2-instance = (
  (demand1.block-report-2-to-4 Identified unfinished list lent 2 (lit≤ tt) (lit≤ tt)).1 (lit≤ tt, (refl, refl)),
  demand1.block-report-place-2-to-4 Identified unfinished list lent 2 (lit≤ tt) (lit≤ tt) (lit≤ tt) refl refl,
)

-- with the one detail it needs 16 bytes, with the other 31
block-report-6-instance :
    (((block_reports Reported bare list lent).answer.number ≡ 6) × ((block_reports Reported bare list lent).answer.place ≡ 16))
    × (((block_reports Identified bare list lent).answer.number ≡ 6) × ((block_reports Identified bare list lent).answer.place ≡ 31))
unfolding block-report-opened.opened
block-report-6-instance = (
  (
    (demand1.block-report-6 Reported bare list lent).1 ((lit≤ tt, (refl, refl)), lit< tt),
    demand1.block-report-place-6 Reported bare list lent (lit≤ tt, (refl, refl)) (lit< tt),
  ),
  (
    (demand1.block-report-6 Identified bare list lent).1 ((lit≤ tt, (refl, refl)), lit< tt),
    demand1.block-report-place-6 Identified bare list lent (lit≤ tt, (refl, refl)) (lit< tt),
  ),
)

block-report-done-instance :
    (block_reports Reported bare list (bytes "................!")
    ≡ record { answer = record { number = 0; place = 0; written = 16 }; left = bytes "field\t1\town\t9\t0\n!" })
    × (block_reports Identified bare list (bytes "...............................!")
    ≡ record { answer = record { number = 0; place = 0; written = 31 }; left = bytes "field\t1\town\t9\t0\nid\tExample.com\n!" })
unfolding block-report-opened.opened
block-report-done-instance = (
  demand1.block-report-done Reported bare list (bytes "................!") (lit≤ tt, (refl, refl)) (lit≤ tt),
  demand1.block-report-done Identified bare list (bytes "...............................!") (lit≤ tt, (refl, refl)) (lit≤ tt),
)

block-report-refusal-instance :
    block_reports Identified bare bad_list lent ≡ record { answer = record { number = 5; place = 2; written = 0 }; left = lent }
unfolding block-report-opened.opened
block-report-refusal-instance = demand1.block-report-refusal Identified bare bad_list lent (λ e. omega (arith, e))

-- ==== whose an identifier is

whose-1-instance : (list : List ℕ) → ((tells list long).number ≡ 1) × ((tells list long).place ≡ 0)
whose-1-instance list = ((demand1.whose-1 list long).1 too_long, demand1.whose-place-1 list long too_long)

whose-5-instance : ((tells bad_list (bytes "a;")).number ≡ 5) × ((tells bad_list (bytes "a;")).place ≡ 2)
unfolding whose-opened.opened
whose-5-instance = ((demand1.whose-5 bad_list (bytes "a;")).1 (lit≤ tt, refl), demand1.whose-place-5 bad_list (bytes "a;") (lit≤ tt) refl)

-- ours, another's, unreadable
whose-done-instance :
    (tells list (bytes "Example.COM; x") ≡ record { number = 0; whose = 0; place = 0 })
    × ((tells list (bytes "a; x") ≡ record { number = 0; whose = 1; place = 0 }) × (tells list (bytes "; x") ≡ record { number = 0; whose = 2; place = 0 }))
unfolding whose-opened.opened
whose-done-instance = (
  demand1.whose-done list (bytes "Example.COM; x") (lit≤ tt) refl,
  (demand1.whose-done list (bytes "a; x") (lit≤ tt) refl, demand1.whose-done list (bytes "; x") (lit≤ tt) refl),
)

whose-refusal-instance : tells bad_list (bytes "a;") ≡ record { number = 5; whose = 0; place = 2 }
unfolding whose-opened.opened
whose-refusal-instance = demand1.whose-refusal bad_list (bytes "a;") (λ e. omega (arith, e))

-- ==== report lines

-- a line that no report begins with, and a report that stops too early
write-11-instance : Placed (bytes "x\n") 1 × Placed (bytes "id\ta\n") 2
unfolding write-opened.opened
write-11-instance = (demand1.write-place-11 (bytes "x\n") lent refl, demand1.write-place-11 (bytes "id\ta\n") lent refl)

-- the identifier of 65,536 letters
write-1-instance : (old : List ℕ) → ((writes (lengthy 65536) old).answer.number ≡ 1) × ((writes (lengthy 65536) old).answer.place ≡ 0)
write-1-instance old = (
  (demand1.write-1 (lengthy 65536) old).1 (lengthy-reported 65536, lengthy-body 65536),
  demand1.write-place-1 (lengthy 65536) old (lengthy-reported 65536, lengthy-body 65536),
)

write-6-instance : (writes (bytes "id\ta\nnone\n") lent).answer.place ≡ 8
unfolding write-opened.opened
write-6-instance = demand1.write-place-6 (bytes "id\ta\nnone\n") lent ((demand1.write-6 (bytes "id\ta\nnone\n") lent).0 refl)

write-done-instance :
    writes (bytes "id\ta\nnone\n") (bytes "........!") ≡ record { answer = record { number = 0; place = 0; written = 8 }; left = bytes " a; none!" }
unfolding write-opened.opened
write-done-instance = demand1.write_done (bytes "id\ta\nnone\n") (bytes "........!") ((demand1.write-0 (bytes "id\ta\nnone\n") (bytes "........!")).0 refl)

write-refusal-instance : ((writes (bytes "x\n") lent).answer.written ≡ 0) × ((writes (bytes "x\n") lent).left ≡ lent)
unfolding write-opened.opened
write-refusal-instance = demand1.write-refusal (bytes "x\n") lent (λ e. omega (arith, e))

-- what was written there, read back by the other call
round-trip-instance :
    reports (bytes " a; none") (bytes "..........!") ≡ record { answer = record { number = 0; place = 0; written = 10; ignored = 0 }; left = bytes "id\ta\nnone\n!" }
unfolding write-opened.opened
round-trip-instance = ticket1.calls-round-trip (bytes "id\ta\nnone\n") (bytes "........!") (bytes "..........!") refl (lit≤ tt)

-- the same of every body that would be written, and there is one place for lines that are refused
body-reports-instance : Reports (bytes " a; none") (bytes "id\ta\nnone\n")
unfolding write-opened.opened
body-reports-instance = ticket1.body-reports (bytes "id\ta\nnone\n") ((demand1.write-0 (bytes "id\ta\nnone\n") (bytes "........!")).0 refl).0

placed-once-instance : (p : ℕ) → Placed (bytes "x\n") p → p ≡ 1
placed-once-instance p q = ticket1.placed-once (bytes "x\n") p 1 q write-11-instance.0

-- ==== a chain

judge-1-instance : (verdicts : List ℕ) → (judges long verdicts).number ≡ 1
judge-1-instance verdicts = (demand1.judge-1 long verdicts).1 too_long

judge-2-instance : ((judges unfinished []).number ≡ 2) × ((judges unfinished []).place ≡ 4)
unfolding arc-opened.opened
judge-2-instance =
    ((demand1.judge-2-to-4 unfinished [] 2 (lit≤ tt) (lit≤ tt)).1 (lit≤ tt, refl), demand1.judge-place-2-to-4 unfinished [] 2 (lit≤ tt) (lit≤ tt) (lit≤ tt) refl)

-- one set, with a verdict that is none, with none, and with one that is good
judge-10-instance : ((judges judge-laws.one (4 ∷ [])).number ≡ 10) × (((judges judge-laws.one []).number ≡ 10) × ((judges judge-laws.one []).place ≡ 0))
unfolding arc-opened.opened
judge-10-instance = (
  (demand1.judge-10 judge-laws.one (4 ∷ [])).1 (record { small = lit≤ tt; sound = refl; instances = 1; chain = refl; bad = refl }),
  (demand1.judge-numbers judge-laws.one [] (λ h. omega (arith, h)), demand1.judge-place judge-laws.one [] (inr (lit≤ tt))),
)

judge-0-instance : ((judges (bytes "A:\r\n") (9 ∷ [])).number ≡ 0) × ((judges (bytes "A:\r\n") (9 ∷ [])).place ≡ 0)
unfolding arc-opened.opened
judge-0-instance =
    ((demand1.judge-0 (bytes "A:\r\n") (9 ∷ [])).1 ((lit≤ tt, refl), λ n o. absurd (built-none n o)), demand1.judge-place (bytes "A:\r\n") (9 ∷ []) (inl (lit≤ tt)))

judge-refusal-instance :
    judges unfinished (9 ∷ []) ≡ record { number = 2; place = 4; outcome = 0; reason = 0; field = 0; instances = 0; status = 0; oldest = 0 }
unfolding arc-opened.opened
judge-refusal-instance = demand1.judge-refusal unfinished (9 ∷ []) (λ e. omega (arith, e))

-- ==== the walking reader

step-1-instance : (place : ℕ) → steps long place ≡ Last 1 0
step-1-instance place = (demand1.step-1 long place).1 too_long

-- a sound block of a field of seven bytes and one of five, from behind the start of the last; one that is cut
step-0-instance : (steps (bytes "A : b\r\nBc:\r\n") 8 ≡ Last 0 0) × (steps (bytes "A : b\r\nBc:") 1 ≡ Last 2 10)
unfolding step-opened.opened
step-0-instance = (
  (demand1.step-0 (bytes "A : b\r\nBc:\r\n") 8).1 (lit≤ tt, (refl, (lit< tt, (lit< tt, tt)))),
  (demand1.step-2-to-4 (bytes "A : b\r\nBc:") 1 2 10 (lit≤ tt) (lit≤ tt)).1 (lit≤ tt, (refl, (refl, (lit< tt, tt)))),
)

steps-sound-instance : (bytes_of (given (bytes "A : b\r\nBc:\r\n")).items ≡ bytes "A : b\r\nBc:\r\n") × (last_of (given (bytes "A : b\r\nBc:\r\n")) ≡ Last 0 0)
unfolding step-opened.opened
steps-sound-instance = demand1.steps-sound (bytes "A : b\r\nBc:\r\n") (lit≤ tt) refl

step-numbers-instance : (Last 2 10 ≡ last_of (given (bytes "A : b\r\nBc:"))) × (2 ≤ 4)
unfolding step-opened.opened
step-numbers-instance = demand1.step-numbers (bytes "A : b\r\nBc:") 1 2 10 refl
