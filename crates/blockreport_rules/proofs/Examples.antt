-- The report of a block at worked examples, computed: what each field adds, the numbers of the fields, the answers in order, and what is left in the
-- lent buffer.
use Prim.Native.Nat.{ℕ}
use native.Mathlib.Omega.{arith}
use mathlib.Core.Path.{◌≡◌, refl}
use mathlib.Core.List.{List, [], ◌∷◌, map}
use lib.Dec.{lit≤}
use lib.ListN.{length}
use Rattle.base_readers.specs.Texts.{bytes}
use Rattle.base_readers.proofs.Cases.{case, Says}
use Rattle.ownlist_rules.specs.Calls.{by_list}
use Rattle.blockreport_rules.specs.declared.Detail.TheVariants.{Reported, Identified}
use Rattle.blockreport_rules.specs.BlockReport.{Answer, block_report}
use Rattle.blockreport_rules.specs.Answers.{answer_of, leaves}
use Rattle.blockreport_rules.specs.Terms.{block_text, Known}
use Rattle.blockreport_rules.proofs.Unfolding.{opened}

abbrev pub says : List ℕ → Answer
says w = record { number = 0; place = 0; written = w }

-- a refusal: a number and its place, nothing written
abbrev pub refuses : ℕ → ℕ → Answer
refuses n p = record { number = n; place = p; written = [] }

-- ==== what a field adds

abbrev reported : List ℕ → Answer
reported b = block_report Reported b (bytes "example.com\n") 400

-- whose the identifier is: of an entry of the list, of none, or unreadable
identifiers :
    Says reported
    (case (bytes "Authentication-Results: Example.COM; none\r\n") (says (bytes "field\t1\town\t0\t0\nid\tExample.COM\nnone\n"))
    ∷ case (bytes "Authentication-Results: example.net; none\r\n") (says (bytes "field\t1\tother\t0\t0\nid\texample.net\nnone\n"))
    ∷ case (bytes "Authentication-Results: example.com/x; none\r\n") (says (bytes "field\t1\tunreadable\t7\t0\n"))
    ∷ case (bytes "Authentication-Results:\r\n") (says (bytes "field\t1\tunreadable\t7\t0\n"))
    ∷ case [] (says [])
    ∷ [])
unfolding opened
identifiers = refl

-- the report of the body: results, the two lines of a newer version, and no lines of a body that is not well-formed
results :
    reported (bytes "Authentication-Results: example.com; spf=pass smtp.mailfrom=a.example\r\n")
    ≡ says (bytes "field\t1\town\t0\t0\nid\texample.com\nm\tspf\tpass\np\tsmtp\tmailfrom\tt\ta.example\n")
unfolding opened
results = refl

newer :
    Says reported
    (case (bytes "Authentication-Results: example.com 2; ;;\r\n") (says (bytes "field\t1\town\t8\t0\nid\texample.com\nv\t2\n"))
    ∷ case (bytes "Authentication-Results: b 3\r\n") (says (bytes "field\t1\tother\t8\t0\nid\tb\nv\t3\n"))
    ∷ [])
unfolding opened
newer = refl

malformed :
    Says reported
    (case (bytes "Authentication-Results: example.com\r\n") (says (bytes "field\t1\town\t9\t0\n"))
    ∷ case (bytes "Authentication-Results: a\r\n") (says (bytes "field\t1\tother\t9\t0\n"))
    ∷ [])
unfolding opened
malformed = refl

-- results that are ignored are counted in the line, also more than nine
ignored :
    Says reported
    (case (bytes "Authentication-Results: a; dkim/2=pass; spf=pass\r\n") (says (bytes "field\t1\tother\t0\t1\nid\ta\nm\tspf\tpass\n"))
    ∷ case (bytes "Authentication-Results: a;b=c;b=c;b=c;b=c;b=c;b=c;b=c;b=c;b=c;b=c;b=c;b=c\r\n") (says (bytes "field\t1\tother\t0\t12\nid\ta\n"))
    ∷ [])
unfolding opened
ignored = refl

-- each field named Authentication-Results, in any case, and no other name: not one that is shorter or goes on
names :
    Says reported
    (case (bytes "authentication-RESULTS : a; none\r\n") (says (bytes "field\t1\tother\t0\t0\nid\ta\nnone\n"))
    ∷ case (bytes "Authentication-Result: a; none\r\n") (says [])
    ∷ case (bytes "Authentication-Results-Original: a; none\r\n") (says [])
    ∷ case (bytes "ARC-Authentication-Results: a; none\r\n") (says [])
    ∷ case (bytes "From: a; none\r\n") (says [])
    ∷ [])
unfolding opened
names = refl

-- the fields are numbered from 1, those of other names with them, and told in order
numbers :
    reported (bytes "A:\r\nAuthentication-Results:b 3\r\nB:\r\nC:\r\nAuthentication-Results:/\r\nAuthentication-Results:a\r\n")
    ≡ says (bytes "field\t2\tother\t8\t0\nid\tb\nv\t3\nfield\t5\tunreadable\t7\t0\nfield\t6\tother\t9\t0\n")
unfolding opened
numbers = refl

tenth : reported (bytes "A:\r\nA:\r\nA:\r\nA:\r\nA:\r\nA:\r\nA:\r\nA:\r\nA:\r\nAuthentication-Results:a\r\n") ≡ says (bytes "field\t10\tother\t9\t0\n")
unfolding opened
tenth = refl

-- a field of several lines is one
folded : reported (bytes "Authentication-Results:\r\n a\r\n (c) ; none\r\nB: b\r\n") ≡ says (bytes "field\t1\tother\t0\t0\nid\ta\nnone\n")
unfolding opened
folded = refl

-- any entry of the list; of an empty list none
lists :
    Says (λ l. block_report Reported (bytes "Authentication-Results:b;none\r\n") l 100)
    (case [] (says (bytes "field\t1\tother\t0\t0\nid\tb\nnone\n"))
    ∷ case (bytes "a\nB\nc\n") (says (bytes "field\t1\town\t0\t0\nid\tb\nnone\n"))
    ∷ case (bytes "a\nb.\n") (says (bytes "field\t1\tother\t0\t0\nid\tb\nnone\n"))
    ∷ [])
unfolding opened
lists = refl

-- ==== with the identifier of a field that answers 9

abbrev told : List ℕ → Answer
told b = block_report Identified b (bytes "example.com\n") 400

-- its line stands behind the field's, escaped as in a report
malformed-identified :
    Says told
    (case (bytes "Authentication-Results: example.com\r\n") (says (bytes "field\t1\town\t9\t0\nid\texample.com\n"))
    ∷ case (bytes "Authentication-Results: a; spf\r\n") (says (bytes "field\t1\tother\t9\t0\nid\ta\n"))
    ∷ case (bytes "Authentication-Results: \"b %\" 1 x; none\r\n") (says (bytes "field\t1\tother\t9\t0\nid\tb%20%25\n"))
    ∷ case (bytes "Authentication-Results: a 2x\r\n") (says (bytes "field\t1\tother\t9\t0\nid\ta\n"))
    ∷ [])
unfolding opened
malformed-identified = refl

-- at any other number nothing is added
others-identified :
    Says told
    (case (bytes "Authentication-Results: example.com; none\r\n") (says (bytes "field\t1\town\t0\t0\nid\texample.com\nnone\n"))
    ∷ case (bytes "Authentication-Results: a; spf=pass\r\n") (says (bytes "field\t1\tother\t0\t0\nid\ta\nm\tspf\tpass\n"))
    ∷ case (bytes "Authentication-Results: example.com/x; none\r\n") (says (bytes "field\t1\tunreadable\t7\t0\n"))
    ∷ case (bytes "Authentication-Results:\r\n") (says (bytes "field\t1\tunreadable\t7\t0\n"))
    ∷ case (bytes "Authentication-Results: b 3\r\n") (says (bytes "field\t1\tother\t8\t0\nid\tb\nv\t3\n"))
    ∷ case (bytes "From: a\r\n") (says [])
    ∷ [])
unfolding opened
others-identified = refl

-- one after the other, and what is added counts for the room
block-identified :
    Says told
    (case (bytes "A:\r\nAuthentication-Results:b 3\r\nAuthentication-Results:a\r\nAuthentication-Results:/\r\nAuthentication-Results:c\r\n")
    (says (bytes "field\t2\tother\t8\t0\nid\tb\nv\t3\nfield\t3\tother\t9\t0\nid\ta\nfield\t4\tunreadable\t7\t0\nfield\t5\tother\t9\t0\nid\tc\n"))
    ∷ [])
unfolding opened
block-identified = refl

rooms-identified :
    map (block_report Identified (bytes "Authentication-Results:a\r\n") (bytes "a\n")) (20 ∷ 21 ∷ [])
    ≡ refuses 6 21 ∷ says (bytes "field\t1\town\t9\t0\nid\ta\n") ∷ []
unfolding opened
rooms-identified = refl

-- ==== answers

-- 5 gives the start of the first bad entry, before 2 to 4 and 6
fives :
    map (λ (l : List ℕ). block_report Reported (bytes "A") l 0) (bytes "\n" ∷ bytes "a\n\n" ∷ bytes "ab\nc d\n\n" ∷ bytes "a\nb" ∷ [])
    ≡ refuses 5 0 ∷ refuses 5 2 ∷ refuses 5 3 ∷ refuses 5 2 ∷ []
unfolding opened
fives = refl

-- 2 to 4 with their places, before 6; also where fields before them have a report
blocks :
    Says (λ b. block_report Reported b (bytes "a\n") 0)
    (case (bytes "A: b\r\nA") (refuses 2 7)
    ∷ case (bytes "A: b\rA: c\r\n") (refuses 2 4)
    ∷ case (bytes "A: b\r\n\r\n") (refuses 3 6)
    ∷ case (bytes "Authentication-Results: a\r\nA\r\n") (refuses 3 27)
    ∷ [])
unfolding opened
blocks = refl

-- 6: lent output shorter than the whole output; the place is the bytes needed. Of a block with nothing to tell none are
rooms :
    map (block_report Reported (bytes "A: b\r\nAuthentication-Results: a;none\r\n") (bytes "a\n")) (0 ∷ 25 ∷ 26 ∷ 27 ∷ [])
    ≡ refuses 6 26 ∷ refuses 6 26 ∷ says (bytes "field\t2\town\t0\t0\nid\ta\nnone\n") ∷ says (bytes "field\t2\town\t0\t0\nid\ta\nnone\n") ∷ []
unfolding opened
rooms = refl

no_room : block_report Reported (bytes "A: b\r\n") (bytes "a\n") 0 ≡ says []
unfolding opened
no_room = refl

-- 1 before 5 and before 2: every block of 65,537 bytes that starts with an LF, with a bad list and with a good one
long : (rest : List ℕ) → length rest ≡ 65536 → block_report Reported (10 ∷ rest) (bytes "\n") 0 ≡ refuses 1 0
unfolding opened
long rest e = rw (block_report, by_list, e)

long-good-list : (rest : List ℕ) → length rest ≡ 65536 → block_report Reported (10 ∷ rest) [] 0 ≡ refuses 1 0
unfolding opened
long-good-list rest e = rw (block_report, by_list, e)

-- one of 65,536 is walked, after the list
limit : (rest : List ℕ) → length rest ≡ 65535 → block_report Reported (10 ∷ rest) (bytes "\n") 0 ≡ refuses 5 0
unfolding opened
limit rest e = rw (block_report, by_list, e)

limit-good-list : (rest : List ℕ) → length rest ≡ 65535 → block_report Reported (10 ∷ rest) [] 0 ≡ refuses 2 0
unfolding opened
limit-good-list rest e = rw (block_report, by_list, e)

-- ==== what the caller sees

-- what the code answers has each of the three values at its name
answers : answer_of (record { number = 1; place = 2; written = bytes "abc" }) ≡ record { number = 1; place = 2; written = 3 }
answers = refl

-- 01, Answer numbers: on every answer, bytes past those written stay unchanged
left : map (leaves (says (bytes "ab"))) (bytes "1234567" ∷ bytes "12" ∷ []) ≡ bytes "ab34567" ∷ bytes "ab" ∷ []
left = refl

buffers :
    map (λ (old : List ℕ). leaves (block_report Reported (bytes "Authentication-Results:\r\n") [] (length old)) old)
    (bytes "1234567890123456789012" ∷ bytes "12345678901234567890123" ∷ bytes "1234567890123456789012345" ∷ [])
    ≡ bytes "1234567890123456789012" ∷ bytes "field\t1\tunreadable\t7\t0\n" ∷ bytes "field\t1\tunreadable\t7\t0\n45" ∷ []
unfolding opened
buffers = refl

-- ==== what the theorems speak of

-- what the fields of a block add, numbered from 1, by the entries of a list and with the detail that is asked for
texts :
    map (λ (list : List ℕ). block_text Identified (bytes "A:\r\nAuthentication-Results:a;none\r\nAuthentication-Results:b\r\n") list) (bytes "a\n" ∷ bytes "c\nb\n" ∷ [])
    ≡ bytes "field\t2\town\t0\t0\nid\ta\nnone\nfield\t3\tother\t9\t0\nid\tb\n"
    ∷ bytes "field\t2\tother\t0\t0\nid\ta\nnone\nfield\t3\town\t9\t0\nid\tb\n"
    ∷ []
unfolding opened
texts = refl

text-reported : block_text Reported (bytes "Authentication-Results:b\r\n") (bytes "a\n") ≡ bytes "field\t1\tother\t9\t0\n"
unfolding opened
text-reported = refl

-- they are all known, or not (ownlist_rules has an example for each clause)
known : Known (bytes "A:\r\n") (bytes "a\n")
unfolding opened
known = (lit≤ tt, (refl, refl))

not-bad-list : Known (bytes "A:\r\n") (bytes "a\n\n") → ⊥
unfolding opened
not-bad-list k = let h : ◌≡◌ {A = ℕ} 5 0 = k.1.0 in omega arith
