-- Stripping at worked examples, computed: which fields go, the sums, the answers in order, and what is left in the lent buffer.
use Prim.Native.Nat.{ℕ}
use mathlib.Core.Path.{◌≡◌, refl}
use mathlib.Core.List.{List, [], ◌∷◌, map}
use lib.ListN.{length}
use Rattle.base_readers.specs.Texts.{bytes}
use Rattle.base_readers.proofs.Cases.{case, Says}
use Rattle.block_rules.proofs.Examples as block
use Rattle.ownlist_rules.proofs.Unfolding as authserv
use Rattle.ownlist_rules.specs.Calls.{by_list}
use Rattle.strip_rules.specs.Strip.{ours_or_unreadable, is_removed, Answer, fitted, strip_fields, strip}
use Rattle.strip_rules.specs.Answers.{answer_of, leaves}

unfoldable pub opened : Unit {0}
unfolding block.opened authserv.opened ours_or_unreadable is_removed fitted strip_fields strip
opened = tt

abbrev says : ℕ → ℕ → ℕ → List ℕ → Answer
says k r f w = record { number = 0; place = 0; kept = k; removed = r; fields = f; written = w }

-- a refusal: a number and its place, zero counts, nothing written
abbrev pub refuses : ℕ → ℕ → Answer
refuses n p = record { number = n; place = p; kept = 0; removed = 0; fields = 0; written = [] }

-- ==== which fields go

abbrev stripped : List ℕ → Answer
stripped b = strip b (bytes "example.com\n") 100

-- 01, Samples on each side: kept 19, removed 44, fields 1; and an empty block
sample :
    Says stripped
    (case (bytes "Authentication-Results : Example.COM; none\r\nFrom: a@b.example\r\n") (says 19 44 1 (bytes "From: a@b.example\r\n"))
    ∷ case (bytes "Authentication-Results: example.net; none\r\n") (says 43 0 0 (bytes "Authentication-Results: example.net; none\r\n"))
    ∷ case [] (says 0 0 0 [])
    ∷ [])
unfolding opened
sample = refl

-- 01, Stripping: each field named Authentication-Results, in any case, and no other name: not one that is shorter or goes on
names :
    Says stripped
    (case (bytes "authentication-RESULTS: example.com; none\r\n") (says 0 43 1 [])
    ∷ case (bytes "Authentication-Result: example.com\r\n") (says 36 0 0 (bytes "Authentication-Result: example.com\r\n"))
    ∷ case (bytes "Authentication-Results-Original: example.com\r\n") (says 46 0 0 (bytes "Authentication-Results-Original: example.com\r\n"))
    ∷ case (bytes "ARC-Authentication-Results: example.com\r\n") (says 41 0 0 (bytes "ARC-Authentication-Results: example.com\r\n"))
    ∷ case (bytes "From: example.com\r\n") (says 19 0 0 (bytes "From: example.com\r\n"))
    ∷ case (bytes "From: /\r\n") (says 9 0 0 (bytes "From: /\r\n"))
    ∷ [])
unfolding opened
names = refl

-- 01, Stripping: whose identifier is unreadable or equals a list entry; the rest of the body doesn't matter
identifiers :
    Says stripped
    (case (bytes "Authentication-Results:/\r\n") (says 0 26 1 [])
    ∷ case (bytes "Authentication-Results:\r\n") (says 0 25 1 [])
    ∷ case (bytes "Authentication-Results: example.com/\r\n") (says 0 38 1 [])
    ∷ case (bytes "Authentication-Results: example.com (;; rubbish\r\n") (says 0 49 1 [])
    ∷ case (bytes "Authentication-Results: example.net (;; rubbish\r\n") (says 49 0 0 (bytes "Authentication-Results: example.net (;; rubbish\r\n"))
    ∷ case (bytes "Authentication-Results: example.com.\r\n") (says 38 0 0 (bytes "Authentication-Results: example.com.\r\n"))
    ∷ case (bytes "authentication-results:(c)\r\n \"example\\.com\"(;;\r\nA: b\r\n") (says 6 48 1 (bytes "A: b\r\n"))
    ∷ [])
unfolding opened
identifiers = refl

-- any entry of the list; of an empty list none, but an unreadable identifier goes all the same
lists :
    Says (λ l. strip (bytes "Authentication-Results: b; none\r\nAuthentication-Results:;\r\n") l 100)
    (case [] (says 33 26 1 (bytes "Authentication-Results: b; none\r\n"))
    ∷ case (bytes "a\nB\nc\n") (says 0 59 2 [])
    ∷ case (bytes "a\nb.\n") (says 33 26 1 (bytes "Authentication-Results: b; none\r\n"))
    ∷ [])
unfolding opened
lists = refl

-- ==== sums

-- 01, Stripping: kept bytes, removed bytes and removed fields, each a sum over the fields; the kept ones in order
sums :
    Says stripped
    (case (bytes "A: b\r\nAuthentication-Results:/\r\nC: d\r\n e\r\nAuthentication-Results:\r\n example.com\r\nF:\r\n")
    (says 20 65 2 (bytes "A: b\r\nC: d\r\n e\r\nF:\r\n"))
    ∷ case (bytes "Authentication-Results:/\r\nB:\r\nAuthentication-Results:;\r\nA:\r\n") (says 8 52 2 (bytes "B:\r\nA:\r\n"))
    ∷ case (bytes "A:\r\nA:\r\n") (says 8 0 0 (bytes "A:\r\nA:\r\n"))
    ∷ [])
unfolding opened
sums = refl

-- ==== answers

-- 01, Answer numbers: 5 gives the start of the first bad entry, before 2 to 4 and 6
fives :
    map (λ (l : List ℕ). strip (bytes "A") l 0) (bytes "\n" ∷ bytes "a\n\n" ∷ bytes "ab\nc d\n\n" ∷ bytes "a\nb" ∷ [])
    ≡ refuses 5 0 ∷ refuses 5 2 ∷ refuses 5 3 ∷ refuses 5 2 ∷ []
unfolding opened
fives = refl

-- 2 to 4 with their places, before 6; also where the fields before them would go
blocks :
    Says (λ b. strip b (bytes "a\n") 0)
    (case (bytes "A: b\r\nA") (refuses 2 7)
    ∷ case (bytes "A: b\rA: c\r\n") (refuses 2 4)
    ∷ case (bytes "A: b\r\n\r\n") (refuses 3 6)
    ∷ case (bytes "Authentication-Results: a\r\nA\r\n") (refuses 3 27)
    ∷ [])
unfolding opened
blocks = refl

-- 6: lent output shorter than the whole output; the place is the bytes needed, those of the kept fields alone
rooms :
    map (strip (bytes "A: b\r\nAuthentication-Results: a\r\n") (bytes "a\n")) (0 ∷ 5 ∷ 6 ∷ 7 ∷ [])
    ≡ refuses 6 6 ∷ refuses 6 6 ∷ says 6 27 1 (bytes "A: b\r\n") ∷ says 6 27 1 (bytes "A: b\r\n") ∷ []
unfolding opened
rooms = refl

-- 1 before 5 and before 2: every block of 65,537 bytes that starts with an LF, with a bad list and with a good one
long : (rest : List ℕ) → length rest ≡ 65536 → strip (10 ∷ rest) (bytes "\n") 0 ≡ refuses 1 0
unfolding opened
long rest e = rw (strip, by_list, e)

long-good-list : (rest : List ℕ) → length rest ≡ 65536 → strip (10 ∷ rest) [] 0 ≡ refuses 1 0
unfolding opened
long-good-list rest e = rw (strip, by_list, e)

-- one of 65,536 is walked, after the list
limit : (rest : List ℕ) → length rest ≡ 65535 → strip (10 ∷ rest) (bytes "\n") 0 ≡ refuses 5 0
unfolding opened
limit rest e = rw (strip, by_list, e)

limit-good-list : (rest : List ℕ) → length rest ≡ 65535 → strip (10 ∷ rest) [] 0 ≡ refuses 2 0
unfolding opened
limit-good-list rest e = rw (strip, by_list, e)

-- ==== what the caller sees

-- what the code answers has each of the five values at its name
answers :
    answer_of (record { number = 1; place = 2; kept = 3; removed = 4; fields = 5; written = bytes "ab" })
    ≡ record { number = 1; place = 2; kept = 3; removed = 4; fields = 5 }
answers = refl

-- 01, Answer numbers: on every answer, bytes past those written stay unchanged
left :
    map (leaves (says 2 5 1 (bytes "ab"))) (bytes "1234567" ∷ bytes "12" ∷ [])
    ≡ bytes "ab34567" ∷ bytes "ab" ∷ []
left = refl

buffers :
    map (λ (old : List ℕ). leaves (strip (bytes "A:\r\nAuthentication-Results: a\r\n") (bytes "a\n") (length old)) old) (bytes "123" ∷ bytes "1234" ∷ bytes "123456" ∷ [])
    ≡ bytes "123" ∷ bytes "A:\r\n" ∷ bytes "A:\r\n56" ∷ []
unfolding opened
buffers = refl
