-- Stripping in two steps at worked examples, computed: the marks, both calls' answers in order, and the two calls one after the other.
use Prim.Native.Nat.{ℕ}
use mathlib.Core.Path.{◌≡◌, refl}
use mathlib.Core.List.{List, [], ◌∷◌, map}
use lib.ListN.{length}
use Rattle.base_readers.specs.Texts.{bytes, same}
use Rattle.base_readers.proofs.Cases.{case, Says}
use Rattle.ownlist_rules.specs.Calls.{by_list}
use Rattle.strip_rules.specs.Strip.{Answer}
use Rattle.strip_rules.proofs.Examples as strip
use Rattle.strip_rules.proofs.Examples.{refuses}
use Rattle.strip_steps_rules.specs.Steps.{marks_of, Marks, mark_fields, mark, copy_fields, copy}
use Rattle.strip_steps_rules.specs.Answers.{answer_of, leaves}
use Rattle.strip_steps_rules.specs.Pair.{pair}
use Rattle.strip_steps_rules.specs.Terms.{marks_for}

unfoldable pub opened : Unit {0}
unfolding strip.opened same marks_of mark_fields mark copy_fields copy pair
opened = tt

abbrev says : ℕ → ℕ → ℕ → List ℕ → Answer
says k r f w = record { number = 0; place = 0; kept = k; removed = r; fields = f; written = w }

abbrev marks : List ℕ → Marks
marks w = record { number = 0; place = 0; written = w }

abbrev refuses_marks : ℕ → ℕ → Marks
refuses_marks n p = record { number = n; place = p; written = [] }

-- four fields, of which the first and the third go
abbrev block : List ℕ
block = bytes "Authentication-Results:/\r\nA: b\r\nAuthentication-Results: a\r\nAuthentication-Results: c\r\n"

-- ==== the first call: a byte for each field in order, 1 if it goes, else 0

marked :
    Says (λ b. mark b (bytes "a\n") 4)
    (case block (marks (1 ∷ 0 ∷ 1 ∷ 0 ∷ []))
    ∷ case (bytes "A: b\r\nAuthentication-Results: a;;\r\n") (marks (0 ∷ 1 ∷ []))
    ∷ case (bytes "A: b\r\n c\r\nD: e\r\n") (marks (0 ∷ 0 ∷ []))
    ∷ case [] (marks [])
    ∷ [])
unfolding opened
marked = refl

-- 6: as many bytes as there are fields
mark-rooms : map (mark block (bytes "a\n")) (0 ∷ 3 ∷ 4 ∷ 5 ∷ [])
    ≡ refuses_marks 6 4 ∷ refuses_marks 6 4 ∷ marks (1 ∷ 0 ∷ 1 ∷ 0 ∷ []) ∷ marks (1 ∷ 0 ∷ 1 ∷ 0 ∷ []) ∷ []
unfolding opened
mark-rooms = refl

-- 5 before 2 to 4, and these before 6
mark-fives : map (λ (l : List ℕ). mark (bytes "A") l 0) (bytes "\n" ∷ bytes "a\nb" ∷ bytes "a\n" ∷ []) ≡ refuses_marks 5 0 ∷ refuses_marks 5 2 ∷ refuses_marks 2 1 ∷ []
unfolding opened
mark-fives = refl

mark-blocks :
    Says (λ b. mark b (bytes "a\n") 0)
    (case (bytes "A: b\r\nA") (refuses_marks 2 7) ∷ case (bytes "A: b\r\n\r\n") (refuses_marks 3 6) ∷ case (bytes "A: b\r\n") (refuses_marks 6 1) ∷ [])
unfolding opened
mark-blocks = refl

-- 1 before 5 and before 2: every block of 65,537 bytes that starts with an LF; one of 65,536 is walked, after the list
mark-long : (rest : List ℕ) → length rest ≡ 65536 → mark (10 ∷ rest) (bytes "\n") 0 ≡ refuses_marks 1 0
unfolding opened
mark-long rest e = rw (mark, by_list, e)

mark-limit : (rest : List ℕ) → length rest ≡ 65535 → mark (10 ∷ rest) (bytes "\n") 0 ≡ refuses_marks 5 0
unfolding opened
mark-limit rest e = rw (mark, by_list, e)

mark-limit-good-list : (rest : List ℕ) → length rest ≡ 65535 → mark (10 ∷ rest) [] 0 ≡ refuses_marks 2 0
unfolding opened
mark-limit-good-list rest e = rw (mark, by_list, e)

-- ==== the second call

-- it copies the rest, given that answer; with any other it refuses with 13: one that is shorter or longer, or has another byte
copied :
    Says (λ a. copy block (bytes "a\n") a 100)
    (case (1 ∷ 0 ∷ 1 ∷ 0 ∷ []) (says 33 53 2 (bytes "A: b\r\nAuthentication-Results: c\r\n"))
    ∷ case [] (refuses 13 0)
    ∷ case (1 ∷ 0 ∷ 1 ∷ []) (refuses 13 0)
    ∷ case (1 ∷ 0 ∷ 1 ∷ 0 ∷ 0 ∷ []) (refuses 13 0)
    ∷ case (1 ∷ 0 ∷ 0 ∷ 0 ∷ []) (refuses 13 0)
    ∷ case (0 ∷ 0 ∷ 1 ∷ 0 ∷ []) (refuses 13 0)
    ∷ case (1 ∷ 0 ∷ 1 ∷ 1 ∷ []) (refuses 13 0)
    ∷ case (1 ∷ 0 ∷ 2 ∷ 0 ∷ []) (refuses 13 0)
    ∷ case (bytes "1010") (refuses 13 0)
    ∷ [])
unfolding opened
copied = refl

-- an answer for another list is no answer for this one
other-list : map (λ (l : List ℕ). (copy block l (1 ∷ 0 ∷ 1 ∷ 0 ∷ []) 100).number) (bytes "a\n" ∷ bytes "A\nb\n" ∷ bytes "c\n" ∷ [] ∷ []) ≡ 0 ∷ 0 ∷ 13 ∷ 13 ∷ []
unfolding opened
other-list = refl

-- 13 before 6; 6 is for the bytes of the kept fields
copy-rooms : map (copy block (bytes "a\n") (1 ∷ 0 ∷ 1 ∷ 0 ∷ [])) (0 ∷ 32 ∷ 33 ∷ [])
    ≡ refuses 6 33 ∷ refuses 6 33 ∷ says 33 53 2 (bytes "A: b\r\nAuthentication-Results: c\r\n") ∷ []
unfolding opened
copy-rooms = refl

copy-thirteen : copy block (bytes "a\n") (0 ∷ []) 0 ≡ refuses 13 0
unfolding opened
copy-thirteen = refl

-- 5, then 2 to 4, before 13
copy-fives : map (λ (l : List ℕ). copy (bytes "A") l (0 ∷ []) 0) (bytes "\n" ∷ bytes "a\nb" ∷ bytes "a\n" ∷ []) ≡ refuses 5 0 ∷ refuses 5 2 ∷ refuses 2 1 ∷ []
unfolding opened
copy-fives = refl

copy_blocks :
    Says (λ b. copy b (bytes "a\n") (0 ∷ []) 0)
    (case (bytes "A: b\r\nA") (refuses 2 7) ∷ case (bytes "A: b\r\n\r\n") (refuses 3 6) ∷ case (bytes "A: b\r\n") (refuses 6 6) ∷ [])
unfolding opened
copy_blocks = refl

-- 1 before all
copy-long : (rest : List ℕ) → length rest ≡ 65536 → copy (10 ∷ rest) (bytes "\n") (0 ∷ []) 0 ≡ refuses 1 0
unfolding opened
copy-long rest e = rw (copy, by_list, e)

copy-limit : (rest : List ℕ) → length rest ≡ 65535 → copy (10 ∷ rest) (bytes "\n") (0 ∷ []) 0 ≡ refuses 5 0
unfolding opened
copy-limit rest e = rw (copy, by_list, e)

-- ==== one after the other: what 01's stripping gives

pairs :
    Says (λ b. pair b (bytes "a\n") 4 33)
    (case block (says 33 53 2 (bytes "A: b\r\nAuthentication-Results: c\r\n"))
    ∷ case (bytes "A: b\r\nAuthentication-Results: a\r\n") (says 6 27 1 (bytes "A: b\r\n"))
    ∷ case (bytes "A: b\r\nA") (refuses 2 7)
    ∷ case [] (says 0 0 0 [])
    ∷ [])
unfolding opened
pairs = refl

-- without room for the first call's bytes it is the first call's 6
pair-short : map (λ (n : ℕ). pair block (bytes "a\n") n 0) (3 ∷ 4 ∷ []) ≡ refuses 6 4 ∷ refuses 6 33 ∷ []
unfolding opened
pair-short = refl

-- ==== what the caller sees

answers : answer_of (record { number = 1; place = 2; written = bytes "abc" }) ≡ record { number = 1; place = 2; written = 3 }
answers = refl

left : map (leaves (marks (bytes "ab"))) (bytes "1234567" ∷ bytes "12" ∷ []) ≡ bytes "ab34567" ∷ bytes "ab" ∷ []
left = refl

-- what the theorems speak of: the marks of all fields
all-marks : marks_for block (bytes "a\n") ≡ 1 ∷ 0 ∷ 1 ∷ 0 ∷ []
unfolding opened
all-marks = refl
