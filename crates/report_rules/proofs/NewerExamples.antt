-- What demand 3 speaks of at worked examples: naming a header version, well-formed fields, results and the places beside them computed; and for
-- each clause of a notion something that it does not hold of.
use Prim.Native.Nat.{ℕ, ◌≤◌}
use native.Mathlib.Omega.{arith}
use mathlib.Core.Path.{◌≡◌, refl, ap}
use mathlib.Core.Bool.{true, false}
use mathlib.Core.List.{List, [], ◌∷◌, map}
use mathlib.Core.Option.{none}
use lib.ListN.{length, get_or}
use Rattle.base_sequences.proofs.Booleans.{no_true}
use Rattle.base_readers.specs.Texts.{bytes}
use Rattle.base_readers.specs.Parsers.{Got, nothing, got}
use Rattle.base_readers.proofs.Cases.{case, Says}
use Rattle.lexis_rules.specs.declared.VersionNumber.TheVariants.{Exact}
use Rattle.result_rules.specs.Results.{Result}
use Rattle.report_rules.specs.Body.{Head, unreadable, malformed, newer, no_result, results, reading}
use Rattle.report_rules.specs.Report.{Answer}
use Rattle.report_rules.specs.Newer.{naming, Names, WithinLimit, well_formed, WellFormed, results_of, IsResult, Same, OneMore}
use Rattle.report_rules.specs.Beside.{insertion_places, insert_at}
use Rattle.report_rules.proofs.Unfolding.{opened}

-- ==== naming a header version

abbrev head : List ℕ → List ℕ → Head
head i v = record { identifier = i; version = v }

-- 01, How strong: a readable identifier, non-empty space, a digit run, and the end or one of the five bytes follow one another
names :
    Says naming
    (case (bytes "a 02") (got (head (bytes "a") (bytes "2")) 4)
    ∷ case (bytes "a(b)1;;") (got (head (bytes "a") (bytes "1")) 5)
    ∷ case (bytes "a") nothing
    ∷ case (bytes "a ;") nothing
    ∷ case (bytes "a2") nothing
    ∷ case (bytes "a 2x") nothing
    ∷ case (bytes "a/b 2") nothing
    ∷ [])
unfolding opened
names = refl

-- the place after its number, and its digits: no others
names-two : Names (bytes "a 02;") (bytes "2") 4
unfolding opened
names-two = record { identifier = bytes "a"; reads = refl }

not-its-end : Names (bytes "a 02;") (bytes "2") 5 → ⊥
unfolding opened
not-its-end n = let h : ◌≡◌ {A = ℕ} 4 5 = ap (λ (g : Got Head). elim g [ nothing ↦ 0 | got h k ↦ k ]) n.reads in omega arith

not-its-digits : Names (bytes "a 02;") (bytes "3") 4 → ⊥
unfolding opened
not-its-digits n = let h : ◌≡◌ {A = ℕ} 50 51 = ap (λ (g : Got Head). elim g [ nothing ↦ 0 | got h k ↦ get_or h.version 0 0 ]) n.reads in omega arith

-- a field within the size limit: one of 65,536 bytes is, and none of 65,537
at-limit : (body : List ℕ) → length body ≡ 65536 → WithinLimit body
at-limit body e = omega (arith, e)

within : (body : List ℕ) → length body ≡ 65537 → WithinLimit body → ⊥
within body e h = let l : 65537 ≤ 65536 = rw e at h in omega arith

-- ==== well-formed fields

-- 01, How strong: header version 1 or absent, and results or the word none
well-formed : map well_formed (unreadable ∷ malformed ∷ newer (head [] []) ∷ no_result [] ∷ results [] [] ∷ []) ≡ false ∷ false ∷ false ∷ true ∷ true ∷ []
well-formed = refl

well-formed-bodies :
    Says (λ b. well_formed (reading b))
    (case (bytes "a;none") true ∷ case (bytes "a 1;b=c") true ∷ case (bytes "a 2;b=c") false ∷ case (bytes "a") false ∷ case (bytes "/;none") false ∷ [])
unfolding opened
well-formed-bodies = refl

is-well-formed : WellFormed (bytes "a;none")
unfolding opened
is-well-formed = refl

not-well-formed : WellFormed (bytes "a 2;none") → ⊥
unfolding opened
not-well-formed e = no_true e

-- the results of a body; the word none has none
of-bodies : Says (λ b. length (results_of (reading b))) (case (bytes "a;b=c;d=e") 2 ∷ case (bytes "a;b=c") 1 ∷ case (bytes "a;none") 0 ∷ case (bytes "a 2;b=c") 0 ∷ [])
unfolding opened
of-bodies = refl

-- ==== a result, and where it is put

-- 01, How strong: a well-formed result runs from its ";" to the last byte of its last part: with a space behind it, it is none
abbrev taken : Got Result → ℕ
taken nothing = 0
taken (got r n) = n

is-result : IsResult (bytes ";b=c") (record { methodspec = record { method = bytes "b"; version = Exact 1; result = bytes "c" }; reason = none; properties = [] })
unfolding opened
is-result = refl

whole-result : (r : Result) → IsResult (bytes ";b=c ") r → ⊥
unfolding opened
whole-result r w = let h : ◌≡◌ {A = ℕ} 4 5 = ap taken w in omega arith

-- 01, How strong: one put before or after it touches it, or stands on the far side of the space next to it
places :
    Says insertion_places
    (case (bytes "a;b=c") (1 ∷ 1 ∷ 5 ∷ 5 ∷ [])
    ∷ case (bytes "a 1 ;b=c (d)") (3 ∷ 4 ∷ 8 ∷ 12 ∷ [])
    ∷ case (bytes "a;b=c\t;d=e") (1 ∷ 1 ∷ 5 ∷ 6 ∷ 5 ∷ 6 ∷ 10 ∷ 10 ∷ [])
    ∷ case (bytes "a;none") []
    ∷ case (bytes "/;b=c") []
    ∷ [])
unfolding opened
places = refl

puts : map (λ (k : ℕ). insert_at k (bytes "xy") (bytes "abc")) (0 ∷ 1 ∷ 3 ∷ []) ≡ bytes "xyabc" ∷ bytes "axybc" ∷ bytes "abcxy" ∷ []
unfolding opened
puts = refl

-- ==== the same answer

abbrev says : ℕ → ℕ → ℕ → List ℕ → Answer
says n p k w = record { number = n; place = p; ignored = k; written = w }

-- 01, How strong: answers and reports are the same when number, place returned and bytes written are
same_number : Same (says 0 6 1 (bytes "a")) (says 8 6 1 (bytes "a")) → ⊥
same_number s = let h : ◌≡◌ {A = ℕ} 0 8 = s.number in omega arith

same_place : Same (says 6 5 1 (bytes "a")) (says 6 7 1 (bytes "a")) → ⊥
same_place s = let h : ◌≡◌ {A = ℕ} 5 7 = s.place in omega arith

same-written : Same (says 0 0 1 (bytes "a")) (says 0 0 1 (bytes "b")) → ⊥
same-written s = let e : bytes "a" ≡ bytes "b" = s.written in let h : ◌≡◌ {A = ℕ} 97 98 = ap (λ (l : List ℕ). get_or l 0 0) e in omega arith

-- the ignored count has no part in it
same-counts : Same (says 0 0 1 (bytes "a")) (says 0 0 2 (bytes "a"))
same-counts = record { number = refl; place = refl; written = refl }

-- the same, and where it is a report one ignored result more is counted: not as many, and not two
one_more : OneMore (says 0 0 5 (bytes "a")) (says 0 0 4 (bytes "a"))
one_more = record { same = record { number = refl; place = refl; written = refl }; counted = λ e. refl }

not-as-many : OneMore (says 0 0 4 (bytes "a")) (says 0 0 4 (bytes "a")) → ⊥
not-as-many m = let h : ◌≡◌ {A = ℕ} 4 5 = m.counted refl in omega arith

not-other-bytes : OneMore (says 0 0 5 (bytes "a")) (says 0 0 4 (bytes "b")) → ⊥
not-other-bytes m = same-written' m.same.written
  where
    same-written' : bytes "a" ≡ bytes "b" → ⊥
    same-written' e = let h : ◌≡◌ {A = ℕ} 97 98 = ap (λ (l : List ℕ). get_or l 0 0) e in omega arith

-- a refusal counts nothing: there the count is left open
refusal-one-more : OneMore (says 6 9 0 []) (says 6 9 0 [])
refusal-one-more = record { same = record { number = refl; place = refl; written = refl }; counted = λ e. absurd (let h : ◌≡◌ {A = ℕ} 6 0 = e in omega arith) }
