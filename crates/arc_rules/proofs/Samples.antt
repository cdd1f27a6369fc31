-- Chains at worked examples, computed: the places of fifty instances, each outcome with its order, the verdicts, and the answers in order.
-- The tables are small, so that an error shows the two sides.
use Prim.Native.Nat.{ℕ, suc}
use mathlib.Core.Path.{◌≡◌, refl}
use mathlib.Core.Bool.{true, false}
use mathlib.Core.List.{List, [], ◌∷◌, ◌++◌, map}
use lib.ListN.{length, take}
use Rattle.base_readers.specs.Texts.{bytes}
use Rattle.base_readers.specs.Parsers.{Got, nothing, got}
use Rattle.base_readers.proofs.Cases.{case, Says}
use Rattle.block_rules.specs.Fields.{fields}
use Rattle.arc_rules.specs.declared.Kind.{Kind}
use Rattle.arc_rules.specs.declared.Kind.TheVariants.{Results, Signature, Seal}
use Rattle.arc_rules.specs.Sets.{Said}
use Rattle.arc_rules.specs.Chain.{Sets, no_sets, column, recorded, gathered, Outcome, none, failed, built, outcome_of, seal_good, signature_good, passes, oldest_pass, Answer, judged, judge}
use Rattle.arc_rules.specs.Answers.{answer_of}
use Rattle.arc_rules.proofs.Unfolding.{opened}

-- ==== fifty instances with three places each

fifty : length no_sets.places ∷ length no_sets.cvs ∷ [] ≡ 50 ∷ 50 ∷ []
fifty = refl

columns : map column (Results ∷ Signature ∷ Seal ∷ []) ≡ 0 ∷ 1 ∷ 2 ∷ []
columns = refl

-- a field of a kind: what it says, or nothing
pub record Seen : Type 0 where
  pub kind : Kind
  pub says : Got Said

abbrev at : Kind → ℕ → ℕ → Seen
at k i c = record { kind = k; says = got (record { instance = i; cv = c }) 9 }

abbrev bad : Kind → Seen
bad k = record { kind = k; says = nothing }

-- such fields one after the other, numbered after the first n
abbrev hears : ℕ → List Seen → Sets → Sets
hears n [] z = z
hears n (x ∷ xs) z = hears (suc n) xs (recorded (suc n) x.kind x.says z)

abbrev sets : List Seen → Sets
sets l = hears 0 l no_sets

-- two sets, instance 2 first
abbrev two : List Seen
two = at Seal 2 2 ∷ at Results 2 0 ∷ at Results 1 0 ∷ at Signature 1 0 ∷ at Seal 1 1 ∷ at Signature 2 0 ∷ []

-- 01, The chain: for each instance the number of the field of each kind; 0 for an empty place
places : take 3 (sets two).places ≡ (3 ∷ 4 ∷ 5 ∷ []) ∷ (2 ∷ 6 ∷ 1 ∷ []) ∷ (0 ∷ 0 ∷ 0 ∷ []) ∷ []
unfolding opened
places = refl

-- a seal's chain value, which the other kinds leave as it is
values : take 3 (sets two).cvs ≡ 1 ∷ 2 ∷ 0 ∷ []
unfolding opened
values = refl

-- N the highest instance, wherever it stands
highests : map (λ (l : List Seen). (sets l).highest) ([] ∷ two ∷ (at Seal 50 2 ∷ two) ∷ (bad Seal ∷ []) ∷ []) ≡ 0 ∷ 2 ∷ 50 ∷ 0 ∷ []
unfolding opened
highests = refl

-- (a) the first unreadable field, of each kind
unreadables :
    map (λ (l : List Seen). (sets l).unreadable) (two ∷ (two ++ (bad Results ∷ bad Seal ∷ [])) ∷ (bad Signature ∷ two) ∷ (at Seal 1 1 ∷ bad Seal ∷ []) ∷ [])
    ≡ 0 ∷ 7 ∷ 1 ∷ 2 ∷ []
unfolding opened
unreadables = refl

-- (b) the first repeated kind, in block order, at one instance: the repeating field
repeateds :
    map (λ (l : List Seen). (sets l).repeated)
    (two ∷ (two ++ (at Seal 3 2 ∷ at Seal 2 2 ∷ at Seal 1 2 ∷ [])) ∷ (at Results 1 0 ∷ two) ∷ (two ++ (at Signature 2 0 ∷ [])) ∷ (bad Seal ∷ bad Seal ∷ []) ∷ [])
    ≡ 0 ∷ 8 ∷ 4 ∷ 7 ∷ 0 ∷ []
unfolding opened
repeateds = refl

-- ==== the fields of a block

abbrev gathers : List ℕ → Sets
gathers b = gathered 0 (fields b).items no_sets

-- fields are numbered among all fields from 1; one of another name is passed over
numbers :
    map (λ (b : List ℕ). (gathers b).unreadable)
    (bytes "ARC-Seal:\r\n" ∷ bytes "A:\r\nARC-Seal:\r\n" ∷ bytes "ARC-Seal:\r\nA:\r\n" ∷ bytes "A:\r\n" ∷ [])
    ≡ 1 ∷ 2 ∷ 1 ∷ 0 ∷ []
unfolding opened
numbers = refl

-- the first kind alone needs no tag list
tables : take 1 (gathers (bytes "A:\r\nARC-Authentication-Results:i=1;(\r\nARC-Message-Signature:i=1;\r\n")).places ≡ (2 ∷ 0 ∷ 0 ∷ []) ∷ []
unfolding opened
tables = refl

-- ==== outcomes

-- sets with this table, these chain values, and the numbers of the first unreadable and the first repeated field
abbrev chain : List (List ℕ) → List ℕ → ℕ → ℕ → Sets
chain t c u r = record { places = t; cvs = c; unreadable = u; repeated = r; highest = length c }

abbrev full : List ℕ
full = 1 ∷ 2 ∷ 3 ∷ []

-- 01, The chain: none if there are no such fields; else failed for the first reason that applies: (a) before (b), and that before (c) to (e)
orders :
    map outcome_of
    (no_sets ∷ chain (full ∷ []) (1 ∷ []) 7 0 ∷ chain (full ∷ []) (1 ∷ []) 7 4 ∷ chain (full ∷ []) (1 ∷ []) 0 4 ∷ chain ((0 ∷ 0 ∷ 3 ∷ []) ∷ []) (3 ∷ []) 0 4
    ∷ chain [] [] 1 0 ∷ [])
    ≡ none ∷ failed 1 7 ∷ failed 1 7 ∷ failed 2 4 ∷ failed 2 4 ∷ failed 1 1 ∷ []
unfolding opened
orders = refl

-- (c) with N the highest instance, an empty place in 1 to N, of each kind; before (d) and (e)
empties :
    map (λ (t : List (List ℕ)). outcome_of (chain t (1 ∷ 2 ∷ []) 0 0))
    ((full ∷ full ∷ []) ∷ (full ∷ (0 ∷ 5 ∷ 6 ∷ []) ∷ []) ∷ (full ∷ (4 ∷ 0 ∷ 6 ∷ []) ∷ []) ∷ (full ∷ (4 ∷ 5 ∷ 0 ∷ []) ∷ []) ∷ ((0 ∷ 0 ∷ 0 ∷ []) ∷ full ∷ [])
    ∷ (full ∷ full ∷ (0 ∷ 0 ∷ 0 ∷ []) ∷ []) ∷ [])
    ≡ built 2 ∷ failed 3 0 ∷ failed 3 0 ∷ failed 3 0 ∷ failed 3 0 ∷ built 2 ∷ []
unfolding opened
empties = refl

empties-first :
    map (λ (c : ℕ). outcome_of (chain ((4 ∷ 5 ∷ 0 ∷ []) ∷ []) (c ∷ []) 0 0)) (0 ∷ 1 ∷ 2 ∷ 3 ∷ []) ≡ failed 3 0 ∷ failed 3 0 ∷ failed 3 0 ∷ failed 3 0 ∷ []
unfolding opened
empties-first = refl

-- (d) the seal at N has cv fail, before (e); (e) the seal at 1 isn't none or a later one isn't pass. Else built, with N
chain-values-one : map (λ (c : ℕ). outcome_of (chain (full ∷ []) (c ∷ []) 0 0)) (1 ∷ 2 ∷ 3 ∷ []) ≡ built 1 ∷ failed 5 0 ∷ failed 4 0 ∷ []
unfolding opened
chain-values-one = refl

chain-values :
    map (λ (cs : List ℕ). outcome_of (chain (full ∷ full ∷ full ∷ []) cs 0 0))
    ((1 ∷ 2 ∷ 2 ∷ []) ∷ (1 ∷ 2 ∷ 3 ∷ []) ∷ (2 ∷ 2 ∷ 3 ∷ []) ∷ (3 ∷ 3 ∷ 3 ∷ []) ∷ (2 ∷ 2 ∷ 2 ∷ []) ∷ (3 ∷ 2 ∷ 2 ∷ []) ∷ (1 ∷ 1 ∷ 2 ∷ []) ∷ (1 ∷ 3 ∷ 2 ∷ [])
    ∷ (1 ∷ 2 ∷ 1 ∷ []) ∷ [])
    ≡ built 3 ∷ failed 4 0 ∷ failed 4 0 ∷ failed 4 0 ∷ failed 5 0 ∷ failed 5 0 ∷ failed 5 0 ∷ failed 5 0 ∷ failed 5 0 ∷ []
unfolding opened
chain-values = refl

-- ==== verdicts

-- 01, The chain: 0 to 3, seal good counting 2 and signature good counting 1
goods : map seal_good (0 ∷ 1 ∷ 2 ∷ 3 ∷ []) ++ map signature_good (0 ∷ 1 ∷ 2 ∷ 3 ∷ []) ≡ false ∷ false ∷ true ∷ true ∷ false ∷ true ∷ false ∷ true ∷ []
goods = refl

-- pass when all N seals and signature N are good
passing :
    map passes
    ((3 ∷ []) ∷ (2 ∷ []) ∷ (1 ∷ []) ∷ (3 ∷ 3 ∷ []) ∷ (2 ∷ 3 ∷ []) ∷ (1 ∷ 3 ∷ []) ∷ (0 ∷ 3 ∷ []) ∷ (3 ∷ 2 ∷ []) ∷ (3 ∷ 1 ∷ []) ∷ (2 ∷ 1 ∷ 3 ∷ []) ∷ [])
    ≡ true ∷ false ∷ false ∷ true ∷ true ∷ false ∷ false ∷ false ∷ false ∷ false ∷ []
unfolding opened
passing = refl

-- oldest-pass is 0 if all signatures are good, else one more than the highest instance with a bad one
oldests :
    map oldest_pass ((3 ∷ 3 ∷ 3 ∷ []) ∷ (2 ∷ 3 ∷ 3 ∷ []) ∷ (3 ∷ 2 ∷ 3 ∷ []) ∷ (2 ∷ 2 ∷ 3 ∷ []) ∷ (2 ∷ 3 ∷ 2 ∷ 3 ∷ []) ∷ (3 ∷ []) ∷ [])
    ≡ 0 ∷ 2 ∷ 3 ∷ 3 ∷ 4 ∷ 0 ∷ []
unfolding opened
oldests = refl

-- ==== answers

-- a number and its place, and 0 for everything else
abbrev pub zeros : ℕ → ℕ → Answer
zeros n p = record { number = n; place = p; outcome = 0; reason = 0; field = 0; instances = 0; status = 0; oldest = 0 }

abbrev pub fails : ℕ → ℕ → Answer
fails a f = record { number = 0; place = 0; outcome = 1; reason = a; field = f; instances = 0; status = 2; oldest = 0 }

abbrev passed : ℕ → ℕ → Answer
passed n o = record { number = 0; place = 0; outcome = 2; reason = 0; field = 0; instances = n; status = 1; oldest = o }

abbrev rejected : ℕ → Answer
rejected n = record { number = 0; place = 0; outcome = 2; reason = 0; field = 0; instances = n; status = 2; oldest = 0 }

-- 01, The chain: if built, N bytes of 0 to 3: the status, and where it is pass the oldest-pass
verdicts :
    map (judged (built 2)) ((3 ∷ 3 ∷ []) ∷ (2 ∷ 3 ∷ []) ∷ (3 ∷ 2 ∷ []) ∷ (1 ∷ 3 ∷ []) ∷ (0 ∷ 0 ∷ []) ∷ [])
    ≡ passed 2 0 ∷ passed 2 2 ∷ rejected 2 ∷ rejected 2 ∷ rejected 2 ∷ []
unfolding opened
verdicts = refl

-- any other length or byte is 10
bad-verdicts :
    map (judged (built 2)) ((3 ∷ 4 ∷ []) ∷ (4 ∷ 3 ∷ []) ∷ (0 ∷ 255 ∷ []) ∷ [] ∷ (3 ∷ []) ∷ (3 ∷ 3 ∷ 3 ∷ []) ∷ [])
    ≡ zeros 10 0 ∷ zeros 10 0 ∷ zeros 10 0 ∷ zeros 10 0 ∷ zeros 10 0 ∷ zeros 10 0 ∷ []
unfolding opened
bad-verdicts = refl

-- otherwise they aren't read, and the status is the outcome's: none or fail
unread : map (λ (o : Outcome). judged o (9 ∷ 9 ∷ [])) (none ∷ failed 1 7 ∷ failed 2 8 ∷ failed 3 0 ∷ []) ≡ zeros 0 0 ∷ fails 1 7 ∷ fails 2 8 ∷ fails 3 0 ∷ []
unfolding opened
unread = refl

-- what the code answers has each of the eight values at its name
answers :
    answer_of (record { number = 1; place = 2; outcome = 3; reason = 4; field = 5; instances = 6; status = 7; oldest = 8 })
    ≡ record { number = 1; place = 2; outcome = 3; reason = 4; field = 5; instances = 6; status = 7; oldest = 8 }
answers = refl

-- ==== blocks

-- one set, in an order of its own, with a field of another name between
abbrev one : List ℕ
one =
    bytes "arc-seal:\r\n i=1; a=;b=;d=;s=;cv=None\r\nFrom: a\r\n"
    ++ (bytes "ARC-Authentication-Results: i=01; a\r\n" ++ bytes "ARC-Message-Signature : i=1;a=;b=;bh=;d=;h=;s=\r\n")

judge-built : map (judge one) ((3 ∷ []) ∷ (2 ∷ []) ∷ (4 ∷ []) ∷ []) ≡ passed 1 0 ∷ rejected 1 ∷ zeros 10 0 ∷ []
unfolding opened
judge-built = refl

abbrev pub judges : List ℕ → Answer
judges b = judge b (9 ∷ [])

-- a block without such fields; (a) and (b) with their field; (c)
judge-failed :
    Says judges
    (case [] (zeros 0 0)
    ∷ case (bytes "From: a\r\n") (zeros 0 0)
    ∷ case (bytes "A:\r\nARC-Seal: i=1\r\n") (fails 1 2)
    ∷ case (bytes "arc-authentication-results: i=2;\r\nA:\r\nARC-Authentication-Results: i=02;\r\n") (fails 2 3)
    ∷ case (bytes "ARC-Authentication-Results: i=1;\r\n") (fails 3 0)
    ∷ [])
unfolding opened
judge-failed = refl

-- 01, Answer numbers: 2 to 4 with their places, before every outcome; a refusal has zeros everywhere
refusals :
    Says judges
    (case (bytes "A: b\rc\r\n") (zeros 2 4) ∷ case (bytes "ARC-Seal:\r\nA") (zeros 2 12) ∷ case (bytes "ARC-Seal:\r\nA\r\n") (zeros 3 11) ∷ [])
unfolding opened
refusals = refl

-- .. and before 10
two-before-ten : judges (one ++ bytes "A") ≡ zeros 2 133
unfolding opened
two-before-ten = refl

-- 1 before 2: every block of 65,537 bytes that starts with an LF. One of 65,536 is walked
long : (rest : List ℕ) → length rest ≡ 65536 → judges (10 ∷ rest) ≡ zeros 1 0
unfolding opened
long rest e = rw (judge, e)

limit : (rest : List ℕ) → length rest ≡ 65535 → judges (10 ∷ rest) ≡ zeros 2 0
unfolding opened
limit rest e = rw (judge, e)
