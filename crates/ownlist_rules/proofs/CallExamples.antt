-- The order of refusals at worked examples, computed: each definition by itself, and all of them one after the other.
use Prim.Native.Nat.{ℕ}
use native.Mathlib.Omega.{arith}
use mathlib.Core.Path.{◌≡◌, refl}
use mathlib.Core.List.{List, [], ◌∷◌, map}
use lib.Dec.{lit≤}
use lib.ListN.{length}
use Rattle.base_readers.specs.Texts.{bytes}
use Rattle.base_readers.proofs.Cases.{case, Says}
use Rattle.block_rules.specs.Fields.{Field, fields}
use Rattle.block_rules.proofs.Examples as block
use Rattle.ownlist_rules.specs.Calls.{or_refusal, by_list, by_fields, or_short, Known}
use Rattle.ownlist_rules.proofs.Unfolding as lists

unfoldable opened : Unit {0}
unfolding block.opened lists.opened
opened = tt

-- an answer here is a list: of a refusal its number and its place, and else 0 and what is told behind it
abbrev refuses : ℕ → ℕ → List ℕ
refuses n p = n ∷ p ∷ []

abbrev lengths : List (List ℕ) → List ℕ
lengths own = 0 ∷ map length own

abbrev sizes : List Field → List ℕ
sizes fs = 0 ∷ map (λ (f : Field). length f.bytes) fs

-- a walk's refusal with its number and place, whatever its items are; at the end what they give
walks :
    map (λ (n : ℕ). or_refusal refuses (record { items = 7 ∷ 8 ∷ []; number = n; place = 9 }) (λ l. 0 ∷ l)) (0 ∷ 1 ∷ 2 ∷ 5 ∷ [])
    ≡ (0 ∷ 7 ∷ 8 ∷ []) ∷ refuses 1 9 ∷ refuses 2 9 ∷ refuses 5 9 ∷ []
walks = refl

-- 5: the start of the first bad entry; else the entries. What the list goes with is not looked at but for its length
fives :
    Says (λ l. by_list refuses (bytes "A") l lengths)
    (case [] (0 ∷ [])
    ∷ case (bytes "a\nbc\n") (0 ∷ 1 ∷ 2 ∷ [])
    ∷ case (bytes "\n") (refuses 5 0)
    ∷ case (bytes "a\n\n") (refuses 5 2)
    ∷ case (bytes "ab\nc d\n\n") (refuses 5 3)
    ∷ case (bytes "a\nb") (refuses 5 2)
    ∷ [])
unfolding opened
fives = refl

-- 1 before 5: all of 65,537 bytes, with a bad list and with a good one
long : (rest : List ℕ) → length rest ≡ 65536 → by_list refuses (10 ∷ rest) (bytes "a\n\n") lengths ≡ refuses 1 0
unfolding opened
long rest e = rw (by_list, e)

long-good-list : (rest : List ℕ) → length rest ≡ 65536 → by_list refuses (10 ∷ rest) [] lengths ≡ refuses 1 0
unfolding opened
long-good-list rest e = rw (by_list, e)

-- none of 65,536
limit : (rest : List ℕ) → length rest ≡ 65535 → by_list refuses (10 ∷ rest) (bytes "a\n\n") lengths ≡ refuses 5 2
unfolding opened
limit rest e = rw (by_list, e)

limit-good-list : (rest : List ℕ) → length rest ≡ 65535 → by_list refuses (10 ∷ rest) [] lengths ≡ 0 ∷ []
unfolding opened
limit-good-list rest e = rw (by_list, e)

-- 2 to 4 with their places; else the fields
blocks :
    Says (λ b. by_fields refuses b sizes)
    (case [] (0 ∷ [])
    ∷ case (bytes "A: b\r\nC:\r\n") (0 ∷ 6 ∷ 4 ∷ [])
    ∷ case (bytes "A: b\r\nA") (refuses 2 7)
    ∷ case (bytes "A: b\rA: c\r\n") (refuses 2 4)
    ∷ case (bytes "A: b\r\n\r\n") (refuses 3 6)
    ∷ [])
unfolding opened
blocks = refl

-- 6: fewer bytes than are needed; the place is the bytes needed. Just as many are enough, also none
rooms : map (λ (room : ℕ). or_short refuses room 6 (0 ∷ [])) (0 ∷ 5 ∷ 6 ∷ 7 ∷ []) ≡ refuses 6 6 ∷ refuses 6 6 ∷ (0 ∷ []) ∷ (0 ∷ []) ∷ []
rooms = refl

no_room : map (λ (room : ℕ). or_short refuses room 0 (0 ∷ [])) (0 ∷ 1 ∷ []) ≡ (0 ∷ []) ∷ (0 ∷ []) ∷ []
no_room = refl

-- one after the other, as stripping has them: here eight bytes are needed
abbrev call : List ℕ → List ℕ → ℕ → List ℕ
call block list room = by_list refuses block list (λ own. by_fields refuses block (λ fs. or_short refuses room 8 (0 ∷ length own ∷ length fs ∷ [])))

-- 5 before 2 to 4, and those before 6
orders :
    call (bytes "A") (bytes "a\n\n") 0 ∷ call (bytes "A") (bytes "a\n") 0 ∷ call (bytes "\r\n") [] 0 ∷ call (bytes "A:\r\n") (bytes "a\n") 7 ∷ call (bytes "A:\r\n") (bytes "a\nb\n") 8 ∷ []
    ≡ refuses 5 2 ∷ refuses 2 1 ∷ refuses 3 0 ∷ refuses 6 8 ∷ (0 ∷ 2 ∷ 1 ∷ []) ∷ []
unfolding opened
orders = refl

-- ==== what theorems speak of: none of 1 to 5 is given

known : Known (bytes "A:\r\n") (bytes "a\n")
unfolding opened
known = (lit≤ tt, (refl, refl))

-- the list is good
not-bad-list : Known (bytes "A:\r\n") (bytes "a\n\n") → ⊥
unfolding opened
not-bad-list k = let h : ◌≡◌ {A = ℕ} 5 0 = k.1.0 in omega arith

-- the walk over the block comes to its end
not-bad-block : Known (bytes "A:\r\nB") (bytes "a\n") → ⊥
unfolding opened
not-bad-block k = let h : ◌≡◌ {A = ℕ} 2 0 = k.1.1 in omega arith

-- the block is within the limit, which is in it
not-long : (block list : List ℕ) → length block ≡ 65537 → Known block list → ⊥
not-long block list e k = omega (arith, e, k.0)

known-limit : (block : List ℕ) → length block ≡ 65536 → (fields block).number ≡ 0 → Known block []
unfolding opened
known-limit block e f = (omega (arith, e), (refl, f))
