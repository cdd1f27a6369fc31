-- Whose the identifier of a body is, at worked examples, computed.
use Prim.Native.Nat.{ℕ}
use mathlib.Core.Path.{◌≡◌, refl}
use mathlib.Core.List.{List, [], ◌∷◌, ◌++◌, map}
use lib.ListN.{length}
use Rattle.base_readers.specs.Texts.{bytes}
use Rattle.base_readers.proofs.Cases.{case, Says}
use Rattle.ownlist_rules.proofs.Unfolding as authserv
use Rattle.ownlist_rules.specs.Calls.{by_list}
use Rattle.host_whose_struct.specs.declared.WhoseFace.{WhoseFace}
use Rattle.host_whose_struct.specs.Whose.{whose}

unfoldable pub opened : Unit {0}
unfolding authserv.opened whose
opened = tt

abbrev ours : WhoseFace
ours = record { number = 0; whose = 0; place = 0 }

abbrev others : WhoseFace
others = record { number = 0; whose = 1; place = 0 }

abbrev unreadable : WhoseFace
unreadable = record { number = 0; whose = 2; place = 0 }

abbrev refuses : ℕ → ℕ → WhoseFace
refuses n p = record { number = n; whose = 0; place = p }

-- an entry of the list wherever it stands there, in any case and with either spelling of a label; the rest of the body doesn't matter
bodies :
    Says (whose (bytes "a.example\nxn--bcher-kva\n"))
    (case (bytes " A.Example; none") ours
    ∷ case (bytes " (c) \"a.example\" rubbish") ours
    ∷ case (bytes "b" ++ (0xC3 ∷ 0xBC ∷ bytes "cher;")) ours
    ∷ case (bytes " b.example; none") others
    ∷ case (bytes "a.example.") others
    ∷ case [] unreadable
    ∷ case (bytes " ;none") unreadable
    ∷ case (bytes " a.example/; none") unreadable
    ∷ [])
unfolding opened
bodies = refl

-- an empty list has nobody; 5: a bad one, at the start of its first bad entry, also where the body can't be read
lists :
    map (λ (l : List ℕ). whose l (bytes "a")) ([] ∷ bytes "b\na\n" ∷ bytes "a\n\n" ∷ bytes "a" ∷ bytes "b\na c\n" ∷ []) ≡ others ∷ ours ∷ refuses 5 2 ∷ refuses 5 0 ∷ refuses 5 2 ∷ []
unfolding opened
lists = refl

unread : whose (bytes "a\n\n") [] ≡ refuses 5 2
unfolding opened
unread = refl

-- 1 before 5: every body of 65,537 bytes, with a bad list and with a good one; one of 65,536 is not too long
long : (rest : List ℕ) → length rest ≡ 65536 → whose (bytes "\n") (59 ∷ rest) ≡ refuses 1 0
unfolding opened
long rest e = rw (whose, by_list, e)

long-good-list : (rest : List ℕ) → length rest ≡ 65536 → whose [] (59 ∷ rest) ≡ refuses 1 0
unfolding opened
long-good-list rest e = rw (whose, by_list, e)

limit : (rest : List ℕ) → length rest ≡ 65535 → whose (bytes "\n") (59 ∷ rest) ≡ refuses 5 0
unfolding opened
limit rest e = rw (whose, by_list, e)

limit-good-list : (rest : List ℕ) → length rest ≡ 65535 → whose [] (59 ∷ rest) ≡ unreadable
unfolding opened
limit-good-list rest e = rw (whose, by_list, e)
