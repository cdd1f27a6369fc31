-- Whether a call may go on, at worked examples, computed.
use Prim.Native.Nat.{ℕ}
use mathlib.Core.Path.{◌≡◌, refl}
use mathlib.Core.List.{List, [], ◌∷◌}
use lib.ListN.{length}
use Rattle.base_readers.specs.Texts.{bytes}
use Rattle.base_readers.proofs.Cases.{case, Says}
use Rattle.ownlist_rules.specs.Calls.{by_list}
use Rattle.ownlist_rules.proofs.Unfolding as lists
use Rattle.ownlist_ready.specs.declared.Ready.TheVariants.{Refused, AsItStands, ToSpell}
use Rattle.ownlist_ready.specs.Answers.{ready_of}

unfoldable opened : Unit {0}
unfolding lists.opened ready_of
opened = tt

-- 5: a bad list, at the start of its first bad entry, also where it has two hyphens in a row; else whether it has them, in an A-label or not. Those of
-- the block or body don't matter
readies :
    Says (ready_of (bytes "A: --\r\n"))
    (case [] AsItStands
    ∷ case (bytes "a.example\nb-c\n") AsItStands
    ∷ case (bytes "a\nxn--bcher-kva\n") ToSpell
    ∷ case (bytes "a--b\n") ToSpell
    ∷ case (bytes "a-\n-b\n") AsItStands
    ∷ case (bytes "\n") (Refused 5 0)
    ∷ case (bytes "a--b\n\n") (Refused 5 5)
    ∷ case (bytes "a\nb") (Refused 5 2)
    ∷ [])
unfolding opened
readies = refl

-- 1 before 5: all of 65,537 bytes, with a bad list and with a good one; none of 65,536
long : (rest : List ℕ) → length rest ≡ 65536 → ready_of (45 ∷ rest) (bytes "a\n\n") ≡ Refused 1 0
unfolding opened
long rest e = rw (ready_of, by_list, e)

long-good-list : (rest : List ℕ) → length rest ≡ 65536 → ready_of (45 ∷ rest) (bytes "a--b\n") ≡ Refused 1 0
unfolding opened
long-good-list rest e = rw (ready_of, by_list, e)

limit : (rest : List ℕ) → length rest ≡ 65535 → ready_of (45 ∷ rest) (bytes "a\n\n") ≡ Refused 5 2
unfolding opened
limit rest e = rw (ready_of, by_list, e)

limit-good-list : (rest : List ℕ) → length rest ≡ 65535 → ready_of (45 ∷ rest) (bytes "a--b\n") ≡ ToSpell
unfolding opened
limit-good-list rest e = rw (ready_of, by_list, e)
