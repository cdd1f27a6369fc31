-- Who speaks under an identifier of the list, and what is reported under one, at worked examples, computed.
use Prim.Native.Nat.{ℕ}
use mathlib.Core.Path.{◌≡◌, refl}
use mathlib.Core.List.{List, [], ◌∷◌, ◌++◌, map}
use Rattle.base_readers.specs.Texts.{bytes}
use Rattle.block_rules.specs.Fields.{fields, select, bytes_of}
use Rattle.ownlist_rules.specs.OwnList.{own_list}
use Rattle.ownlist_rules.specs.Listed.{among, own_of}
use Rattle.blockreport_rules.specs.declared.Detail.{Detail}
use Rattle.blockreport_rules.specs.declared.Detail.TheVariants.{Reported, Identified}
use Rattle.blockreport_rules.proofs.Unfolding as block-report
use Rattle.ownfield_rules.specs.OwnField.{speaks_as, is_ours, additions_under}

unfoldable pub opened : Unit {0}
unfolding block-report.opened speaks_as additions_under
opened = tt

-- the fields of a block that speak under an identifier of the list, by their bytes
abbrev speakers : List ℕ → List ℕ → List ℕ
speakers list block = bytes_of (select (speaks_as (among (own_list list).items)) (fields block).items)

-- of the name Authentication-Results, in any case, and of no other; under an identifier of the list, in any case and spelling, bare or quoted,
-- whatever follows it; an unreadable identifier is nobody's
speaking :
    map (speakers (bytes "a\nxn--bcher-kva\n"))
    (bytes "Authentication-Results: A;;\r\nFrom: a\r\n"
    ∷ bytes "authentication-RESULTS :(x)\"\\a\" 2\r\n"
    ∷ (bytes "Authentication-Results: b" ++ (195 ∷ 188 ∷ bytes "CHER; none\r\n"))
    ∷ bytes "Authentication-Results: b\r\nAuthentication-Results: a/\r\nARC-Authentication-Results: a\r\nAuthentication-Results:\r\n"
    ∷ [])
    ≡ bytes "Authentication-Results: A;;\r\n"
    ∷ bytes "authentication-RESULTS :(x)\"\\a\" 2\r\n"
    ∷ (bytes "Authentication-Results: b" ++ (195 ∷ 188 ∷ bytes "CHER; none\r\n"))
    ∷ []
    ∷ []
unfolding opened
speaking = refl

-- what is reported of such fields: the number of a field is its own among all
abbrev told : Detail → List ℕ → List ℕ
told detail block = additions_under is_ours detail (own_of (own_list (bytes "a\n")).items) 1 (fields block).items

reported :
    map (told Reported)
    (bytes "From: x\r\nAuthentication-Results: b; none\r\nAuthentication-Results: A; none\r\nAuthentication-Results:/\r\n"
    ∷ bytes "Authentication-Results: a; none\r\nX: a\r\nAuthentication-Results: a;;\r\n"
    ∷ bytes "Authentication-Results: b; none\r\n"
    ∷ [])
    ≡ bytes "field\t3\town\t0\t0\nid\tA\nnone\n"
    ∷ bytes "field\t1\town\t0\t0\nid\ta\nnone\nfield\t3\town\t9\t0\n"
    ∷ []
    ∷ []
unfolding opened
reported = refl

-- with the identifier of a field that answers 9, where that is asked for
identified : told Identified (bytes "X: a\r\nAuthentication-Results: A;;\r\nAuthentication-Results: b;;\r\n") ≡ bytes "field\t2\town\t9\t0\nid\tA\n"
unfolding opened
identified = refl
