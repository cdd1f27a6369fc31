-- What `whose` says and what stripping does are the same thing, for every good list and every body that is not too long.
use Prim.Native.Nat.{ℕ, ◌≤◌}
use mathlib.Core.Path.{◌≡◌, refl}
use mathlib.Core.Bool.{Bool, true, false, not}
use mathlib.Core.List.{List}
use lib.Dec.{eqb, lit≤}
use lib.ListN.{length}
use Rattle.base_readers.specs.Texts.{bytes}
use Rattle.base_readers.specs.Parsers.{Got, nothing, got}
use Rattle.lexis_rules.specs.Limits.{byte_limit}
use Rattle.ownlist_rules.specs.OwnList.{own_list}
use Rattle.identifier_rules.specs.Identifier.{identifier}
use Rattle.ownlist_rules.specs.Listed.{among, own_if, own_of}
use Rattle.ownlist_laws.proofs.CallCases.{by-list-good}
use Rattle.strip_rules.specs.Strip.{ours_or_unreadable}
use Rattle.host_whose_struct.specs.Whose.{owner_code, refuse_whose, tell_whose, whose}
use Rattle.host_whose_struct.proofs.WhoseExamples.{opened}

-- by a good list, of a body that is not too long, it is told whose the identifier is
whose-is : (list body : List ℕ) → length body ≤ byte_limit → (own_list list).number ≡ 0 → whose list body ≡ tell_whose (own_of (own_list list).items (identifier body))
unfolding whose
whose-is list body = by-list-good refuse_whose body list (λ own. tell_whose (own_of own (identifier body)))

-- stripping removes an Authentication-Results field with this body exactly where the answer is not 1, another's
pub whose-strips : (list body : List ℕ) → length body ≤ byte_limit → (own_list list).number ≡ 0
    → ours_or_unreadable (among (own_list list).items) body ≡ not (eqb (whose list body).whose 1)
unfolding ours_or_unreadable
whose-strips list body h z = rw (whose-is list body h z, ours_or_unreadable) (go (identifier body))
  where
    listed : (b : Bool) → b ≡ not (eqb (owner_code (own_if b)) 1)
    listed true = refl
    listed false = refl

    go : (g : Got (List ℕ)) → elim g [ nothing ↦ true | got i _ ↦ among (own_list list).items i ] ≡ not (eqb (owner_code (own_of (own_list list).items g)) 1)
    go nothing = refl
    go (got i n) = listed (among (own_list list).items i)

-- an instance: of a list with one entry, the body that has it
instance : ours_or_unreadable (among (own_list (bytes "a\n")).items) (bytes "A;") ≡ not (eqb (whose (bytes "a\n") (bytes "A;")).whose 1)
unfolding opened
instance = whose-strips (bytes "a\n") (bytes "A;") (lit≤ tt) refl
