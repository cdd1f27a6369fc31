-- 01, Block and list: "a repeated entry changes nothing", of whose an identifier is.
use Prim.Native.Nat.{ℕ}
use mathlib.Core.Path.{◌≡◌, refl, ap}
use mathlib.Core.List.{List, [], ◌∷◌, ◌++◌}
use Rattle.base_readers.specs.Texts.{bytes}
use Rattle.identifier_rules.specs.Identifier.{identifier}
use Rattle.ownlist_rules.specs.OwnList.{own_list}
use Rattle.ownlist_rules.specs.Listed.{own_of}
use Rattle.ownlist_laws.proofs.CallCases.{by-list-same}
use Rattle.ownlist_laws.proofs.RepeatedEntries.{own-again}
use Rattle.host_whose_struct.specs.Whose.{refuse_whose, tell_whose, whose}
use Rattle.host_whose_struct.proofs.WhoseExamples.{opened}

-- two good lists, of which the second has an entry of the first once more, give the same answer for every body
pub whose-repeated : (body list list' e : List ℕ) (xs ys zs : List (List ℕ)) → own_list list ≡ record { items = xs ++ (e ∷ (ys ++ zs)); number = 0; place = 0 }
    → own_list list' ≡ record { items = xs ++ (e ∷ (ys ++ (e ∷ zs))); number = 0; place = 0 } → whose list' body ≡ whose list body
unfolding whose
whose-repeated body list list' e xs ys zs a b =
    by-list-same refuse_whose body list' list (λ own. tell_whose (own_of own (identifier body))) (rw b) (rw a)
    (rw (a, b) (ap tell_whose (own-again e xs ys zs (identifier body))))

instance : (body : List ℕ) → whose (bytes "a\nb\na\n") body ≡ whose (bytes "a\nb\n") body
unfolding opened
instance body = whose-repeated body (bytes "a\nb\n") (bytes "a\nb\na\n") (bytes "a") [] (bytes "b" ∷ []) [] refl refl
