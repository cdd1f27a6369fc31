-- 01, Block and list: "a repeated entry changes nothing". An entry that stands in the list already, put anywhere behind it, lists nothing new.
use Prim.Native.Nat.{ℕ}
use mathlib.Core.Path.{◌≡◌, refl, ap}
use mathlib.Core.Bool.{Bool, true, false, ◌||◌}
use mathlib.Core.List.{List, [], ◌∷◌, ◌++◌}
use Rattle.base_readers.specs.Parsers.{Got, nothing, got}
use Rattle.identifier_rules.specs.Identifier.{same_identifier}
use Rattle.ownlist_rules.specs.Listed.{among, own_if, own_of}

pub among-again : (e i : List ℕ) (xs ys zs : List (List ℕ)) → among (xs ++ (e ∷ (ys ++ (e ∷ zs)))) i ≡ among (xs ++ (e ∷ (ys ++ zs))) i
unfolding among
among-again e i [] ys zs = first (same_identifier e i) refl
  where
    later : (ys : List (List ℕ)) → same_identifier e i ≡ false → among (ys ++ (e ∷ zs)) i ≡ among (ys ++ zs) i
    later [] q = rw (among, q)
    later (y ∷ ys) q = ap (λ (t : Bool). same_identifier y i || t) (later ys q)

    first : (t : Bool) → same_identifier e i ≡ t → (same_identifier e i || among (ys ++ (e ∷ zs)) i) ≡ (same_identifier e i || among (ys ++ zs) i)
    first true q = rw q
    first false q = rw (q, later ys q)
among-again e i (x ∷ xs) ys zs = ap (λ (t : Bool). same_identifier x i || t) (among-again e i xs ys zs)

-- so whose an identifier is stays the same
pub own-again : (e : List ℕ) (xs ys zs : List (List ℕ)) (g : Got (List ℕ)) → own_of (xs ++ (e ∷ (ys ++ (e ∷ zs)))) g ≡ own_of (xs ++ (e ∷ (ys ++ zs))) g
own-again e xs ys zs nothing = refl
own-again e xs ys zs (got i n) = ap own_if (among-again e i xs ys zs)
