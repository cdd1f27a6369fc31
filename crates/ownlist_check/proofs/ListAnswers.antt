-- What `check_list` answers is the list's number and place of document 01: 0, or 5 at the start of the first bad entry.
use Prim.Native.Nat.{ℕ, zero, suc}
use mathlib.Core.Path.{◌≡◌, refl, sym}
use mathlib.Core.List.{List}
use Rattle.ownlist_rules.specs.OwnList.{own_list}
use Rattle.ownlist_laws.proofs.Entries.{list-five}
use Rattle.ownlist_check.specs.Steps.{checked_of, number_of, place_of}

pub check-number : (list : List ℕ) → number_of (checked_of (own_list list)) ≡ (own_list list).number
check-number list = go (own_list list).number refl
  where
    go : (n : ℕ) → (own_list list).number ≡ n → number_of (checked_of (own_list list)) ≡ (own_list list).number
    go zero e = rw (checked_of, e)
    go (suc n) e = rw (checked_of, e, sym (list-five list n e))

pub check-place : (list : List ℕ) → (own_list list).number ≡ 5 → place_of (checked_of (own_list list)) ≡ (own_list list).place
check-place list e = rw (checked_of, e)
