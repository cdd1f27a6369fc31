-- In which order stripping answers, and what is known where it answers 0.
use Prim.Native.Nat.{ℕ, ◌≤◌}
use mathlib.Core.Path.{◌≡◌, refl}
use mathlib.Core.Bool.{Bool}
use mathlib.Core.List.{List}
use lib.ListN.{length}
use Rattle.lexis_rules.specs.Limits.{byte_limit}
use Rattle.block_rules.specs.Fields.{fields, bytes_of}
use Rattle.ownlist_rules.specs.OwnList.{own_list}
use Rattle.ownlist_rules.specs.Listed.{among}
use Rattle.ownlist_laws.proofs.AnswersInOrder.{course, InOrderToSix, in-order-to-six}
use Rattle.strip_rules.specs.Strip.{removed_of, kept_of, Answer, refuse, done, fitted, strip_fields, strip}
use Rattle.strip_rules.specs.Terms.{kept_fields, removed_fields}

-- which identifiers a list has
abbrev pub listed_test : List ℕ → List ℕ → Bool
listed_test list = among (own_list list).items

-- what is known of a block that is stripped
pub record Sound (block list : List ℕ) (room : ℕ) : Type 0 where
  pub small : length block ≤ byte_limit
  pub listed : (own_list list).number ≡ 0
  pub fielded : (fields block).number ≡ 0
  pub roomy : length (bytes_of (kept_of (listed_test list) (fields block).items)) ≤ room
  pub is : strip block list room ≡ done (kept_of (listed_test list) (fields block).items) (removed_of (listed_test list) (fields block).items)

module _ (block list : List ℕ) (room : ℕ) where
  -- 01, Answer numbers: stripping 1, 5, then 2 to 4, then 6
  pub strip-order : InOrderToSix (λ (a : Answer). a.number) (λ (a : Answer). a.place) refuse block list room (length (bytes_of (kept_fields block list)))
      (done (kept_fields block list) (removed_fields block list)) (strip block list room)
  unfolding strip strip_fields fitted
  strip-order =
      in-order-to-six (λ (a : Answer). a.number) (λ (a : Answer). a.place) refuse (λ n p. refl) (λ n p. refl) block list room (length (bytes_of (kept_fields block list)))
      (done (kept_fields block list) (removed_fields block list)) (strip block list room) refl
      (course refuse block list (λ own fs. fitted (kept_of (among own) fs) (removed_of (among own) fs) room))

  pub strip-sound : (strip block list room).number ≡ 0 → Sound block list room
  strip-sound z =
      let o = strip-order in
      let w = o.zero-when z in
      record { small = w.0.0; listed = w.0.1.0; fielded = w.0.1.1; roomy = w.1; is = o.when-zero w.0 w.1 }
