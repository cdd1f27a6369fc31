-- Every list as it is compared fits the room.
use Prim.Native.Nat.{ℕ, ◌≤◌}
use native.Mathlib.Omega.{arith}
use mathlib.Core.Path.{◌≡◌}
use mathlib.Core.List.{List}
use lib.ListN.{length}
use Rattle.base_sequences.specs.Stored.{Put}
use Rattle.base_sequences.proofs.Splices.{put-long}
use Rattle.ownlist_rules.specs.OwnList.{own_list}
use Rattle.ownlist_rules.specs.Spelled.{spelled_list}
use Rattle.ownlist_laws.proofs.OwnListLaws.{list_length}

-- `first` is the room, `own` what it holds with the list in it, of which n bytes are the list's
module _ (list first own : List ℕ) (n : ℕ) (w : Put first 0 (spelled_list (own_list list).items) own n) (k : 65344 ≡ length first) where
  pub fits-room : n ≤ length first
  fits-room = omega (arith, w.count, list_length list, k)

  pub fits-own : n ≤ length own
  fits-own = omega (arith, fits-room, put-long w)
