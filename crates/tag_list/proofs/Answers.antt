-- What an attempt says is what the list says: a small table serves unless it is full, and one of 32,768 entries is never full.
use Prim.Native.Nat.{ℕ, ◌≤◌, ◌<◌}
use native.Mathlib.Omega.{arith}
use mathlib.Core.Path.{◌≡◌, refl}
use mathlib.Core.Bool.{Bool}
use mathlib.Core.List.{List}
use mathlib.Core.Option.{none, some}
use lib.ListN.{length, replicate, length-replicate}
use Rattle.std.specs.Prelude.{Option, Result, Ok, Err}
use Rattle.std.specs.Result.{result_ok}
use Rattle.tag_content.specs.declared.Unread.{Unread}
use Rattle.tag_content.specs.declared.Unread.TheVariants.{Unreadable, Full}
use Rattle.lexis_rules.specs.Limits.{byte_limit}
use Rattle.tag_content.specs.Lists.{tags_at, listed_at}
use Rattle.tag_content.specs.Tests.{AttemptIf}
use Rattle.tag_content.proofs.TagLists.{tags-few}
use Rattle.tag_list.specs.Lists.{listed_said}

module _ (F : Type 0) (seal : Bool) (s : List ℕ) (at : ℕ) (x : Result ℕ Unread) (w : AttemptIf F seal s at x) where
  pub attempt-read : (c : ℕ) → x ≡ Ok c → some c ≡ listed_at seal s at
  attempt-read c e = rw e at w

  pub attempt-unreadable : (e : Unread) → x ≡ Err e → e ≡ Unreadable → none ≡ listed_at seal s at
  attempt-unreadable e h i = rw i at (rw h at w)

-- a large table is never full
pub many-said : (seal : Bool) (s : List ℕ) (at m : ℕ) (x : Result ℕ Unread) → AttemptIf (m < length (tags_at s at)) seal s at x → m ≡ 32768 → length s ≤ 65536
    → (l : Option ℕ) → l ≡ result_ok x → listed_said l ≡ listed_at seal s at
many-said seal s at m x w k h l e = rw e (go x w)
  where
    go : (x : Result ℕ Unread) → AttemptIf (m < length (tags_at s at)) seal s at x → listed_said (result_ok x) ≡ listed_at seal s at
    go (Ok c) w = w
    go (Err Unreadable) w = w
    go (Err Full) w = absurd (omega (arith, tags-few s at, w))

-- ==== the tables of many

pub many-room : (s : List ℕ) → length s ≤ byte_limit
    → (length s ≤ byte_limit)
    × (length {A = ℕ} (replicate 16384 0) ≤ length {A = ℕ} (replicate 16384 0))
    × (length {A = ℕ} (replicate 16384 0) < 65536)
    × (◌≡◌ {A = List ℕ} (replicate 32768 0) (replicate 32768 0))
many-room s h =
    let e = length-replicate {A = ℕ} 16384 0 in
    (h, omega arith, omega (arith, e), refl)
