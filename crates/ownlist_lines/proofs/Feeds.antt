-- Where the lines of any bytes end, as the loops find it.
use Prim.Native.Nat.{ℕ, ◌+◌, ◌≤◌, ◌<◌}
use native.Mathlib.Numerals.{add-one}
use native.Mathlib.Omega.{arith}
use mathlib.Core.Path.{◌≡◌, refl}
use mathlib.Core.Bool.{Bool, true, false, ◌||◌}
use mathlib.Core.List.{List, []}
use lib.Dec.{eqb}
use lib.ListN.{length, get_or, drop, set}
use Rattle.base_sequences.specs.Stored.{Put}
use Rattle.base_sequences.proofs.Splices.{Left, left-start, left-byte, left-done, wrote_count}
use Rattle.base_readers.specs.Places.{Reaches}
use Rattle.base_readers.proofs.Loops.{run_on, run-off, hits-on}
use Rattle.base_readers.specs.Lines.{lines_of, feedless, until_feed}
use Rattle.ownlist_rules.specs.Ends.{ends_from, ends_of}
use Rattle.ownlist_laws.proofs.Ends.{lines_none, ends_at}

-- ==== where a line ends

module _ (s : List ℕ) (at i : ℕ) (r : Bool) (w : Reaches until_feed s at i) (h : i < length s) (e : r ≡ eqb (get_or s i 0) 10) where
  pub feed-on : r ≡ false → Reaches until_feed s at (i + 1)
  unfolding feedless
  feed-on z = run_on feedless s at i true w h (rw (← e, z)) refl

  pub feed-off : r ≡ true → i ≡ at + until_feed (drop at s)
  unfolding feedless
  feed-off z = run-off feedless s at i false w h (rw (← e, z)) refl

pub feed-piece : (s : List ℕ) (at j : ℕ) (hit r : Bool) → (hit ≡ false → Reaches until_feed s at (at + j)) → at + j < length s
    → r ≡ eqb (get_or s (at + j) 0) 10 → (hit || r) ≡ false → Reaches until_feed s at (at + (j + 1))
unfolding feedless
feed-piece s at j hit r w h e z = hits-on feedless s at j hit r w h (λ f. rw (← e, f)) z

-- ==== the loop that finds the ends: k of them are stored, and the next line starts at a place

pub record Finding (s old ends : List ℕ) (at k : ℕ) : Type 0 where
  pub left : Left old 0 (ends_of s) ends k (ends_from at (lines_of (drop at s)))
  pub few : k ≤ at

pub find-start : (s old : List ℕ) → Finding s old old 0 0
find-start s old = record { left = left-start old 0 (ends_of s); few = omega arith }

module _ (s old ends : List ℕ) (at k : ℕ) (w : Finding s old ends at k) where
  pub find-end : length s ≤ at → Put old 0 (ends_of s) ends k
  unfolding ends_from
  find-end h =
      let n : ends_from at (lines_of (drop at s)) ≡ [] = rw (lines_none s at h) in
      let z = left-done w.left n in
      record { count = wrote_count z; bytes = z.bytes }

  pub find-more : at < length s → (e : ℕ) → e ≡ at + until_feed (drop at s) → (ends' : List ℕ) → ends' ≡ set ends k e → Finding s old ends' (e + 1) (k + 1)
  find-more h e q ends' p = record { left = rw (add-one e) (left-byte w.left (ends_at s at h e q) p); few = omega (arith, w.few) }
