-- Going over a block by our own list: the list as it is compared, and one law for each way out of the code.
use Prim.Native.Nat.{ℕ, ◌≤◌}
use mathlib.Core.Path.{◌≡◌, refl}
use mathlib.Core.Bool.{Bool}
use mathlib.Core.List.{List}
use lib.ListN.{length, take}
use Rattle.base_sequences.specs.Stored.{Put}
use Rattle.base_sequences.proofs.Splices.{put_front}
use Rattle.base_readers.specs.Lines.{lines_of}
use Rattle.base_readers.specs.Walks.{Walked, ended}
use Rattle.block_rules.specs.Fields.{Field, fields, bytes_of, select}
use Rattle.ownlist_rules.specs.OwnList.{entry_limit, own_list}
use Rattle.ownlist_rules.specs.Ends.{ends_of, cut_at}
use Rattle.ownlist_rules.specs.Spelled.{spelled_list, among_spelled}
use Rattle.ownlist_laws.proofs.Ends.{cut-ends, spelled-ends, good-ends}
use Rattle.ownlist_laws.proofs.OwnListLaws.{list-among}
use Rattle.ownlist_ready.specs.declared.Ready.TheVariants.{Refused, AsItStands, ToSpell}
use Rattle.ownlist_ready.specs.Answers.{ready_of}
use Rattle.ownlist_ready.proofs.CallsGoOn.{ready_refused, ready-as-it-stands, ready-to-spell, as-it-stands-goes-on, as-it-stands-spelled}
use Rattle.strip_laws.proofs.Alike.{same-gone}
use Rattle.strip_steps_rules.specs.Steps.{marks_of}
use Rattle.strip_steps_laws.proofs.Marks.{same-marks}
use Rattle.strip_fields.specs.declared.Sifted.{Sifted}
use Rattle.strip_fields.specs.Sifting.{stops_of, Sifts}
use Rattle.strip_lists.specs.Walk.{listed_by, fields_by}

-- a list has as many lines at most as there is room for their ends, as it was spelled and as it stands
pub spelled-room : (list first own : List ℕ) (n : ℕ) → Put first 0 (spelled_list (own_list list).items) own n → n ≤ length first → length (ends_of (take n own)) ≤ entry_limit
spelled-room list first own n w h = rw (put_front w h) (spelled-ends list)

pub plain-room : (s list : List ℕ) → AsItStands ≡ ready_of s list → length (ends_of list) ≤ entry_limit
plain-room s list e = good-ends list (as-it-stands-goes-on s list e).1

module _ (marks₀ stops₀ marks stops : List ℕ) (r : Sifted) where
  -- where the same identifiers are listed, the same is found
  sifts-same : (listed listed' : List ℕ → Bool) → ((i : List ℕ) → listed i ≡ listed' i) → (w : Walked Field)
      → Sifts listed w marks₀ stops₀ marks stops r → Sifts listed' w marks₀ stops₀ marks stops r
  sifts-same listed listed' h w k =
      record {
        is = rw (← same-gone listed listed' h w.items) k.is;
        marked = rw (← same-marks listed listed' h w.items) k.marked;
        stopped = k.stopped;
      }

  -- the ends of the list's lines, found once, cut the list into its lines
  pub sifts-lines : (own first ends : List ℕ) (n : ℕ) → Put first 0 (ends_of own) ends n → n ≤ length first → (w : Walked Field)
      → Sifts (among_spelled (cut_at own 0 (take n ends))) w marks₀ stops₀ marks stops r → Sifts (among_spelled (lines_of own)) w marks₀ stops₀ marks stops r
  sifts-lines own first ends n p h w k =
      let e : cut_at own 0 (take n ends) ≡ lines_of own = rw (put_front p h) (cut-ends own) in
      rw e at k

  -- by the list as it was spelled into a buffer
  pub sifts-spelled : (list first own : List ℕ) (n : ℕ) → Put first 0 (spelled_list (own_list list).items) own n → n ≤ length first → (w : Walked Field)
      → Sifts (among_spelled (lines_of (take n own))) w marks₀ stops₀ marks stops r → Sifts (listed_by list) w marks₀ stops₀ marks stops r
  sifts-spelled list first own n p h w k =
      sifts-same (among_spelled (lines_of (spelled_list (own_list list).items))) (listed_by list) (list-among list) w (rw (put_front p h) at k)

  module _ (s list : List ℕ) where
    pub sifts-listed : ToSpell ≡ ready_of s list → Sifts (listed_by list) (fields s) marks₀ stops₀ marks stops r
        → Sifts (listed_by list) (fields_by s list) marks₀ stops₀ marks stops r
    unfolding fields_by
    sifts-listed q k = rw (ready-to-spell s list ended (λ own. fields s) q) k

    -- a list without two hyphens in a row is compared as it stands
    pub sifts-plain : AsItStands ≡ ready_of s list → Sifts (among_spelled (lines_of list)) (fields s) marks₀ stops₀ marks stops r
        → Sifts (listed_by list) (fields_by s list) marks₀ stops₀ marks stops r
    unfolding fields_by
    sifts-plain q k =
        rw (ready-as-it-stands s list ended (λ own. fields s) q)
        (sifts-same (among_spelled (lines_of list)) (listed_by list) (λ i. rw (as-it-stands-spelled s list q) at (list-among list i)) (fields s) k)

-- what is refused before the block is gone over: nothing is kept
pub sifts-refused : (marks stops : List ℕ) (r : Sifted) (s list : List ℕ) (n p : ℕ) → Refused n p ≡ ready_of s list
    → r ≡ record { number = n; place = p; count = 0; removed = 0; fields = 0 } → Sifts (listed_by list) (fields_by s list) marks stops marks stops r
unfolding fields_by bytes_of select marks_of stops_of
sifts-refused marks stops r s list n p q e =
    rw (ready_refused s list ended (λ own. fields s) n p q) (record { is = e; marked = refl; stopped = refl })
