-- What stripping promises. Each theorem is about document 01's stripping, which `strip::mark` and `strip::copy` give together (`pair-strips` in strip_steps_laws).
use Prim.Native.Nat.{ℕ, ◌+◌, ◌≤◌}
use native.Mathlib.Omega.{arith}
use mathlib.Core.Path.{◌≡◌, ap, ◌∙◌}
use mathlib.Core.Bool.{not}
use mathlib.Core.List.{List, [], ◌∷◌, ◌++◌}
use lib.ListN.{length}
use Rattle.base_readers.specs.Walks.{Walked}
use Rattle.block_rules.specs.Fields.{Field, fields, bytes_of}
use Rattle.ownlist_rules.specs.OwnList.{own_list}
use Rattle.block_laws.proofs.Fields.{fields-fine, select-fields, select-sum, select-again, select-none}
use Rattle.ownlist_rules.specs.Listed.{among}
use Rattle.ownlist_laws.proofs.CallCases.{by-list-same}
use Rattle.ownlist_laws.proofs.RepeatedEntries.{among-again}
use Rattle.strip_rules.specs.Strip.{is_removed, removed_of, kept_of, Answer, refuse, strip_fields, strip}
use Rattle.strip_rules.specs.Answers.{leaves}
use Rattle.strip_rules.specs.Terms.{Known}
use Rattle.strip_laws.proofs.Laws.{listed_test, strip-order, strip-sound}
use Rattle.strip_laws.proofs.Alike.{same-stripped}

-- zero counts, and nothing is written
abbrev pub Silent : Answer → Type 0
Silent a = a ≡ refuse a.number a.place

-- A refusal returns zero counts and writes nothing.
pub strip-refused : (block list : List ℕ) (room : ℕ) → ((strip block list room).number ≡ 0 → ⊥) → Silent (strip block list room)
strip-refused block list room = (strip-order block list room).refused

-- So it leaves the lent buffer as it was.
pub strip-silent : (block list old : List ℕ) → ((strip block list (length old)).number ≡ 0 → ⊥) → leaves (strip block list (length old)) old ≡ old
strip-silent block list old ne = rw (strip-refused block list (length old) ne)

module _ (block list : List ℕ) (room : ℕ) (z : (strip block list room).number ≡ 0) where
  -- Kept plus removed bytes make the block length.
  pub strip-sum : (strip block list room).kept + (strip block list room).removed ≡ length block
  strip-sum =
      let s = strip-sound block list room z in
      let w = select-sum (is_removed (listed_test list)) (fields block).items in
      rw s.is (w ∙ ap length (fields-fine block s.fielded).bytes)

  -- The output is itself a sound block, whose fields are exactly the kept ones, in order.
  pub strip-fields : fields (strip block list room).written ≡ record { items = kept_of (listed_test list) (fields block).items; number = 0; place = 0 }
  strip-fields =
      let s = strip-sound block list room z in
      rw s.is (select-fields (λ f. not (is_removed (listed_test list) f)) block s.fielded)

  -- Stripping the stripped block with the same list, and room for it, gives the same bytes and removes nothing.
  pub strip-twice : (room' : ℕ) → (strip block list room).kept ≤ room'
      → strip (strip block list room).written list room'
      ≡ record { number = 0; place = 0; kept = (strip block list room).kept; removed = 0; fields = 0; written = (strip block list room).written }
  unfolding bytes_of
  strip-twice room' h =
      let s = strip-sound block list room z in
      let listed = listed_test list in
      let fs = (fields block).items in
      let out = bytes_of (kept_of listed fs) in
      let t = select-fields (λ f. not (is_removed listed f)) block s.fielded in
      let items : (fields out).items ≡ kept_of listed fs = ap (λ (w : Walked Field). w.items) t in
      let again : kept_of listed (kept_of listed fs) ≡ kept_of listed fs = select-again (λ f. not (is_removed listed f)) fs in
      let nothing : removed_of listed (kept_of listed fs) ≡ [] = select-none (is_removed listed) fs in
      let all = ap length (fields-fine block s.fielded).bytes in
      let roomy : length out ≤ room' = rw s.is at h in
      let known : Known out list = (omega (arith, select-sum (is_removed listed) fs, all, s.small), (s.listed, ap (λ (w : Walked Field). w.number) t)) in
      let r = (strip-order out list room').when-zero known (rw (items, again) roomy) in
      rw s.is (r ∙ rw (items, again, nothing))

-- ==== a repeated list entry changes nothing

-- A repeated list entry changes nothing: two good lists, of which the second has an entry of the first once more, give the same answer
-- and the same bytes for every block and every room.
pub strip-repeated : (block list list' : List ℕ) (room : ℕ) (e : List ℕ) (xs ys zs : List (List ℕ))
    → own_list list ≡ record { items = xs ++ (e ∷ (ys ++ zs)); number = 0; place = 0 }
    → own_list list' ≡ record { items = xs ++ (e ∷ (ys ++ (e ∷ zs))); number = 0; place = 0 }
    → strip block list' room ≡ strip block list room
unfolding strip
strip-repeated block list list' room e xs ys zs a b =
    by-list-same refuse block list' list (λ own. strip_fields block (among own) room) (rw b) (rw a)
    (rw (a, b) (same-stripped (among (xs ++ (e ∷ (ys ++ (e ∷ zs))))) (among (xs ++ (e ∷ (ys ++ zs)))) (λ i. among-again e i xs ys zs) block room))
