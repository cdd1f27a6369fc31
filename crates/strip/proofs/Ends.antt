-- What the walk over a block tells of it, and one law for each way out of the two calls.
use Prim.Native.Nat.{ℕ, zero, suc, ◌+◌, ◌-◌, ◌≤◌, ◌<◌}
use native.Mathlib.Omega.{arith}
use mathlib.Core.Path.{◌≡◌, refl, sym, ap, ◌∙◌, subst}
use mathlib.Core.Bool.{Bool, true, false, not}
use mathlib.Core.List.{List, [], ◌∷◌}
use borrow.Author.Tests.{not-true, not-false}
use lib.ListN.{length, take}
use lib.Seq.{sets, length-sets}
use Rattle.base_sequences.specs.Stored.{Put, Clipped}
use Rattle.base_sequences.proofs.Splices.{sets-front, put_front}
use Rattle.base_readers.specs.Texts.{same}
use Rattle.base_readers.specs.Walks.{Walked}
use Rattle.base_readers.proofs.Texts.{same-eq, same-long}
use Rattle.block_rules.specs.Fields.{Field, bytes_of}
use Rattle.block_laws.proofs.Fields.{fields-fine, select-sum}
use Rattle.ownlist_rules.specs.Calls.{or_refusal, or_short}
use Rattle.ownlist_laws.proofs.CallCases.{or-short-short, or-short-fits}
use Rattle.strip_rules.specs.declared.Stripped.{Stripped}
use Rattle.strip_rules.specs.Strip.{is_removed, removed_of, kept_of, Answer, refuse, done, fitted}
use Rattle.strip_rules.specs.Answers as copied
use Rattle.strip_steps_rules.specs.declared.Marked.{Marked}
use Rattle.strip_steps_rules.specs.Steps.{marks_of, Marks, refuse_marks, done_marks, mark, or_other, copy}
use Rattle.strip_steps_rules.specs.Answers as marked
use Rattle.strip_steps_laws.proofs.Marks.{marks-long}
use Rattle.strip_lists.specs.Walk.{listed_by, fields_by}
use Rattle.strip_lists.proofs.Walked.{mark-by, copy-by, found, found-few}
use Rattle.strip_fields.specs.declared.Sifted.{Sifted}
use Rattle.strip_fields.specs.Sifting.{stops_of, Sifts}
use Rattle.strip_copy.specs.Unmarked.{unmarked}
use Rattle.strip.proofs.Kept.{kept-copied}

stops-long : (at : ℕ) (fs : List Field) → length (stops_of at fs) ≡ length fs
unfolding stops_of
stops-long at [] = refl
stops-long at (f ∷ fs) = ap suc (stops-long (at + length f.bytes) fs)

-- an answer, and what it leaves
abbrev pub MarksAnswered : Marks → List ℕ → List ℕ → Marked → Type 0
MarksAnswered a old new r = (r ≡ marked.answer_of a) × (new ≡ marked.leaves a old)

abbrev pub Answered : Answer → List ℕ → List ℕ → Stripped → Type 0
Answered a old new r = (r ≡ copied.answer_of a) × (new ≡ copied.leaves a old)

module _ (s list first stops₀ marks stops : List ℕ) (k : Sifted) (w : Sifts (listed_by list) (fields_by s list) first stops₀ marks stops k) where
  abbrev items : List Field
  items = (fields_by s list).items

  pub number_is : k.number ≡ (fields_by s list).number
  number_is = ap (λ (x : Sifted). x.number) w.is

  pub place_is : k.place ≡ (fields_by s list).place
  place_is = ap (λ (x : Sifted). x.place) w.is

  count-is : k.count ≡ length items
  count-is = ap (λ (x : Sifted). x.count) w.is

  removed-is : k.removed ≡ length (bytes_of (removed_of (listed_by list) items))
  removed-is = ap (λ (x : Sifted). x.removed) w.is

  fields-is : k.fields ≡ length (removed_of (listed_by list) items)
  fields-is = ap (λ (x : Sifted). x.fields) w.is

  -- 1 to 5
  pub mark-refused : (k.number ≡ 0 → ⊥) → (old : List ℕ) (r : Marked) → r ≡ record { number = k.number; place = k.place; written = 0 }
      → MarksAnswered (mark s list (length old)) old old r
  mark-refused ne old r e = go (fields_by s list).number refl
    where
      go : (n : ℕ) → (fields_by s list).number ≡ n → MarksAnswered (mark s list (length old)) old old r
      go zero z = absurd (ne (number_is ∙ z))
      go (suc n) z = let m : mark s list (length old) ≡ refuse_marks k.number k.place = mark-by s list (length old) ∙ rw (or_refusal, number_is, place_is, z) in (rw m e, rw m)

  pub copy-refused : (k.number ≡ 0 → ⊥) → (answer old : List ℕ) (r : Stripped) → r ≡ record { number = k.number; place = k.place; kept = 0; removed = 0; fields = 0 }
      → Answered (copy s list answer (length old)) old old r
  copy-refused ne answer old r e = go (fields_by s list).number refl
    where
      go : (n : ℕ) → (fields_by s list).number ≡ n → Answered (copy s list answer (length old)) old old r
      go zero z = absurd (ne (number_is ∙ z))
      go (suc n) z = let m : copy s list answer (length old) ≡ refuse k.number k.place = copy-by s list answer (length old) ∙ rw (or_refusal, number_is, place_is, z) in (rw m e, rw m)

  module _ (z : k.number ≡ 0) where
    pub walked : (fields_by s list).number ≡ 0
    walked = sym number_is ∙ z

    pub few : k.count ≤ 512
    few = omega (arith, count-is, found-few s list walked)

    -- a room for as many fields as there may be is enough
    pub room-for-all : (l : List ℕ) → 512 ≡ length l → k.count ≤ length l
    room-for-all l h = omega (arith, few, h)

    marks-count : k.count ≡ length (marks_of (listed_by list) items)
    marks-count = count-is ∙ sym (marks-long (listed_by list) items)

    stops-count : k.count ≡ length (stops_of 0 items)
    stops-count = count-is ∙ sym (stops-long 0 items)

    -- there is room for a mark and for the end of each field
    module _ (long : k.count ≤ length first) where
      pub marks-room : k.count ≤ length marks
      marks-room = omega (arith, long, ap length w.marked, length-sets first 0 (marks_of (listed_by list) items))

      pub marks-are : take k.count marks ≡ marks_of (listed_by list) items
      marks-are = put_front (record { count = marks-count; bytes = w.marked }) long

    module _ (long : k.count ≤ length stops₀) where
      pub stops-room : k.count ≤ length stops
      stops-room = omega (arith, long, ap length w.stopped, length-sets stops₀ 0 (stops_of 0 items))

      pub stops-are : take k.count stops ≡ stops_of 0 items
      stops-are = put_front (record { count = stops-count; bytes = w.stopped }) long

    -- what stands between the fields that go, by the marks and the ends, are the kept fields
    pub kept-text : k.count ≤ length first → k.count ≤ length stops₀ → unmarked s 0 0 (take k.count stops) (take k.count marks) ≡ bytes_of (kept_of (listed_by list) items)
    kept-text long longer =
        let f = found s list walked in
        let b : unmarked s 0 0 (stops_of 0 items) (marks_of (listed_by list) items) ≡ bytes_of (kept_of (listed_by list) items) =
        subst (λ (v : Walked Field). unmarked s 0 0 (stops_of 0 v.items) (marks_of (listed_by list) v.items) ≡ bytes_of (kept_of (listed_by list) v.items))
        (sym f.0) (kept-copied (listed_by list) s f.1) in
        ap (unmarked s 0 0 (take k.count stops)) (marks-are long)
        ∙ (ap (λ (x : List ℕ). unmarked s 0 0 x (marks_of (listed_by list) items)) (stops-are longer) ∙ b)

    -- ==== the first call

    mark-told : (room : ℕ)
        → mark s list room ≡ or_short refuse_marks room (length (marks_of (listed_by list) items)) (done_marks (marks_of (listed_by list) items))
    mark-told room = mark-by s list room ∙ rw (or_refusal, walked)

    pub mark-6 : (old : List ℕ) (r : Marked) → length old < k.count → r ≡ record { number = 6; place = k.count; written = 0 } → MarksAnswered (mark s list (length old)) old old r
    mark-6 old r l e =
        let m : mark s list (length old) ≡ refuse_marks 6 k.count =
        mark-told (length old) ∙ (or-short-short refuse_marks (length old) _ _ (rw marks-count at l) ∙ ap (refuse_marks 6) (sym marks-count)) in
        (rw m e, rw m)

    pub mark-0 : k.count ≤ length first → (old out : List ℕ) (n : ℕ) (r : Marked) → k.count ≤ length old → Put old 0 (take k.count marks) out n
        → r ≡ record { number = 0; place = 0; written = k.count } → MarksAnswered (mark s list (length old)) old out r
    mark-0 long old out n r l p e =
        let all = marks_of (listed_by list) items in
        let fits : length all ≤ length old = rw marks-count at l in
        let m : mark s list (length old) ≡ done_marks all = mark-told (length old) ∙ or-short-fits refuse_marks (length old) (length all) (done_marks all) fits in
        (rw (m, ← marks-count) e, rw m (p.bytes ∙ (ap (sets old 0) (marks-are long) ∙ sets-front old all fits)))

    -- ==== the second call

    -- kept plus removed bytes make the block
    pub kept-is : (n : ℕ) → n ≡ length s - k.removed → n ≡ length (bytes_of (kept_of (listed_by list) items))
    kept-is n e =
        let f = found s list walked in
        let b : length (bytes_of items) ≡ length s = ap (λ (v : Walked Field). length (bytes_of v.items)) f.0 ∙ ap length (fields-fine s f.1).bytes in
        omega (arith, e, removed-is, select-sum (is_removed (listed_by list)) items, b)

    copy_told : (answer : List ℕ) (room : ℕ)
        → copy s list answer room
        ≡ or_other answer (marks_of (listed_by list) items) (fitted (kept_of (listed_by list) items) (removed_of (listed_by list) items) room)
    copy_told answer room = copy-by s list answer room ∙ rw (or_refusal, walked)

    pub copy-13 : k.count ≤ length first → (answer old : List ℕ) (b : Bool) (r : Stripped) → b ≡ same answer (take k.count marks) → not b ≡ true
        → r ≡ record { number = 13; place = 0; kept = 0; removed = 0; fields = 0 } → Answered (copy s list answer (length old)) old old r
    copy-13 long answer old b r q f e =
        let d : same answer (marks_of (listed_by list) items) ≡ false = rw (marks-are long) at (sym q ∙ not-true b f) in
        let m : copy s list answer (length old) ≡ refuse 13 0 = copy_told answer (length old) ∙ rw (or_other, d) in
        (rw m e, rw m)

    -- another number of marks
    pub copy-other : (answer old : List ℕ) (r : Stripped) → (k.count ≡ length answer → ⊥) → r ≡ record { number = 13; place = 0; kept = 0; removed = 0; fields = 0 }
        → Answered (copy s list answer (length old)) old old r
    copy-other answer old r ne e =
        let d : same answer (marks_of (listed_by list) items) ≡ false = same-long answer (marks_of (listed_by list) items) (λ q. ne (marks-count ∙ sym q)) in
        let m : copy s list answer (length old) ≡ refuse 13 0 = copy_told answer (length old) ∙ rw (or_other, d) in
        (rw m e, rw m)

    module _ (long : k.count ≤ length first) (answer old : List ℕ) (b : Bool) (q : b ≡ same answer (take k.count marks)) (t : not b ≡ false) (n : ℕ) (j : n ≡ length s - k.removed) where
      alike : same answer (marks_of (listed_by list) items) ≡ true
      alike = rw (marks-are long) at (sym q ∙ not-false b t)

      copy-alike : copy s list answer (length old) ≡ fitted (kept_of (listed_by list) items) (removed_of (listed_by list) items) (length old)
      copy-alike = copy_told answer (length old) ∙ rw (or_other, alike)

      pub copy-6 : (r : Stripped) → length old < n → r ≡ record { number = 6; place = n; kept = 0; removed = 0; fields = 0 } → Answered (copy s list answer (length old)) old old r
      unfolding fitted
      copy-6 r l e =
          let h : n ≡ length (bytes_of (kept_of (listed_by list) items)) = kept-is n j in
          let m : copy s list answer (length old) ≡ refuse 6 n =
          copy-alike ∙ (or-short-short refuse (length old) _ _ (rw h at l) ∙ ap (refuse 6) (sym h)) in
          (rw m e, rw m)

      pub copy-0 : k.count ≤ length stops₀ → (out : List ℕ) (c : ℕ) (r : Stripped) → n ≤ length old → Clipped old 0 (unmarked s 0 0 (take k.count stops) answer) out c
          → r ≡ record { number = 0; place = 0; kept = n; removed = k.removed; fields = k.fields } → Answered (copy s list answer (length old)) old out r
      unfolding fitted
      copy-0 longer out c r l p e =
          let keeps = kept_of (listed_by list) items in
          let h : n ≡ length (bytes_of keeps) = kept-is n j in
          let fits : length (bytes_of keeps) ≤ length old = rw h at l in
          let m : copy s list answer (length old) ≡ done keeps (removed_of (listed_by list) items) = copy-alike ∙ or-short-fits refuse (length old) _ _ fits in
          let a : answer ≡ take k.count marks = same-eq answer (marks_of (listed_by list) items) alike ∙ sym (marks-are long) in
          let x : unmarked s 0 0 (take k.count stops) answer ≡ bytes_of keeps = ap (unmarked s 0 0 (take k.count stops)) a ∙ kept-text long longer in
          (rw (m, ← h, ← removed-is, ← fields-is) e, rw m (p.bytes ∙ (ap (sets old 0) x ∙ sets-front old (bytes_of keeps) fits)))
