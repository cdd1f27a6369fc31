-- The loop over the fields: what is left of the block answers as the whole, and one turn.
use Prim.Native.Nat.{ℕ, ◌+◌, ◌-◌, ◌≤◌, zero-le}
use native.Mathlib.Nat.{zero-add}
use native.Mathlib.Omega.{arith}
use mathlib.Core.Path.{◌≡◌, refl, sym, ap, ◌∙◌}
use mathlib.Core.Bool.{Bool, true, false, ◌&&◌}
use mathlib.Core.List.{List, [], ◌∷◌}
use lib.ListN.{length, drop, take, set, length-append}
use Rattle.base_sequences.specs.Stored.{Clipped}
use Rattle.base_sequences.proofs.Splices.{Left, left-start, left-byte, left-done, wrote_count}
use Rattle.base_readers.specs.Texts.{bytes}
use Rattle.base_readers.specs.Walks.{Walked}
use Rattle.lexis_rules.specs.Bytes.{alike}
use Rattle.block.specs.declared.Next.TheVariants.{Field, End, Refused}
use Rattle.block_rules.specs.Fields as blocks
use Rattle.block_rules.specs.Fields.{named, body_of, bytes_of, select}
use Rattle.block.specs.Steps.{next_from}
use Rattle.block_laws.proofs.Fields.{select_yes, select_no}
use Rattle.block.proofs.Steps.{rest_walk, field_from, Cut, step_field, step_end, step-refused, part_bytes, part-name, part_body}
use Rattle.strip_rules.specs.Strip.{ours_or_unreadable, is_removed, removed_of}
use Rattle.strip_steps_rules.specs.Steps.{marks_of}
use Rattle.strip_steps_laws.proofs.Marks.{marks-long}
use Rattle.strip_fields.specs.Sifting.{stops_of, Sifts}

abbrev pub all_fields : List ℕ → List blocks.Field
all_fields s = (blocks.fields s).items

-- a loop stands at a place, after so many fields: what is left answers as the whole, what was summed up is what lacks, and what was kept is what is not left to keep
pub record Sifting (s : List ℕ) (listed : List ℕ → Bool) (marks₀ stops₀ marks stops : List ℕ) (at count removed fields : ℕ) : Type 0 where
  pub number : (rest_walk s at count).number ≡ (blocks.fields s).number
  pub place : (rest_walk s at count).place ≡ (blocks.fields s).place
  pub marked : Left marks₀ 0 (marks_of listed (all_fields s)) marks count (marks_of listed (rest_walk s at count).items)
  pub stopped : Left stops₀ 0 (stops_of 0 (all_fields s)) stops count (stops_of at (rest_walk s at count).items)
  pub taken : removed + length (bytes_of (removed_of listed (rest_walk s at count).items)) ≡ length (bytes_of (removed_of listed (all_fields s)))
  pub some : fields + length (removed_of listed (rest_walk s at count).items) ≡ length (removed_of listed (all_fields s))
  pub inside : at ≤ length s
  pub small : removed ≤ at
  pub few : fields ≤ at

pub sift-start : (s : List ℕ) (listed : List ℕ → Bool) (marks stops : List ℕ) → Sifting s listed marks stops marks stops 0 0 0 0
sift-start s listed marks stops =
    record {
      number = refl;
      place = refl;
      marked = left-start marks 0 (marks_of listed (all_fields s));
      stopped = left-start stops 0 (stops_of 0 (all_fields s));
      taken = zero-add _;
      some = zero-add _;
      inside = zero-le;
      small = omega arith;
      few = omega arith;
    }

module _ (s : List ℕ) (listed : List ℕ → Bool) (marks₀ stops₀ marks stops : List ℕ) (at count removed fields : ℕ)
    (w : Sifting s listed marks₀ stops₀ marks stops at count removed fields) where
  -- nothing is left: the refusal and the sums are those of the whole
  ended : (n p : ℕ) → rest_walk s at count ≡ record { items = []; number = n; place = p }
      → Sifts listed (blocks.fields s) marks₀ stops₀ marks stops (record { number = n; place = p; count = count; removed = removed; fields = fields })
  unfolding select bytes_of marks_of stops_of
  ended n p e =
      let m = left-done w.marked (rw e) in
      let t = left-done w.stopped (rw e) in
      let a : n ≡ (blocks.fields s).number = rw e at w.number in
      let b : p ≡ (blocks.fields s).place = rw e at w.place in
      let k : count ≡ length (all_fields s) = wrote_count m ∙ marks-long listed (all_fields s) in
      let x = rw e at w.taken in
      let y = rw e at w.some in
      let c : removed ≡ length (bytes_of (removed_of listed (all_fields s))) = omega (arith, x) in
      let d : fields ≡ length (removed_of listed (all_fields s)) = omega (arith, y) in
      record { is = rw (a, b, k, c, d); marked = m.bytes; stopped = t.bytes }

  pub sift-end : End ≡ next_from at count (drop at s)
      → Sifts listed (blocks.fields s) marks₀ stops₀ marks stops (record { number = 0; place = 0; count = count; removed = removed; fields = fields })
  sift-end e = ended 0 0 (step_end s at count e)

  pub sift-refused : (n p : ℕ) → Refused n p ≡ next_from at count (drop at s)
      → Sifts listed (blocks.fields s) marks₀ stops₀ marks stops (record { number = n; place = p; count = count; removed = removed; fields = fields })
  sift-refused n p e = ended n p (step-refused s at count n p e)

  -- one turn: a field by its places, and whether it goes
  module _ (a n b e : ℕ) (q : Field a n b e ≡ next_from at count (drop at s)) (r : Bool)
      (h : r ≡ (alike (take (n - a) (drop a s)) (bytes "Authentication-Results") && ours_or_unreadable listed (take (e - 2 - b) (drop b s)))) where
    cut : Cut s at count a n b e
    cut = step_field s at count a n b e q

    bytes-long : length (take (e - a) (drop a s)) ≡ e - a
    bytes-long = let c = cut in part_bytes s a n b e c.named c.labelled c.bodied c.inside

    going : r ≡ is_removed listed (field_from s a n b e)
    unfolding is_removed named
    going =
        let c = cut in
        let x = part-name s a n b e c.named c.labelled c.bodied c.inside in
        let y = part_body s a n b e c.named c.labelled c.bodied c.inside in
        h
        ∙ sym (ap (λ (t : List ℕ). alike t (bytes "Authentication-Results") && ours_or_unreadable listed (body_of (field_from s a n b e))) x
        ∙ ap (λ (t : List ℕ). alike (take (n - a) (drop a s)) (bytes "Authentication-Results") && ours_or_unreadable listed t) y)

    -- the fields behind it
    abbrev behind : List blocks.Field
    behind = (rest_walk s e (count + 1)).items

    more : (rest_walk s at count).items ≡ field_from s a n b e ∷ behind
    more = ap (λ (x : Walked blocks.Field). x.items) cut.more

    -- where it ends
    stop : stops_of at (rest_walk s at count).items ≡ e ∷ stops_of e behind
    unfolding stops_of
    stop = let c = cut in let o : at + length (take (e - a) (drop a s)) ≡ e = omega (arith, c.start, c.named, c.labelled, c.bodied, bytes-long) in rw (more, o)

    module _ (marks' stops' : List ℕ) (y : stops' ≡ set stops count e) where
      pub sift-gone : r ≡ true → (z : ℕ) → Clipped marks count (1 ∷ []) marks' z
          → Sifting s listed marks₀ stops₀ marks' stops' e (count + 1) (removed + (e - a)) (fields + 1)
      unfolding bytes_of marks_of
      sift-gone t z x =
          let c = cut in
          let g : is_removed listed (field_from s a n b e) ≡ true = sym going ∙ t in
          let v : removed_of listed (rest_walk s at count).items ≡ field_from s a n b e ∷ removed_of listed behind =
          ap (removed_of listed) more ∙ select_yes (is_removed listed) (field_from s a n b e) behind g in
          let i = rw v at w.taken in
          let j = rw v at w.some in
          record {
            number = rw c.more at w.number;
            place = rw c.more at w.place;
            marked = left-byte w.marked (rw (more, g)) x.bytes;
            stopped = left-byte w.stopped stop y;
            taken = omega (arith, i, bytes-long, length-append (take (e - a) (drop a s)) (bytes_of (removed_of listed behind)));
            some = omega (arith, j);
            inside = c.inside;
            small = omega (arith, w.small, c.start, c.named, c.labelled, c.bodied);
            few = omega (arith, w.few, c.start, c.named, c.labelled, c.bodied);
          }

      pub sift-kept : r ≡ false → (z : ℕ) → Clipped marks count (0 ∷ []) marks' z
          → Sifting s listed marks₀ stops₀ marks' stops' e (count + 1) removed fields
      unfolding marks_of
      sift-kept t z x =
          let c = cut in
          let g : is_removed listed (field_from s a n b e) ≡ false = sym going ∙ t in
          let v : removed_of listed (rest_walk s at count).items ≡ removed_of listed behind =
          ap (removed_of listed) more ∙ select_no (is_removed listed) (field_from s a n b e) behind g in
          record {
            number = rw c.more at w.number;
            place = rw c.more at w.place;
            marked = left-byte w.marked (rw (more, g)) x.bytes;
            stopped = left-byte w.stopped stop y;
            taken = rw v at w.taken;
            some = rw v at w.some;
            inside = c.inside;
            small = omega (arith, w.small, c.start, c.named, c.labelled, c.bodied);
            few = omega (arith, w.few, c.start, c.named, c.labelled, c.bodied);
          }
