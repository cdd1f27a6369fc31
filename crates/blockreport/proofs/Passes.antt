-- The loop over the fields: what is left of the block answers as the whole, and adds what is left of the text.
use Prim.Native.Nat.{ℕ, suc, ◌+◌, ◌-◌, ◌*◌, ◌≤◌, zero-le}
use native.Mathlib.Numerals.{add-one}
use native.Mathlib.Omega.{arith}
use mathlib.Core.Path.{◌≡◌, refl}
use mathlib.Core.List.{List, [], ◌++◌}
use lib.ListN.{length, take, drop, length-take}
use Rattle.base_readers.specs.Parsers.{Got}
use Rattle.lexis_rules.specs.Limits.{byte_limit}
use Rattle.block.specs.declared.Next.TheVariants.{Field, End, Refused}
use Rattle.block_rules.specs.Fields.{fields}
use Rattle.block.specs.Steps.{next_from}
use Rattle.block.proofs.Steps.{rest_walk, step_field, step_end, step-refused, part-name, part_body}
use Rattle.ownlist_rules.specs.declared.Own.{Own}
use Rattle.blockreport_rules.specs.declared.Detail.{Detail}
use Rattle.blockreport_rules.specs.BlockReport.{addition, additions}
use Rattle.blockreport_laws.proofs.Sizes.{addition-size}
use Rattle.blockreport_fields.specs.Addends.{field_addend, place_after, buffer_after}
use Rattle.blockreport.specs.Internal.{text_before, FieldsPut}
use Rattle.blockreport.proofs.Rooms.{addend-put, Filling, filling-start, filling_step, filling-done}

-- the loop stands at a place, after so many fields, and the text so far ends at `to`
pub record Telling (detail : Detail) (s : List ℕ) (whose : Got (List ℕ) → Own) (old out : List ℕ) (at count to : ℕ) : Type 0 where
  pub number : (rest_walk s at count).number ≡ (fields s).number
  pub place : (rest_walk s at count).place ≡ (fields s).place
  pub left : Filling old (text_before detail s whose) out to (additions detail whose (count + 1) (rest_walk s at count).items)
  pub inside : at ≤ length s
  pub small : to ≤ 1000 * at

pub telling-start : (detail : Detail) (s : List ℕ) (whose : Got (List ℕ) → Own) (old : List ℕ) → Telling detail s whose old old 0 0 0
telling-start detail s whose old = record { number = refl; place = refl; left = filling-start old (text_before detail s whose); inside = zero-le; small = omega arith }

module _ (detail : Detail) (s : List ℕ) (whose : Got (List ℕ) → Own) (old out : List ℕ) (at count to : ℕ) (w : Telling detail s whose old out at count to) where
  ended : (n p : ℕ) → rest_walk s at count ≡ record { items = []; number = n; place = p } → FieldsPut detail s whose old out (record { number = n; place = p; written = to })
  unfolding additions
  ended n p e =
      let d = filling-done w.left (rw e) in
      record { number = rw e at w.number; place = rw e at w.place; written = d.0; long = w.left.long; bytes = d.1 }

  pub telling-end : End ≡ next_from at count (drop at s) → FieldsPut detail s whose old out (record { number = 0; place = 0; written = to })
  telling-end e = ended 0 0 (step_end s at count e)

  pub telling-refused : (n p : ℕ) → Refused n p ≡ next_from at count (drop at s) → FieldsPut detail s whose old out (record { number = n; place = p; written = to })
  telling-refused n p e = ended n p (step-refused s at count n p e)

  module _ (a n b e : ℕ) (q : Field a n b e ≡ next_from at count (drop at s)) (limit : length s ≤ byte_limit) where
    body-short : length (take (e - 2 - b) (drop b s)) ≤ e - 2 - b
    body-short = omega (arith, length-take (e - 2 - b) (drop b s))

    telling-limit : length (take (e - 2 - b) (drop b s)) ≤ byte_limit
    telling-limit = let c = step_field s at count a n b e q in omega (arith, body-short, c.inside, limit)

    counted : (out' : List ℕ) (to' : ℕ)
        → (to' ≡ place_after (field_addend detail whose (count + 1) (take (n - a) (drop a s)) (take (e - 2 - b) (drop b s))) to)
        × (out' ≡ buffer_after (field_addend detail whose (count + 1) (take (n - a) (drop a s)) (take (e - 2 - b) (drop b s))) out to)
        → Telling detail s whose old out' e (count + 1) to'
    unfolding additions
    counted out' to' u =
        let v = addend-put detail whose (count + 1) (take (n - a) (drop a s)) (take (e - 2 - b) (drop b s)) out to out' to' telling-limit u in
        let c = step_field s at count a n b e q in
        let x = part-name s a n b e c.named c.labelled c.bodied c.inside in
        let y = part_body s a n b e c.named c.labelled c.bodied c.inside in
        let z = addition-size detail whose (count + 1) (take (n - a) (drop a s)) (take (e - 2 - b) (drop b s)) telling-limit in
        let k : count + 1 + 1 ≡ suc (count + 1) = add-one (count + 1) in
        let t : additions detail whose (count + 1) (rest_walk s at count).items
        ≡ addition detail whose (count + 1) (take (n - a) (drop a s)) (take (e - 2 - b) (drop b s)) ++ additions detail whose (count + 1 + 1) (rest_walk s e (count + 1)).items =
        rw (c.more, x, y, k) in
        let m : to + length (addition detail whose (count + 1) (take (n - a) (drop a s)) (take (e - 2 - b) (drop b s))) ≤ 1000 * e =
        omega (arith, z, body-short, w.small, c.start, c.named, c.labelled, c.bodied, c.below) in
        record {
          number = rw c.more at w.number;
          place = rw c.more at w.place;
          left = filling_step w.left t (omega (arith, m, c.inside, limit)) v;
          inside = c.inside;
          small = omega (arith, m, v.place);
        }

    -- the field is the k-th: one more than those before it
    pub telling-field : (k : ℕ) (out' : List ℕ) (to' : ℕ)
        → (to' ≡ place_after (field_addend detail whose k (take (n - a) (drop a s)) (take (e - 2 - b) (drop b s))) to)
        × (out' ≡ buffer_after (field_addend detail whose k (take (n - a) (drop a s)) (take (e - 2 - b) (drop b s))) out to)
        → k ≡ count + 1 → Telling detail s whose old out' e k to'
    telling-field k out' to' u q = rw q (counted out' to' (rw q at u))
