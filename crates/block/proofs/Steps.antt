-- A step of `next_field` is a step of the walk over the fields: what each of its answers tells, by cases of what stands at the place.
use Prim.Native.Nat.{ℕ, ◌+◌, ◌-◌, ◌≤◌, ◌<◌, zero-le, suc-le-suc}
use native.Mathlib.Numerals.{add-one}
use native.Mathlib.Omega.{arith}
use mathlib.Core.Path.{◌≡◌, refl, ◌∙◌}
use mathlib.Core.List.{List, [], ◌∷◌}
use lib.ListN.{length, drop, take, length-drop}
use lib.Seq.{drop-drop, take-take, length-take-le}
use Rattle.base_sequences.proofs.Lists.{drop-take}
use Rattle.base_readers.specs.Walks.{Met, item, refused, Walked, ended, before, walk}
use Rattle.base_readers.proofs.Walks.{walk-item, walk-stop, walk_end}
use Rattle.block.specs.declared.Next.{Next}
use Rattle.block.specs.declared.Next.TheVariants as next
use Rattle.block_rules.specs.Fields.{Field, name_of, body_of, field_limit, field_at}
use Rattle.block.specs.Steps.{next_of, next_from}
use Rattle.block.proofs.Lines.{next-is}
use Rattle.block_laws.proofs.Field.{field-size, field-bytes, field-long, field_below, field-sound}

-- what is left of a block at a place, after so many fields
abbrev pub rest_walk : List ℕ → ℕ → ℕ → Walked Field
rest_walk s at count = walk field_at at count 0 (drop at s)

-- the field from a up to e, whose name ends at n and whose body starts at b
abbrev pub field_from : List ℕ → ℕ → ℕ → ℕ → ℕ → Field
field_from s a n b e = record { bytes = take (e - a) (drop a s); name = n - a; body = b - a }

-- a field at these places, and what is left after it
pub record Cut (s : List ℕ) (at count a n b e : ℕ) : Type 0 where
  pub start : a ≡ at
  pub named : a < n
  pub labelled : n < b
  pub bodied : b + 2 ≤ e
  pub inside : e ≤ length s
  pub below : count < field_limit
  pub more : rest_walk s at count ≡ before (field_from s a n b e) (rest_walk s e (count + 1))

-- what each answer of the code tells
abbrev Tells : List ℕ → ℕ → ℕ → Next → Type 0
Tells s at count (next.Field a n b e) = Cut s at count a n b e
Tells s at count next.End = rest_walk s at count ≡ ended 0 0
Tells s at count (next.Refused n p) = rest_walk s at count ≡ ended n p

same-field : (f : Field) (x : List ℕ) (i j : ℕ) → f.bytes ≡ x → f.name ≡ i → f.body ≡ j → f ≡ record { bytes = x; name = i; body = j }
same-field f x i j p q r = rw (← p, ← q, ← r)

tells-there : (s : List ℕ) (at count : ℕ) → 0 < length (drop at s) → Tells s at count (next_from at count (drop at s))
tells-there s at count h = rw (next-is at count (drop at s) h) (here (field_at at count (drop at s)) refl)
  where
    here : (m : Met Field) → field_at at count (drop at s) ≡ m → Tells s at count (next_of at m)
    here (refused n p) q = walk-stop field_at at count (drop at s) n p h q
    here (item f k) q =
        let u = field-sound at count (drop at s) f k q in
        let v = field-size at count (drop at s) f k q in
        let d : at + k - at ≡ k = omega arith in
        let i : f ≡ field_from s at (at + f.name) (at + f.body) (at + k) =
        same-field f _ (at + f.name - at) (at + f.body - at) (field-bytes at count (drop at s) f k q ∙ rw d) (omega arith) (omega arith) in
        record {
          start = refl;
          named = omega (arith, u.one);
          labelled = omega (arith, u.named);
          bodied = omega (arith, u.within, field-long at count (drop at s) f k q);
          inside = omega (arith, length-drop at s);
          below = field_below at count (drop at s) f k q;
          more = walk-item field_at at count (drop at s) f k h v.0 q ∙ rw (drop-drop, ← i, add-one);
        }

tells : (s : List ℕ) (at count : ℕ) → Tells s at count (next_from at count (drop at s))
unfolding next_from
tells s at count = go (drop at s) refl
  where
    go : (xs : List ℕ) → drop at s ≡ xs → Tells s at count (next_from at count (drop at s))
    go [] q = let e : next.End ≡ next_from at count (drop at s) = rw q in rw (← e, q) (walk_end field_at at count)
    go (x ∷ xs) q = tells-there s at count (rw q (suc-le-suc zero-le))

module _ (s : List ℕ) (at count : ℕ) where
  pub step_end : next.End ≡ next_from at count (drop at s) → rest_walk s at count ≡ ended 0 0
  step_end e = rw (← e) at (tells s at count)

  pub step-refused : (n p : ℕ) → next.Refused n p ≡ next_from at count (drop at s) → rest_walk s at count ≡ ended n p
  step-refused n p e = rw (← e) at (tells s at count)

  pub step_field : (a n b e : ℕ) → next.Field a n b e ≡ next_from at count (drop at s) → Cut s at count a n b e
  step_field a n b e q = rw (← q) at (tells s at count)

-- ==== the name and the body of a field, where the code finds them

sub-less : (a b e : ℕ) → a ≤ b → b + 2 ≤ e → e - a - 2 - (b - a) ≡ e - 2 - b
sub-less a b e h k = omega arith

sub-past : (a b e : ℕ) → a ≤ b → b + 2 ≤ e → e - a - (b - a) ≡ e - b
sub-past a b e h k = omega arith

sub-under : (b e : ℕ) → b + 2 ≤ e → e - 2 - b ≤ e - b
sub-under b e h = omega arith

module _ (s : List ℕ) (a n b e : ℕ) (named : a < n) (labelled : n < b) (bodied : b + 2 ≤ e) (inside : e ≤ length s) where
  pub part_bytes : length (field_from s a n b e).bytes ≡ e - a
  part_bytes = length-take-le (e - a) (drop a s) (rw length-drop (omega arith))

  pub part-name : name_of (field_from s a n b e) ≡ take (n - a) (drop a s)
  part-name = take-take (n - a) (e - a) (drop a s) (omega arith)

  pub part_body : body_of (field_from s a n b e) ≡ take (e - 2 - b) (drop b s)
  part_body =
      let o : a ≤ b = omega arith in
      let j : a + (b - a) ≡ b = omega arith in
      rw (part_bytes, sub-less a b e o bodied, drop-take (b - a) (e - a) (drop a s), sub-past a b e o bodied, drop-drop, j)
      (take-take (e - 2 - b) (e - b) (drop b s) (sub-under b e bodied))
