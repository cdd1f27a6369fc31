-- The sum from a place on, with the two halves so far, is that of the whole list: one turn and the end, by the definition's one step. The count of the
-- bytes so far with that of the rest is the whole count.
use Rattle.std.proofs.Common.{ℕ, suc, ◌∷◌, ◌+◌, ◌*◌, ◌%◌, ◌≤◌, ◌<◌, ◌≡◌, Bool, true, false, cond, not, List, nat_eq, refl, sym, ◌∙◌, length, get_or, drop, drop_of_length-le, drop-cons, add-one, arith}
use Rattle.std.specs.Int.{from_bool}
use Rattle.sample_sums.specs.Sums.{sums, adler, changed}

module _ (s : List ℕ) (low high i : ℕ) (w : sums low high (drop i s) ≡ adler s) where
  pub sums-more : i < length s → (x : ℕ) → x ≡ get_or s i 0 → sums ((low + x) % 65521) ((high + (low + x) % 65521) % 65521) (drop (i + 1) s) ≡ adler s
  unfolding sums
  sums-more h x e = rw (e, add-one) (rw (drop-cons s i 0 h) at w)

  pub sums-end : length s ≤ i → high * 65536 + low ≡ adler s
  unfolding sums
  sums-end h = rw (drop_of_length-le s h) at w

-- a byte counts for one or for none
one_or_none : (t : Bool) → from_bool (not t) ≡ cond t 0 1
one_or_none true = refl
one_or_none false = refl

pub one-most : (t : Bool) → from_bool t ≤ 1
one-most true = omega arith
one-most false = omega arith

-- the bytes counted so far, and those of the rest
module _ (s : List ℕ) (count i : ℕ) (w : count + changed (drop i s) ≡ changed s) where
  pub changed-more : i < length s → (x one : ℕ) → x ≡ get_or s i 0 → one ≡ from_bool (not (nat_eq x 170)) → count + one + changed (drop (i + 1) s) ≡ changed s
  unfolding changed
  changed-more h x one e o =
      let v : count + changed (get_or s i 0 ∷ drop (suc i) s) ≡ changed s = (rw (drop-cons s i 0 h) at w) in
      let o' : one ≡ cond (nat_eq (get_or s i 0) 170) 0 1 = (rw e at o) ∙ one_or_none (nat_eq (get_or s i 0) 170) in
      rw add-one (omega (arith, v, o'))

  pub changed-end : length s ≤ i → count ≡ changed s
  unfolding changed
  changed-end h = let v : count + 0 ≡ changed s = (rw (drop_of_length-le s h) at w) in omega (arith, v)
