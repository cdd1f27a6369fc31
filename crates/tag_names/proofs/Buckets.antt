-- The bytes of a name mixed into a number: the loop, and that the number is below 32,768.
use Prim.Native.Nat.{ℕ, ◌+◌, ◌*◌, ◌/◌, ◌%◌, ◌≤◌, ◌<◌}
use native.Mathlib.Numerals.{add-one}
use native.Mathlib.Omega.{arith}
use mathlib.Core.Path.{◌≡◌, refl, ap}
use mathlib.Core.List.{List, [], ◌∷◌}
use lib.ListN.{length, get_or, drop, drop_of_length-le}
use lib.Seq.{drop-cons}
use Rattle.tag_names.specs.Names.{mixed_from, bucket_of}

-- from each byte on the same number is made as from the first, and it is below 2^24 at any
pub record Mixing (n : List ℕ) (h j : ℕ) : Type 0 where
  pub small : h < 16777216
  pub same : mixed_from h (drop j n) ≡ mixed_from 0 n

pub mixing-start : (n : List ℕ) → Mixing n 0 0
mixing-start n = record { small = omega arith; same = refl }

module _ (n : List ℕ) (h j : ℕ) (w : Mixing n h j) where
  pub mixing-on : j < length n → (x : ℕ) → x ≡ get_or n j 0 → Mixing n ((h + x) * 10368889 % 16777216) (j + 1)
  unfolding mixed_from
  mixing-on l x e = record { small = omega arith; same = rw (add-one j, e) ((rw (drop-cons n j 0 l) at w.same)) }

  pub mixing-end : length n ≤ j → h / 512 ≡ bucket_of n
  unfolding mixed_from bucket_of
  mixing-end l = ap (λ (k : ℕ). k / 512) (rw (drop_of_length-le n l) at w.same)

mixed-small : (n : List ℕ) (h : ℕ) → h < 16777216 → mixed_from h n < 16777216
unfolding mixed_from
mixed-small [] h l = l
mixed-small (x ∷ n) h l = mixed-small n ((h + x) * 10368889 % 16777216) (omega arith)

pub bucket-small : (n : List ℕ) → bucket_of n < 32768
unfolding bucket_of
bucket-small n = omega (arith, mixed-small n 0 (omega arith))
