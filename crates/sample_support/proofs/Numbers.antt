-- A number that is cut at each digit is the whole number cut once: a number past the most stays past it with more digits behind.
use Prim.Native.Nat.{ℕ, suc, ◌+◌, ◌-◌, ◌*◌, ◌≤◌, ◌<◌, min}
use native.Mathlib.Numerals.{add-one}
use native.Mathlib.Omega.{arith}
use mathlib.Core.Path.{◌≡◌, sym, ap, ◌∙◌}
use mathlib.Core.List.{List, [], ◌∷◌}
use lib.ListN.{length, get_or, drop, drop_of_length-le}
use lib.Seq.{drop-cons}
use Rattle.sample_support.specs.Samples.{number}

cut_digit : (m a d : ℕ) → min (min a m * 10 + d) m ≡ min (a * 10 + d) m
cut_digit m a d = omega arith

number_cut : (m a : ℕ) (xs : List ℕ) → min (number (min a m) xs) m ≡ min (number a xs) m
unfolding number
number_cut m a [] = omega arith
number_cut m a (x ∷ xs) =
    sym (number_cut m (min a m * 10 + (x - 48)) xs)
    ∙ ap (λ (n : ℕ). min (number n xs) m) (cut_digit m a (x - 48))
    ∙ number_cut m (a * 10 + (x - 48)) xs

-- the loop over digits: the number from a place on, behind those so far, is the whole number
module _ (s : List ℕ) (m n i : ℕ) (w : min (number n (drop i s)) m ≡ min (number 0 s) m) where
  pub number_more : i < length s → (d r : ℕ) → d ≡ get_or s i 0 - 48 → r ≡ min (n * 10 + d) m → min (number r (drop (i + 1) s)) m ≡ min (number 0 s) m
  unfolding number
  number_more h d r e q = rw (q, e, add-one) (number_cut m (n * 10 + (get_or s i 0 - 48)) (drop (suc i) s) ∙ (rw (drop-cons s i 0 h) at w))

  pub number-end : length s ≤ i → n ≤ m → n ≡ min (number 0 s) m
  unfolding number
  number-end h l = omega (arith, rw (drop_of_length-le s h) at w)
