-- The laws of lines and labels, and the cases of a field.
use Prim.Native.Char.{code}
use Prim.Native.Nat.{ℕ, zero, suc, ◌+◌, zero-le}
use native.Mathlib.Omega.{arith}
use mathlib.Core.Path.{◌≡◌, refl}
use mathlib.Core.Bool.{true, false, cond, ◌&&◌}
use mathlib.Core.List.{List}
use lib.Dec.{eqb, leb}
use lib.ListN.{length, get_or, drop, take}
use Rattle.base_sequences.proofs.Booleans.{and_right, cond-le}
use Rattle.base_readers.specs.Readers.{run}
use Rattle.base_readers.specs.Locality.{Fits}
use Rattle.base_readers.specs.Walks.{item, refused}
use Rattle.base_readers.proofs.Readers.{there}
use Rattle.lexis_rules.specs.declared.Class.TheVariants.{Blank}
use Rattle.lexis_rules.specs.Bytes.{in_class}
use Rattle.block_rules.specs.Fields.{line_text, line, name, name_colon, folded, extent, field_limit, field_of, field_at}

-- ==== lines

pub line-fits : Fits line
unfolding line
line-fits xs =
    let a = eqb (get_or xs (line_text xs) 0) (code "\r") in
    let b = eqb (get_or xs (line_text xs + 1) 0) (code "\n") in
    cond-le (a && b) (line_text xs + 2) 0 (length xs) (λ e. omega (arith, there (λ x. eqb x (code "\n")) refl xs (line_text xs + 1) (and_right a b e))) zero-le

pub folded_fits : Fits folded
unfolding folded
folded_fits xs = cond-le (in_class Blank (get_or xs 0 0)) (line xs) 0 (length xs) (λ e. line-fits xs) zero-le

-- ==== labels

pub label-zero : (xs : List ℕ) → name xs ≡ 0 → name_colon xs ≡ 0
unfolding name_colon
label-zero xs e = rw (name_colon, e)

pub label-suc : (xs : List ℕ) (n : ℕ) → name xs ≡ n → (n ≡ 0 → ⊥)
    → name_colon xs ≡ cond (eqb (get_or xs (n + run (in_class Blank) (drop n xs)) 0) (code ":")) (n + run (in_class Blank) (drop n xs) + 1) 0
unfolding name_colon
label-suc xs zero e ne = absurd (ne refl)
label-suc xs (suc n) e ne = rw (name_colon, e)

-- ==== what stands at the front, case by case

module _ (at count : ℕ) (xs : List ℕ) where
  pub field-2 : line xs ≡ 0 → field_at at count xs ≡ refused 2 (at + line_text xs)
  unfolding field_at
  field-2 e = rw (field_at, e)

  module _ (m : ℕ) (e : line xs ≡ suc m) where
    pub field-3 : name_colon xs ≡ 0 → field_at at count xs ≡ refused 3 at
    unfolding field_at
    field-3 f = rw (field_at, e, f)

    module _ (b : ℕ) (f : name_colon xs ≡ suc b) where
      pub field-4 : leb field_limit count ≡ true → field_at at count xs ≡ refused 4 at
      unfolding field_at
      field-4 g = rw (field_at, e, f, g)

      pub field_is : leb field_limit count ≡ false → field_at at count xs ≡ field_of at xs (extent xs)
      unfolding field_at
      field_is g = rw (field_at, e, f, g)

module _ (at : ℕ) (xs : List ℕ) (n : ℕ) where
  pub closed-2 : in_class Blank (get_or xs n 0) ≡ true → field_of at xs n ≡ refused 2 (at + n + line_text (drop n xs))
  unfolding field_of
  closed-2 e = rw (field_of, e)

  pub closed_is : in_class Blank (get_or xs n 0) ≡ false → field_of at xs n ≡ item (record { bytes = take n xs; name = name xs; body = name_colon xs }) n
  unfolding field_of
  closed_is e = rw (field_of, e)
