-- A field whose lines are all whole: what is known of it, and the same field from a place inside one of its lines. What lacks a CRLF behind
-- such a place lacks it before.
use Prim.Native.Char.{code}
use Prim.Native.Nat.{ℕ, zero, suc, ◌+◌}
use native.Mathlib.Omega.{arith}
use mathlib.Core.Path.{◌≡◌, refl, ◌∙◌}
use mathlib.Core.Bool.{Bool, true, false}
use mathlib.Core.List.{List, [], ◌∷◌}
use lib.Dec.{eqb}
use lib.ListN.{get_or}
use Rattle.lexis_rules.specs.declared.Class.TheVariants.{Blank}
use Rattle.lexis_rules.specs.Bytes.{in_class}
use Rattle.block_rules.specs.Fields.{in_line, line, extent}
use Rattle.block_laws.proofs.Extents.{extent-past, line-lacks, line-empty, line-feed, line-return, extent-none, extent-folded, extent-lacks, extent-closed}
use Rattle.block_laws.proofs.Field.{extent-some}
use Rattle.block_field_ends.specs.Ends.{whole}

-- ==== by the byte behind its further lines

module _ (xs : List ℕ) where
  whole-cut : in_class Blank (get_or xs (extent xs) 0) ≡ true → whole xs ≡ 0
  unfolding whole
  whole-cut b = rw (whole, b)

  whole_is : in_class Blank (get_or xs (extent xs) 0) ≡ false → whole xs ≡ extent xs
  unfolding whole
  whole_is b = rw (whole, b)

  -- without a first line there is none
  whole-none : line xs ≡ 0 → whole xs ≡ 0
  whole-none z = go (in_class Blank (get_or xs (extent xs) 0)) refl
    where
      go : (r : Bool) → in_class Blank (get_or xs (extent xs) 0) ≡ r → whole xs ≡ 0
      go true b = whole-cut b
      go false b = whole_is b ∙ extent-none xs z

-- what is known of such a field of n bytes
pub record Whole (xs : List ℕ) (n : ℕ) : Type 0 where
  pub lined : line xs ≡ 0 → ⊥
  pub size : n ≡ extent xs
  pub shut : in_class Blank (get_or xs n 0) ≡ false

pub whole-when : (xs : List ℕ) (n : ℕ) → n ≡ whole xs → (n ≡ 0 → ⊥) → Whole xs n
whole-when xs n q some = go (in_class Blank (get_or xs (extent xs) 0)) refl
  where
    lined : line xs ≡ 0 → ⊥
    lined z = some (q ∙ whole-none xs z)

    go : (r : Bool) → in_class Blank (get_or xs (extent xs) 0) ≡ r → Whole xs n
    go true b = absurd (some (q ∙ whole-cut xs b))
    go false b = let e : n ≡ extent xs = q ∙ whole_is xs b in record { lined = lined; size = e; shut = rw e b }

-- ==== the same field from k bytes further on

-- a field with k bytes more at the front: it has no end where it had none
abbrev pub further : ℕ → ℕ → ℕ
further k zero = 0
further k (suc n) = k + suc n

module _ (k : ℕ) (xs ys : List ℕ) (b : line xs ≡ 0 → ⊥) (e : extent ys ≡ k + extent xs) (g : get_or ys (k + extent xs) 0 ≡ get_or xs (extent xs) 0) where
  whole-further : whole ys ≡ further k (whole xs)
  whole-further = go (in_class Blank (get_or xs (extent xs) 0)) refl
    where
      same : in_class Blank (get_or ys (extent ys) 0) ≡ in_class Blank (get_or xs (extent xs) 0)
      same = rw (e, g)

      some : (n : ℕ) → extent xs ≡ n → k + n ≡ further k n
      some zero z = absurd (omega (arith, extent-some xs b))
      some (suc n) z = refl

      go : (r : Bool) → in_class Blank (get_or xs (extent xs) 0) ≡ r → whole ys ≡ further k (whole xs)
      go true t = rw (whole-cut xs t, whole-cut ys (same ∙ t))
      go false t = rw (whole_is xs t, whole_is ys (same ∙ t), e) (some (extent xs) refl)

-- past a byte of the text
pub whole-past : (x : ℕ) (xs : List ℕ) → in_line x ≡ true → whole (x ∷ xs) ≡ further 1 (whole xs)
whole-past x xs t = go (line xs) refl
  where
    go : (n : ℕ) → line xs ≡ n → whole (x ∷ xs) ≡ further 1 (whole xs)
    go zero z = rw (whole-none xs z, whole-none (x ∷ xs) (line-lacks x xs t z))
    go (suc n) z =
        let b : line xs ≡ 0 → ⊥ = λ o. omega arith in
        whole-further 1 xs (x ∷ xs) b (extent-past x xs t b ∙ omega arith) (let m : 1 + extent xs ≡ suc (extent xs) = omega arith in rw m)

-- past a CRLF with a further line behind it, and at the last CRLF
module _ (xs : List ℕ) where
  pub whole-folded : in_class Blank (get_or xs 0 0) ≡ true → whole (code "\r" ∷ code "\n" ∷ xs) ≡ further 2 (whole xs)
  whole-folded t = go (line xs) refl
    where
      go : (n : ℕ) → line xs ≡ n → whole (code "\r" ∷ code "\n" ∷ xs) ≡ further 2 (whole xs)
      go zero z = rw (whole-none xs z) (whole-cut (code "\r" ∷ code "\n" ∷ xs) (rw (extent-lacks xs z) t))
      go (suc n) z =
          let b : line xs ≡ 0 → ⊥ = λ o. omega arith in
          whole-further 2 xs (code "\r" ∷ code "\n" ∷ xs) b (extent-folded xs t b) (let m : 2 + extent xs ≡ suc (suc (extent xs)) = omega arith in rw m)

  pub whole-last : in_class Blank (get_or xs 0 0) ≡ false → whole (code "\r" ∷ code "\n" ∷ xs) ≡ 2
  whole-last t =
      let e = extent-closed xs t in
      whole_is (code "\r" ∷ code "\n" ∷ xs) (rw e t) ∙ e

  -- at a CR without LF, and at an LF
  pub whole-return : eqb (get_or xs 0 0) (code "\n") ≡ false → whole (code "\r" ∷ xs) ≡ 0
  whole-return e = whole-none (code "\r" ∷ xs) (line-return xs e)

  pub whole-feed : whole (code "\n" ∷ xs) ≡ 0
  whole-feed = whole-none (code "\n" ∷ xs) (line-feed xs)

-- at the end of the bytes
pub whole-empty : whole [] ≡ 0
whole-empty = whole-none [] line-empty
