-- The field that was found whole, at e, is the one that stands there.
use Prim.Native.Nat.{ℕ, zero, suc, ◌+◌, ◌≤◌, ◌<◌}
use native.Mathlib.Omega.{arith}
use mathlib.Core.Path.{◌≡◌, refl, sym, ap}
use mathlib.Core.Bool.{false}
use mathlib.Core.List.{List}
use lib.ListN.{length, get_or, drop, length-drop}
use lib.Seq.{drop-drop}
use Rattle.base_readers.specs.Readers.{many}
use Rattle.base_readers.proofs.Places.{behind-first}
use Rattle.lexis_rules.specs.declared.Class.TheVariants.{Blank}
use Rattle.lexis_rules.specs.Bytes.{in_class}
use Rattle.block_rules.specs.Fields.{line, name, name_colon, folded, extent, field_limit}
use Rattle.block_laws.proofs.Lines.{line-fits}
use Rattle.block_field_ends.specs.Ends.{whole}
use Rattle.block_field_ends.proofs.Ends.{Whole, whole-when}
use Rattle.block.specs.declared.Next.TheVariants.{Field, Refused}
use Rattle.block.specs.Steps.{next_from}
use Rattle.block.proofs.Lines.{finish-field, next-3, next-4, next_field}

module _ (s : List ℕ) (at e : ℕ) (q : e ≡ at + whole (drop at s)) (ne : e ≡ at → ⊥) (count b : ℕ) (f : b ≡ at + name_colon (drop at s)) where
  known : Whole (drop at s) (whole (drop at s))
  known = whole-when (drop at s) (whole (drop at s)) refl (λ z. ne (omega arith))

  lined : at + line (drop at s) ≡ at → ⊥
  lined n = known.lined (omega arith)

  there : at < length s
  there = go (line (drop at s)) refl
    where
      go : (n : ℕ) → line (drop at s) ≡ n → at < length s
      go zero z = absurd (known.lined z)
      go (suc n) z = omega (arith, line-fits (drop at s), length-drop at s)

  pub whole-3 : b ≡ at → Refused 3 at ≡ next_from at count (drop at s)
  whole-3 z = next-3 s at count there (at + line (drop at s)) refl lined b f z

  module _ (bz : b ≡ at → ⊥) where
    pub whole-4 : field_limit ≤ count → Refused 4 at ≡ next_from at count (drop at s)
    whole-4 z = next-4 s at count there (at + line (drop at s)) refl lined b f bz z

    pub whole-field : count < field_limit → (n : ℕ) → n ≡ at + name (drop at s) → Field at n b e ≡ next_from at count (drop at s)
    unfolding extent
    whole-field z n g =
        next_field s at count there (at + line (drop at s)) refl lined b f bz z n g (Field at n b e)
        (finish-field s at (at + line (drop at s)) n b e ends false (sym shut) refl)
      where
        shut : in_class Blank (get_or (drop e s) 0 0) ≡ false
        shut = rw (behind-first s at (whole (drop at s)) e q) known.shut

        ends : e ≡ at + line (drop at s) + many folded 0 (drop (at + line (drop at s)) s)
        ends =
            let d : drop (line (drop at s)) (drop at s) ≡ drop (at + line (drop at s)) s = rw drop-drop in
            let x : extent (drop at s) ≡ line (drop at s) + many folded 0 (drop (line (drop at s)) (drop at s)) = refl in
            omega (arith, q, known.size, x, ap (many folded 0) d)
