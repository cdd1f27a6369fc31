-- The extent of a field from a place inside one of its lines: past a byte of the line's text, past a CRLF with a further line behind it, and
-- at the last CRLF; and where a line lacks its CRLF.
use Prim.Native.Char.{code}
use Prim.Native.Nat.{ℕ, zero, suc, ◌+◌}
use native.Mathlib.Omega.{arith}
use mathlib.Core.Path.{◌≡◌, refl}
use mathlib.Core.Bool.{Bool, true, false, ◌&&◌}
use mathlib.Core.List.{List, [], ◌∷◌}
use lib.Dec.{eqb}
use lib.ListN.{get_or}
use Rattle.base_readers.specs.Texts.{one_of}
use Rattle.base_readers.specs.Readers.{run}
use Rattle.base_readers.proofs.Readers.{run_more, many_more, many-none}
use Rattle.lexis_rules.specs.declared.Class.TheVariants.{Blank}
use Rattle.lexis_rules.specs.Bytes.{in_class}
use Rattle.block_rules.specs.Fields.{in_line, line_text, line, folded, extent}
use Rattle.block_laws.proofs.Lines.{line-fits}

-- ==== past a byte of the text

module _ (x : ℕ) (xs : List ℕ) (t : in_line x ≡ true) (some : line xs ≡ 0 → ⊥) where
  pub line-past : line (x ∷ xs) ≡ suc (line xs)
  unfolding line
  line-past = go (eqb (get_or xs (line_text xs) 0) (code "\r") && eqb (get_or xs (line_text xs + 1) 0) (code "\n")) refl
    where
      go : (r : Bool) → (eqb (get_or xs (line_text xs) 0) (code "\r") && eqb (get_or xs (line_text xs + 1) 0) (code "\n")) ≡ r → line (x ∷ xs) ≡ suc (line xs)
      go true e =
          let n = suc (line_text xs) in
          let m : n + 1 ≡ suc (line_text xs + 1) = omega arith in
          let d : (eqb (get_or (x ∷ xs) n 0) (code "\r") && eqb (get_or (x ∷ xs) (n + 1) 0) (code "\n")) ≡ true = rw m e in
          rw (line, run_more in_line x xs t, d, e) (omega arith)
      go false e = absurd (some (rw (line, e)))

  pub extent-past : extent (x ∷ xs) ≡ suc (extent xs)
  unfolding extent
  extent-past = rw (extent, line-past) (omega arith)

-- a line that lacks its CRLF behind the byte lacks it before the byte
pub line-lacks : (x : ℕ) (xs : List ℕ) → in_line x ≡ true → line xs ≡ 0 → line (x ∷ xs) ≡ 0
unfolding line
line-lacks x xs t z = go (eqb (get_or xs (line_text xs) 0) (code "\r") && eqb (get_or xs (line_text xs + 1) 0) (code "\n")) refl
  where
    go : (r : Bool) → (eqb (get_or xs (line_text xs) 0) (code "\r") && eqb (get_or xs (line_text xs + 1) 0) (code "\n")) ≡ r → line (x ∷ xs) ≡ 0
    go true e = absurd (let o : line_text xs + 2 ≡ 0 = rw (line, e) at z in omega arith)
    go false e =
        let n = suc (line_text xs) in
        let m : n + 1 ≡ suc (line_text xs + 1) = omega arith in
        let d : (eqb (get_or (x ∷ xs) n 0) (code "\r") && eqb (get_or (x ∷ xs) (n + 1) 0) (code "\n")) ≡ false = rw m e in
        rw (line, run_more in_line x xs t, d)

-- ==== where a line has no CRLF

pub line-empty : line [] ≡ 0
unfolding line run
line-empty = refl

-- an LF without CR
pub line-feed : (xs : List ℕ) → line (code "\n" ∷ xs) ≡ 0
unfolding line in_line run one_of
line-feed xs = refl

-- a CR without LF
pub line-return : (xs : List ℕ) → eqb (get_or xs 0 0) (code "\n") ≡ false → line (code "\r" ∷ xs) ≡ 0
unfolding line in_line run one_of
line-return xs e = rw (line, e)

-- such a line is no further line of a field, and a field that starts with it is empty
folded-lacks : (xs : List ℕ) → line xs ≡ 0 → folded xs ≡ 0
unfolding folded
folded-lacks xs z = go (in_class Blank (get_or xs 0 0)) refl
  where
    go : (r : Bool) → in_class Blank (get_or xs 0 0) ≡ r → folded xs ≡ 0
    go true b = rw (folded, b) z
    go false b = rw (folded, b)

pub extent-none : (xs : List ℕ) → line xs ≡ 0 → extent xs ≡ 0
unfolding extent
extent-none xs z = rw (extent, z, many-none folded xs (folded-lacks xs z))

-- ==== at a CRLF

module _ (xs : List ℕ) where
  pub line-closed : line (code "\r" ∷ code "\n" ∷ xs) ≡ 2
  unfolding line in_line run one_of
  line-closed = refl

  -- a further line goes on
  pub extent-folded : in_class Blank (get_or xs 0 0) ≡ true → (line xs ≡ 0 → ⊥) → extent (code "\r" ∷ code "\n" ∷ xs) ≡ 2 + extent xs
  unfolding extent folded
  extent-folded b some = go (line xs) refl
    where
      go : (n : ℕ) → line xs ≡ n → extent (code "\r" ∷ code "\n" ∷ xs) ≡ 2 + extent xs
      go zero e = absurd (some e)
      go (suc n) e =
          let f : folded xs ≡ suc n = rw (folded, b) e in
          rw (extent, line-closed, many_more folded xs n f (rw e at (line-fits xs)), e)

  -- one that lacks its CRLF does not belong to the field
  pub extent-lacks : line xs ≡ 0 → extent (code "\r" ∷ code "\n" ∷ xs) ≡ 2
  unfolding extent
  extent-lacks z = rw (extent, line-closed, many-none folded xs (folded-lacks xs z))

  -- and without one the field ends
  pub extent-closed : in_class Blank (get_or xs 0 0) ≡ false → extent (code "\r" ∷ code "\n" ∷ xs) ≡ 2
  unfolding extent folded
  extent-closed b = rw (extent, line-closed, many-none folded xs (rw (folded, b)))
