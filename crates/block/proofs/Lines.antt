-- Names, labels and fields at places of a slice, with premises as a need is handed them: what a call ensures of its answer, and what a
-- test says of that. Each law opens one definition.
use Prim.Native.Char.{code}
use Prim.Native.Nat.{ℕ, suc, ◌+◌, ◌-◌, ◌≤◌, ◌<◌}
use native.Mathlib.Omega.{arith}
use mathlib.Core.Path.{◌≡◌, refl, sym, ◌∙◌}
use mathlib.Core.Bool.{Bool, true, false, cond}
use mathlib.Core.List.{List, [], ◌∷◌}
use borrow.Author.Tests.{le-leb, lt-leb}
use lib.Dec.{eqb}
use lib.ListN.{length, get_or, drop, length-drop, drop_of_length-le}
use lib.Seq.{drop-drop}
use Rattle.base_readers.specs.Readers.{run, many}
use Rattle.lexis_rules.specs.declared.Class.TheVariants.{Blank}
use Rattle.lexis_rules.specs.Bytes.{in_class}
use Rattle.block.specs.declared.Next.{Next}
use Rattle.block.specs.declared.Next.TheVariants.{Field, End, Refused}
use Rattle.block_rules.specs.Fields.{line_text, line, name, name_colon, folded, extent, field_limit, field_of, field_at}
use Rattle.block.specs.Steps.{next_of, next_from, finished_at, finished}
use Rattle.base_readers.proofs.Places.{behind-first}
use Rattle.block_laws.proofs.Lines.{label-zero, label-suc, field-2, field-3, field-4, field_is, closed-2, closed_is}

-- ==== labels

-- a name up to n, blanks up to e, and a colon
module _ (s : List ℕ) (at n : ℕ) (q : n ≡ at + name (drop at s)) where
  pub label-none : n ≡ at → at ≡ at + name_colon (drop at s)
  label-none z = rw (label-zero (drop at s) (omega arith)) (omega arith)

  module _ (ne : n ≡ at → ⊥) (e : ℕ) (p : e ≡ n + run (in_class Blank) (drop n s)) (r : Bool) (h : r ≡ eqb (get_or (drop e s) 0 0) (code ":")) where
    label-cond : name_colon (drop at s) ≡ cond r (e - at + 1) 0
    label-cond =
        let m = name (drop at s) in
        let d : drop m (drop at s) ≡ drop n s = rw (drop-drop, ← q) in
        let k : m + run (in_class Blank) (drop m (drop at s)) ≡ e - at = rw d (omega arith) in
        let g : get_or (drop e s) 0 0 ≡ get_or (drop at s) (e - at) 0 = behind-first s at (e - at) e (omega arith) in
        rw (label-suc (drop at s) m refl (omega arith), k, ← g, ← h)

    pub label-no : r ≡ false → at ≡ at + name_colon (drop at s)
    label-no z = rw (label-cond, z) (omega arith)

    pub label-yes : r ≡ true → e + 1 ≡ at + name_colon (drop at s)
    label-yes z = rw (label-cond, z) (omega arith)

-- ==== the last part of a step: the further lines end at e

module _ (at n b : ℕ) (s : List ℕ) (e : ℕ) where
  finished-2 : in_class Blank (get_or (drop e s) 0 0) ≡ true → finished_at at n b s e ≡ Refused 2 (e + line_text (drop e s))
  unfolding finished_at
  finished-2 h = rw (finished_at, h)

  finished-is : in_class Blank (get_or (drop e s) 0 0) ≡ false → finished_at at n b s e ≡ Field at n b e
  unfolding finished_at
  finished-is h = rw (finished_at, h)

module _ (s : List ℕ) (at l n b e : ℕ) (q : e ≡ l + many folded 0 (drop l s)) (r : Bool) (h : r ≡ in_class Blank (get_or (drop e s) 0 0)) where
  pub finish-2 : r ≡ true → (p : ℕ) → p ≡ e + line_text (drop e s) → Refused 2 p ≡ finished at l n b s
  unfolding finished
  finish-2 z p f = rw (← q, finished-2 at n b s e (sym h ∙ z), f)

  pub finish-field : r ≡ false → Field at n b e ≡ finished at l n b s
  unfolding finished
  finish-field z = rw (← q, finished-is at n b s e (sym h ∙ z))

-- it says what stands at the front
module _ (s : List ℕ) (at l n b : ℕ) (q : l ≡ at + line (drop at s)) (g : n ≡ at + name (drop at s)) (f : b ≡ at + name_colon (drop at s)) where
  ends : l + many folded 0 (drop l s) ≡ at + extent (drop at s)
  unfolding extent
  ends =
      let d : drop (line (drop at s)) (drop at s) ≡ drop l s = rw (drop-drop, ← q) in
      rw d (omega arith)

  closes : (x : ℕ) (t : Bool) → in_class Blank (get_or (drop at s) x 0) ≡ t → finished_at at n b s (at + x) ≡ next_of at (field_of at (drop at s) x)
  closes x true y = rw (closed-2 at (drop at s) x y, finished-2 at n b s (at + x) (rw (behind-first s at x (at + x) refl) y), drop-drop)
  closes x false y = rw (closed_is at (drop at s) x y, finished-is at n b s (at + x) (rw (behind-first s at x (at + x) refl) y), g, f)

  finished-closed : finished at l n b s ≡ next_of at (field_of at (drop at s) (extent (drop at s)))
  unfolding finished
  finished-closed = rw ends (closes (extent (drop at s)) (in_class Blank (get_or (drop at s) (extent (drop at s)) 0)) refl)

-- ==== one step

pub next-is : (at count : ℕ) (xs : List ℕ) → 0 < length xs → next_from at count xs ≡ next_of at (field_at at count xs)
unfolding next_from
next-is at count [] h = absurd (let z : 0 < 0 = h in omega arith)
next-is at count (x ∷ xs) h = refl

module _ (s : List ℕ) (at count : ℕ) where
  pub next-end : length s ≤ at → End ≡ next_from at count (drop at s)
  unfolding next_from
  next-end h = rw (drop_of_length-le {A = ℕ} s h)

  module _ (h : at < length s) where
    next-there : next_from at count (drop at s) ≡ next_of at (field_at at count (drop at s))
    next-there = next-is at count (drop at s) (rw length-drop (omega arith))

    module _ (l : ℕ) (q : l ≡ at + line (drop at s)) where
      pub next-2 : l ≡ at → (p : ℕ) → p ≡ at + line_text (drop at s) → Refused 2 p ≡ next_from at count (drop at s)
      next-2 z p e = rw (next-there, field-2 at count (drop at s) (omega arith), e)

      module _ (nz : l ≡ at → ⊥) (b : ℕ) (f : b ≡ at + name_colon (drop at s)) where
        some-line : line (drop at s) ≡ suc (line (drop at s) - 1)
        some-line = omega arith

        pub next-3 : b ≡ at → Refused 3 at ≡ next_from at count (drop at s)
        next-3 z = rw (next-there, field-3 at count (drop at s) _ some-line (omega arith))

        module _ (bz : b ≡ at → ⊥) where
          some-label : name_colon (drop at s) ≡ suc (name_colon (drop at s) - 1)
          some-label = omega arith

          pub next-4 : field_limit ≤ count → Refused 4 at ≡ next_from at count (drop at s)
          next-4 z = rw (next-there, field-4 at count (drop at s) _ some-line _ some-label (le-leb field_limit count z))

          pub next_field : count < field_limit → (n : ℕ) → n ≡ at + name (drop at s) → (r : Next) → r ≡ finished at l n b s → r ≡ next_from at count (drop at s)
          next_field z n g r e =
              rw (next-there, field_is at count (drop at s) _ some-line _ some-label (lt-leb field_limit count z)) (e ∙ finished-closed s at l n b q g f)
