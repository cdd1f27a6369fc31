-- The loops that look for two hyphens in a row: what is told from a place on is told from the first.
use Prim.Native.Nat.{ℕ, suc, ◌+◌, ◌≤◌, ◌<◌}
use native.Mathlib.Numerals.{add-one}
use native.Mathlib.Omega.{arith}
use mathlib.Core.Path.{◌≡◌, refl, sym, ap, ◌∙◌}
use mathlib.Core.Bool.{Bool, true, false, ◌&&◌, ◌||◌}
use mathlib.Core.List.{List, [], ◌∷◌}
use lib.Dec.{eqb, leb}
use lib.ListN.{length, get_or, drop, length-drop}
use lib.Seq.{drop-cons, get_or-drop}
use borrow.Author.Tests.{leb-true, leb-false, ne_eqb}
use Rattle.base_sequences.proofs.Booleans.{and_none}
use Rattle.punycode_rules.specs.Labels.{double_hyphen}
use Rattle.punycode_laws.proofs.Lists.{or-false-left, or-false-right, or-both}

-- one byte further on
pub double-step : (s : List ℕ) (j : ℕ) → j + 1 < length s → (r : Bool) → r ≡ (eqb (get_or s j 0) 45 && eqb (get_or s (j + 1) 0) 45) → r ≡ false → double_hyphen (drop (j + 1) s) ≡ double_hyphen (drop j s)
unfolding double_hyphen
double-step s j h r e f =
    let g : get_or (drop (suc j) s) 0 0 ≡ get_or s (j + 1) 0 = get_or-drop (suc j) s 0 0 ∙ ap (λ (k : ℕ). get_or s k 0) (omega arith) in
    rw add-one (sym (ap double_hyphen (drop-cons {A = ℕ} s j 0 (omega arith)) ∙ rw (g, ← e, f)))

pub double-last : (s : List ℕ) (j : ℕ) → length s ≤ j + 1 → double_hyphen (drop j s) ≡ false
unfolding double_hyphen
double-last s j h = go (drop j s) refl
  where
    go : (l : List ℕ) → drop j s ≡ l → double_hyphen (drop j s) ≡ false
    go [] e = rw e
    go (x ∷ []) e = rw e (or-both (eqb x 45 && eqb 0 45) false (and_none (eqb x 45)) refl)
    go (x ∷ y ∷ l) e = absurd (omega (arith, ap length e, length-drop j s))

-- two hyphens at a place
pub double-here : (s : List ℕ) (j : ℕ) → j + 1 < length s → (r : Bool) → r ≡ (eqb (get_or s j 0) 45 && eqb (get_or s (j + 1) 0) 45) → r ≡ true → double_hyphen (drop j s) ≡ true
unfolding double_hyphen
double-here s j h r e f =
    let g : get_or (drop (suc j) s) 0 0 ≡ get_or s (j + 1) 0 = get_or-drop (suc j) s 0 0 ∙ ap (λ (k : ℕ). get_or s k 0) (omega arith) in
    ap double_hyphen (drop-cons {A = ℕ} s j 0 (omega arith)) ∙ rw (g, ← e, f)

-- so far there are none: from a place on there are two hyphens in a row where there are from the first place on
pub record Passed (s : List ℕ) (at i : ℕ) : Type 0 where
  pub rest : double_hyphen (drop i s) ≡ double_hyphen (drop at s)

pub passed_start : (s : List ℕ) (at : ℕ) → Passed s at at
passed_start s at = record { rest = refl }

module _ (s : List ℕ) (at i : ℕ) (w : Passed s at i) where
  pub passed-end : length s ≤ i + 1 → false ≡ double_hyphen (drop at s)
  passed-end h = sym (double-last s i h) ∙ w.rest

  -- where the second of two bytes is no hyphen
  pub passed-two : i + 1 < length s → (get_or s (i + 1) 0 ≡ 45 → ⊥) → Passed s at (i + 2)
  passed-two h ne = record { rest = later (leb (length s) (i + 1 + 1)) refl ∙ (first ∙ w.rest) }
    where
      none : eqb (get_or s (i + 1) 0) 45 ≡ false
      none = ne_eqb (get_or s (i + 1) 0) 45 ne

      first : double_hyphen (drop (i + 1) s) ≡ double_hyphen (drop i s)
      first = double-step s i h false (rw none (sym (and_none (eqb (get_or s i 0) 45)))) refl

      two : i + 2 ≡ i + 1 + 1
      two = omega arith

      later : (t : Bool) → leb (length s) (i + 1 + 1) ≡ t → double_hyphen (drop (i + 2) s) ≡ double_hyphen (drop (i + 1) s)
      later true t =
          let l = leb-true (length s) (i + 1 + 1) t in
          double-last s (i + 2) (omega arith) ∙ sym (double-last s (i + 1) l)
      later false t =
          let l = leb-false (length s) (i + 1 + 1) t in
          rw two (double-step s (i + 1) l false (rw none) refl)

  -- where the first is none, or both are
  pub passed-one : i + 1 < length s → (get_or s i 0 ≡ 45 → ⊥) → Passed s at (i + 1)
  passed-one h ne = record { rest = double-step s i h false (rw (ne_eqb (get_or s i 0) 45 ne)) refl ∙ w.rest }

  pub passed-both : i + 1 < length s → get_or s (i + 1) 0 ≡ 45 → get_or s i 0 ≡ 45 → true ≡ double_hyphen (drop at s)
  passed-both h e f = sym (double-here s i h true (rw (e, f)) refl) ∙ w.rest

  pub passed-part : (n : ℕ) (r : Bool) → (r ≡ false → double_hyphen (drop (i + n) s) ≡ double_hyphen (drop i s)) → r ≡ false → Passed s at (i + n)
  passed-part n r e f = record { rest = e f ∙ w.rest }

-- among a few bytes: as long as none has hit
pub record Scanned (s : List ℕ) (at j : ℕ) (hit : Bool) : Type 0 where
  pub none_yet : hit ≡ false → double_hyphen (drop (at + j) s) ≡ double_hyphen (drop at s)

pub scanned-start : (s : List ℕ) (at : ℕ) → Scanned s at 0 false
scanned-start s at = let z : at + 0 ≡ at = omega arith in record { none_yet = λ e. rw z }

pub scanned-on : (s : List ℕ) (at j : ℕ) (hit : Bool) → Scanned s at j hit → at + j + 1 < length s → (r : Bool) → r ≡ (eqb (get_or s (at + j) 0) 45 && eqb (get_or s (at + j + 1) 0) 45)
    → Scanned s at (j + 1) (hit || r)
scanned-on s at j hit w h r e =
    let z : at + (j + 1) ≡ at + j + 1 = omega arith in
    record { none_yet = λ f. rw z (double-step s (at + j) h r e (or-false-right hit r f) ∙ w.none_yet (or-false-left hit r f)) }

pub scanned-all : (s : List ℕ) (at j n : ℕ) (hit : Bool) → Scanned s at j hit → j ≡ n → hit ≡ false → double_hyphen (drop (at + n) s) ≡ double_hyphen (drop at s)
scanned-all s at j n hit w e f = rw (← e) (w.none_yet f)
