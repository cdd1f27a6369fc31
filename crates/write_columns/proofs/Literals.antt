-- The words that lines start with: the loop that compares them, and the parser that it stands for.
use Prim.Native.Nat.{ℕ, suc, ◌+◌, ◌-◌, ◌^◌, ◌≤◌, ◌<◌, zero-le, suc-le-suc}
use native.Mathlib.Nat.{add-zero}
use native.Mathlib.Numerals.{add-one}
use native.Mathlib.Omega.{arith}
use mathlib.Core.Path.{◌≡◌, refl, sym, ap, ◌∙◌}
use mathlib.Core.Bool.{Bool, true, false, not, ◌&&◌}
use mathlib.Core.List.{List, [], ◌∷◌}
use lib.Dec.{eqb}
use lib.ListN.{length, drop, get_or, length-drop, drop_of_length-le}
use lib.Seq.{drop-cons, drop-drop, get_or-drop}
use borrow.Author.Tests.{eq-eqb, ne_eqb, not-true}
use mir.Syntax.{w64}
use mir.Val as machine
use Rattle.base_sequences.proofs.Booleans.{no_true, both, and_left, and_right}
use Rattle.base_readers.specs.Texts.{starts}
use Rattle.base_readers.specs.Parsers.{nothing, got, byte}
use Rattle.base_readers.specs.Places.{from}
use Rattle.base_readers.proofs.Sequencing.{byte-is, byte-not, bind-none, bind-got, bind-stuck, give-is}
use Rattle.base_readers.proofs.Places.{at-got, at_none}
use Rattle.write_rules.specs.Entries.{literal}
use Rattle.write_columns.specs.Internal.{spells}

-- ==== these bytes

pub record Spelling (s : List ℕ) (at : ℕ) (w : List ℕ) (j : ℕ) : Type 0 where
  pub same : spells (drop j w) (drop j (drop at s)) ≡ spells w (drop at s)

pub spelling-start : (s : List ℕ) (at : ℕ) (w : List ℕ) → Spelling s at w 0
spelling-start s at w = record { same = refl }

module _ (s : List ℕ) (at : ℕ) (w : List ℕ) (j : ℕ) (k : Spelling s at w j) where
  pub spelling-done : length w ≤ j → true ≡ spells w (drop at s)
  unfolding spells
  spelling-done h = rw (drop_of_length-le w h) at k.same

  module _ (h : j < length w) (b : ℕ) (B : b ≡ get_or (drop at s) j 0) where
    here : (eqb b (get_or w j 0) && spells (drop (suc j) w) (drop 1 (drop j (drop at s)))) ≡ spells w (drop at s)
    unfolding spells
    here =
        let g : get_or (drop j (drop at s)) 0 0 ≡ b = get_or-drop j (drop at s) 0 0 ∙ (ap (λ (i : ℕ). get_or (drop at s) i 0) (add-zero j) ∙ sym B) in
        rw (← g) (rw (drop-cons w j 0 h) at k.same)

    pub spelling-off : (b ≡ get_or w j 0 → ⊥) → false ≡ spells w (drop at s)
    spelling-off ne = rw (ne_eqb b (get_or w j 0) ne) at here

    pub spelling-on : b ≡ get_or w j 0 → Spelling s at w (j + 1)
    spelling-on e =
        let q : spells (drop (suc j) w) (drop 1 (drop j (drop at s))) ≡ spells w (drop at s) = rw (eq-eqb b (get_or w j 0) e) at here in
        let d : drop 1 (drop j (drop at s)) ≡ drop (j + 1) (drop at s) = drop-drop 1 j (drop at s) in
        record { same = rw (← d, add-one) q }

    pub spelling-fits : length w < 2 ^ 64 → machine.Fits w64 (j + 1)
    spelling-fits l = omega arith

    pub spelling-less : length w - (j + 1) < length w - j
    spelling-less = omega arith

-- no byte is 0
abbrev pub solid : List ℕ → Bool
solid [] = true
solid (c ∷ w) = not (eqb 0 c) && solid w

literal-list : (w xs : List ℕ) → solid w ≡ true → spells w xs ≡ true → literal w xs ≡ got tt (length w)
unfolding spells literal
literal-list [] xs z e = give-is tt xs
literal-list (c ∷ w) [] z e = absurd (both (eqb 0 c) (not-true (eqb 0 c) (and_left (not (eqb 0 c)) _ z)) (and_left (eqb 0 c) _ e))
literal-list (c ∷ w) (x ∷ xs) z e =
    bind-got (byte c) _ (x ∷ xs) tt 1 tt (length w) (byte-is c (x ∷ xs) (unfold starts in and_left (eqb x c) _ e)) (literal-list w xs (and_right (not (eqb 0 c)) _ z) (and_right (eqb x c) _ e))
    ∙ ap (λ (n : ℕ). got tt n) (omega arith)

literal-none : (w xs : List ℕ) → spells w xs ≡ false → literal w xs ≡ nothing
unfolding spells literal
literal-none [] xs e = absurd (no_true (sym e))
literal-none (c ∷ w) [] e = bind-none (byte c) _ [] (byte-not c [] (unfold starts in refl))
literal-none (c ∷ w) (x ∷ xs) e = go (eqb x c) refl (literal-none w xs)
  where
    go : (b : Bool) → eqb x c ≡ b → (spells w xs ≡ false → literal w xs ≡ nothing) → literal (c ∷ w) (x ∷ xs) ≡ nothing
    go true q ih = unfold literal in bind-stuck (byte c) _ (x ∷ xs) tt 1 (byte-is c (x ∷ xs) (unfold starts in q)) (ih (rw q at e))
    go false q ih = unfold literal in bind-none (byte c) _ (x ∷ xs) (byte-not c (x ∷ xs) (unfold starts in q))

pub literal-from : (w s : List ℕ) (at e : ℕ) → solid w ≡ true → true ≡ spells w (drop at s) → e ≡ at + length w → got tt e ≡ from (literal w) s at
literal-from w s at e z q l = at-got (literal w) s at tt (length w) e (literal-list w (drop at s) z (sym q)) l

pub literal-not : (w s : List ℕ) (at : ℕ) → false ≡ spells w (drop at s) → nothing ≡ from (literal w) s at
literal-not w s at q = at_none (literal w) s at (literal-none w (drop at s) (sym q))

literal-long : (w xs : List ℕ) → solid w ≡ true → spells w xs ≡ true → length w ≤ length xs
unfolding spells
literal-long [] xs z e = zero-le
literal-long (c ∷ w) [] z e = absurd (both (eqb 0 c) (not-true (eqb 0 c) (and_left (not (eqb 0 c)) _ z)) (and_left (eqb 0 c) _ e))
literal-long (c ∷ w) (x ∷ xs) z e = suc-le-suc (literal-long w xs (and_right (not (eqb 0 c)) _ z) (and_right (eqb x c) _ e))

pub literal-there : (c : ℕ) (w s : List ℕ) (at : ℕ) → solid (c ∷ w) ≡ true → true ≡ spells (c ∷ w) (drop at s) → at + length (c ∷ w) ≤ length s
literal-there c w s at z q = omega (arith, literal-long (c ∷ w) (drop at s) z (sym q), length-drop at s)
