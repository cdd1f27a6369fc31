-- The tests of a chain by the place that a loop has reached: at each place what is left answers as the whole. Each law
-- takes one step of a definition; the premises are what a need is handed.
use Prim.Native.Nat.{ℕ, zero, suc, ◌+◌, ◌-◌, ◌≤◌, ◌<◌}
use native.Mathlib.Numerals.{add-one}
use native.Mathlib.Omega.{arith}
use mathlib.Core.Path.{◌≡◌, refl, sym, ap, ◌∙◌}
use mathlib.Core.Bool.{Bool, true, false, ◌&&◌, ◌||◌}
use lib.Dec.{eqb}
use Rattle.std.specs.List.{list_all}
use mathlib.Core.List.{List, [], ◌∷◌}
use borrow.Author.Tests.{eq-eqb, ne_eqb}
use lib.ListN.{length, get_or, take, drop, drop_of_length-le}
use lib.Seq.{drop-cons, length-take-le, get_or-take}
use Rattle.arc_rules.specs.Chain.{row_empty, any_empty, all_pass, prescribed}
use Rattle.arc_rules.specs.Sets.{last_instance}
use Rattle.arc.specs.Internal.{Places}

-- ==== the chain values

abbrev pub passed : ℕ → Bool
passed c = eqb c 2

pass-all : (cs : List ℕ) → list_all passed cs ≡ all_pass cs
unfolding all_pass
pass-all [] = refl
pass-all (c ∷ cs) = ap (λ (b : Bool). eqb c 2 && b) (pass-all cs)

pub prescribed-none : (c : List ℕ) (n : ℕ) → n ≡ 0 → true ≡ prescribed (take n c)
unfolding prescribed
prescribed-none c n e = rw e

-- the first of them, and those after it
prescribed-split : (c : List ℕ) (n : ℕ) → (n ≡ 0 → ⊥) → n ≤ length c → (eqb (get_or c 0 0) 1 && list_all passed (take (n - 1) (drop 1 c))) ≡ prescribed (take n c)
unfolding prescribed
prescribed-split c zero ne h = absurd (ne refl)
prescribed-split [] (suc m) ne h = absurd (omega arith)
prescribed-split (x ∷ c) (suc m) ne h = let e : suc m - 1 ≡ m = omega arith in rw (e, pass-all (take m c))

module _ (c : List ℕ) (n : ℕ) (pre : (n ≤ last_instance) × (length c ≡ last_instance)) (ne : n ≡ 0 → ⊥) where
  pub prescribed-first : (get_or c 0 0 ≡ 1 → ⊥) → eqb (get_or c 0 0) 1 ≡ prescribed (take n c)
  prescribed-first e = rw (ne_eqb (get_or c 0 0) 1 e) (rw (ne_eqb (get_or c 0 0) 1 e) at (prescribed-split c n ne (omega (arith, pre))))

  pub prescribed-rest : get_or c 0 0 ≡ 1 → (r : Bool) → r ≡ list_all passed (take (n - 1) (drop 1 c)) → r ≡ prescribed (take n c)
  prescribed-rest e r q = q ∙ (rw (eq-eqb (get_or c 0 0) 1 e) at (prescribed-split c n ne (omega (arith, pre))))

-- ==== an empty place

-- none was found, and the rows that are left of the first n answer as all of them
pub record RowsFrom (t : List (List ℕ)) (n : ℕ) (found : Bool) (i : ℕ) : Type 0 where
  pub none : found ≡ false
  pub same : any_empty (drop i (take n t)) ≡ any_empty (take n t)

-- none was found, and what is left of a row, with the rows after it, answers as all of them
pub record RowFrom (t : List (List ℕ)) (n : ℕ) (found : Bool) (i k : ℕ) : Type 0 where
  pub none : found ≡ false
  pub same : (row_empty (drop k (get_or t i [])) || any_empty (drop (suc i) (take n t))) ≡ any_empty (take n t)

pub rows_start : (t : List (List ℕ)) (n : ℕ) → RowsFrom t n false 0
rows_start t n = record { none = refl; same = refl }

module _ (t : List (List ℕ)) (n : ℕ) (pre : (n ≤ last_instance) × Places t) (found : Bool) (i : ℕ) where
  rows_long : length (take n t) ≡ n
  rows_long = length-take-le n t (omega (arith, pre.0, pre.1.instances))

  pub rows-done : n ≤ i → RowsFrom t n found i → found ≡ any_empty (take n t)
  unfolding any_empty
  rows-done h w =
      let s : any_empty (drop i (take n t)) ≡ false = rw (drop_of_length-le (take n t) {i = i} (rw rows_long h)) in
      w.none ∙ sym s ∙ w.same

  module _ (h : i < n) where
    pub row-start : RowsFrom t n found i → RowFrom t n found i 0
    unfolding any_empty
    row-start w =
        let d : drop i (take n t) ≡ get_or t i [] ∷ drop (suc i) (take n t) = drop-cons (take n t) i [] (rw rows_long h) ∙ rw (get_or-take n t i [] h) in
        let s : any_empty (drop i (take n t)) ≡ (row_empty (get_or t i []) || any_empty (drop (suc i) (take n t))) = rw d in
        record { none = w.none; same = sym s ∙ w.same }

    module _ (k : ℕ) (w : RowFrom t n found i k) where
      row-long : length (get_or t i []) ≡ 3
      row-long = pre.1.kinds i (omega (arith, pre.0))

      pub row-found : k < 3 → get_or (get_or t i []) k 0 ≡ 0 → true ≡ any_empty (take n t)
      unfolding row_empty
      row-found l e =
          let s : row_empty (drop k (get_or t i [])) ≡ true = rw (drop-cons (get_or t i []) k 0 (rw row-long l), row_empty, eq-eqb (get_or (get_or t i []) k 0) 0 e) in
          rw s at w.same

      pub row_more : k < 3 → (get_or (get_or t i []) k 0 ≡ 0 → ⊥) → RowFrom t n found i (k + 1)
      unfolding row_empty
      row_more l e =
          let s : row_empty (drop k (get_or t i [])) ≡ row_empty (drop (suc k) (get_or t i [])) = rw (drop-cons (get_or t i []) k 0 (rw row-long l), row_empty, ne_eqb (get_or (get_or t i []) k 0) 0 e) in
          record { none = w.none; same = rw add-one (rw s at w.same) }

      pub row_done : 3 ≤ k → RowsFrom t n found (i + 1)
      unfolding row_empty
      row_done l =
          let s : row_empty (drop k (get_or t i [])) ≡ false = rw (drop_of_length-le (get_or t i []) {i = k} (rw row-long l)) in
          record { none = w.none; same = rw add-one (rw s at w.same) }
