-- The table of places and the chain values with one more field stored: its own place changes and no other does, and fifty rows of three
-- stay. By cases on the place and the kind.
use Prim.Native.Nat.{ℕ, ◌-◌, ◌<◌}
use native.Mathlib.Omega.{arith}
use mathlib.Core.Path.{◌≡◌, refl, ◌∙◌}
use mathlib.Core.Bool.{Bool, true, false}
use mathlib.Core.List.{List, []}
use lib.Dec.{eqb}
use lib.ListN.{length, get_or, set, replicate, length-set, length-replicate, get_or-replicate}
use lib.Seq.{get_or-set_same, get_or-set_other}
use borrow.Author.Tests.{eqb-true, eqb-false}
use Rattle.arc_rules.specs.declared.Kind.{Kind}
use Rattle.arc_rules.specs.declared.Kind.TheVariants.{Results, Signature, Seal, Other}
use Rattle.arc_rules.specs.Sets.{last_instance}
use Rattle.arc_rules.specs.Chain.{no_sets, column, place_of, sealed}
use Rattle.arc_rules.specs.Accepted.{is_arc}
use Rattle.arc_laws.proofs.Counting.{column-other, column-arc, InRange}

-- ==== the table of places

-- fifty rows of three
pub record Shaped (t : List (List ℕ)) : Type 0 where
  pub rows : length t ≡ last_instance
  pub columns : (j : ℕ) → j < last_instance → length (get_or t j []) ≡ 3

-- the empty table
pub none-shaped : Shaped no_sets.places
none-shaped =
    let row : List ℕ = replicate 3 0 in
    record { rows = length-replicate last_instance row; columns = λ j h. rw (get_or-replicate last_instance j row [] h) }

pub none-place : (k : Kind) (i : ℕ) → InRange i → place_of no_sets.places i k ≡ 0
none-place k i r = let row : List ℕ = replicate 3 0 in rw (get_or-replicate last_instance (i - 1) row [] (omega (arith, r))) (nil k)
  where
    nil : (k : Kind) → ◌≡◌ {A = ℕ} (get_or (replicate 3 0) (column k) 0) 0
    nil Results = refl
    nil Signature = refl
    nil Seal = refl
    nil Other = refl

-- a number put at a place
abbrev pub stored : List (List ℕ) → ℕ → Kind → ℕ → List (List ℕ)
stored t i k n = set t (i - 1) (set (get_or t (i - 1) []) (column k) n)

module _ (t : List (List ℕ)) (w : Shaped t) (a : ℕ) (r : InRange a) (k : Kind) (n : ℕ) where
  row_same : get_or (stored t a k n) (a - 1) [] ≡ set (get_or t (a - 1) []) (column k) n
  row_same = get_or-set_same t (a - 1) _ [] (omega (arith, r, w.rows))

  row_other : (j : ℕ) → (j ≡ a - 1 → ⊥) → get_or (stored t a k n) j [] ≡ get_or t j []
  row_other j ne = get_or-set_other t (a - 1) j _ [] ne

  pub stored-shaped : Shaped (stored t a k n)
  stored-shaped =
      record {
        rows = length-set t (a - 1) _ ∙ w.rows;
        columns = λ j h. go j h (eqb j (a - 1)) refl;
      }
    where
      go : (j : ℕ) → j < last_instance → (b : Bool) → eqb j (a - 1) ≡ b → length (get_or (stored t a k n) j []) ≡ 3
      go j h true e = rw (eqb-true j (a - 1) e, row_same) (length-set (get_or t (a - 1) []) (column k) n ∙ w.columns (a - 1) (rw (eqb-true j (a - 1) e) at h))
      go j h false e = rw (row_other j (eqb-false j (a - 1) e)) (w.columns j h)

  pub stored-own : is_arc k ≡ true → place_of (stored t a k n) a k ≡ n
  stored-own e =
      rw row_same (get_or-set_same (get_or t (a - 1) []) (column k) n 0 (omega (arith, column-arc k e, w.columns (a - 1) (omega (arith, r)))))

  pub stored_other : (i : ℕ) → InRange i → (l : Kind) → (l ≡ k → i ≡ a → ⊥) → place_of (stored t a k n) i l ≡ place_of t i l
  stored_other i q l ne = go (eqb i a) refl
    where
      go : (b : Bool) → eqb i a ≡ b → place_of (stored t a k n) i l ≡ place_of t i l
      go true e =
          let s : i ≡ a = eqb-true i a e in
          rw (s, row_same) (get_or-set_other (get_or t (a - 1) []) (column k) (column l) n 0 (column-other l k (λ c. ne c s)))
      go false e =
          let o : i - 1 ≡ a - 1 → ⊥ = λ c. eqb-false i a e (omega (arith, q, r, c)) in
          rw (row_other (i - 1) o)

-- ==== the chain values

module _ (k : Kind) (a c : ℕ) (cs : List ℕ) where
  pub sealed-long : length (sealed k a c cs) ≡ length cs
  sealed-long = go k
    where
      go : (k : Kind) → length (sealed k a c cs) ≡ length cs
      go Results = refl
      go Signature = refl
      go Seal = length-set cs (a - 1) c
      go Other = refl

  pub sealed-own : k ≡ Seal → a - 1 < length cs → get_or (sealed k a c cs) (a - 1) 0 ≡ c
  sealed-own e h = rw e (get_or-set_same cs (a - 1) c 0 h)

  pub sealed-other : (j : ℕ) → (k ≡ Seal → j ≡ a - 1 → ⊥) → get_or (sealed k a c cs) j 0 ≡ get_or cs j 0
  sealed-other j ne = go k ne
    where
      go : (k : Kind) → (k ≡ Seal → j ≡ a - 1 → ⊥) → get_or (sealed k a c cs) j 0 ≡ get_or cs j 0
      go Results ne = refl
      go Signature ne = refl
      go Seal ne = get_or-set_other cs (a - 1) j c 0 (ne refl)
      go Other ne = refl
