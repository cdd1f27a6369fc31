-- Names that stand at places: the tests for those that a signature and a seal need, and that they are tests of the
-- names at the places.
use Prim.Native.Nat.{ℕ}
use mathlib.Core.Path.{◌≡◌, refl, sym, ap, ◌∙◌}
use mathlib.Core.Bool.{Bool, true, false, not}
use mathlib.Core.List.{List, [], ◌∷◌, map}
use borrow.Author.Tests.{eq-eqb, ne_eqb, not-true, not-false}
use lib.ListN.{drop}
use Rattle.base_readers.specs.Texts.{bytes, same}
use Rattle.tag_rules.specs.Needed.{seal_tags}
use Rattle.std.specs.Ordering.{is_eq}
use Rattle.tag_names.specs.Names.{name_at, Named, same_at, holds, held_at, all_at, seal_at}
use Rattle.tag_names.proofs.Fronts.{compared-front, named-whole}
use Rattle.tag_names.proofs.Ordering.{same-compared}

-- ==== names that are needed, by the tests of the code

module _ (s ps n : List ℕ) (r : Bool) (e : r ≡ held_at s ps n) where
  pub needed-not : (ns : List (List ℕ)) → not r ≡ true → false ≡ all_at s ps (n ∷ ns)
  unfolding all_at
  needed-not ns t = rw (← e, not-true r t)

  pub needed-on : (ns : List (List ℕ)) (x : Bool) → not r ≡ false → x ≡ all_at s ps ns → x ≡ all_at s ps (n ∷ ns)
  unfolding all_at
  needed-on ns x t q = rw (← e, not-false r t) q

  pub needed-last : r ≡ all_at s ps (n ∷ [])
  unfolding all_at
  needed-last = go r e
    where
      go : (x : Bool) → x ≡ held_at s ps n → x ≡ all_at s ps (n ∷ [])
      go true q = rw (← q)
      go false q = rw (← q)

module _ (s ps : List ℕ) (c : ℕ) where
  pub seal-no-value : c ≡ 0 → false ≡ seal_at s ps c
  unfolding seal_at
  seal-no-value z = rw (eq-eqb c 0 z)

  module _ (ne : c ≡ 0 → ⊥) (r : Bool) (e : r ≡ held_at s ps (bytes "h")) where
    pub seal-header : r ≡ true → false ≡ seal_at s ps c
    unfolding seal_at
    seal-header t = rw (ne_eqb c 0 ne, ← e, t)

    pub seal-rest : r ≡ false → (x : Bool) → x ≡ all_at s ps seal_tags → x ≡ seal_at s ps c
    unfolding seal_at
    seal-rest t x q = rw (ne_eqb c 0 ne, ← e, t) q

-- ==== these are tests of the names at the places

pub same-named : (s : List ℕ) (p : ℕ) (n : List ℕ) → Named n → same_at s p n ≡ same (name_at s p) n
same-named s p n h = ap is_eq (compared-front (drop p s) n h) ∙ sym (same-compared (name_at s p) n)

-- a name is compared with another from its own front
pub same_whole : (m n : List ℕ) → Named m → Named n → same_at m 0 n ≡ same m n
same_whole m n g h = same-named m 0 n h ∙ ap (λ (k : List ℕ). same k n) (named-whole m g)

pub held-named : (s ps n : List ℕ) → Named n → held_at s ps n ≡ holds (map (name_at s) ps) n
unfolding holds
held-named s [] n h = refl
held-named s (p ∷ ps) n h = rw (same-named s p n h, held-named s ps n h)
