-- Names in order: a name has one slot among them, which is taken where the name is held; and i is taken from the start. By induction on the
-- lists of names.
use Prim.Native.Nat.{ℕ, suc, ◌+◌, ◌≤◌}
use native.Mathlib.Omega.{arith}
use mathlib.Core.Path.{◌≡◌, refl, sym, ap, ◌∙◌}
use mathlib.Core.Bool.{Bool, true, false}
use mathlib.Core.List.{List, [], ◌∷◌}
use lib.ListN.{length}
use Rattle.base_sequences.proofs.Booleans.{no_true, and_left, and_right, or_left, or_right}
use Rattle.base_readers.specs.Texts.{bytes, same}
use Rattle.std.specs.declared.cmp.Ordering.{Ordering}
use Rattle.std.specs.declared.cmp.Ordering.TheVariants.{Less, Equal, Greater}
use Rattle.std.specs.Ordering.{is_lt, is_eq, ordering_reverse}
use Rattle.tag_names.specs.Names.{Named, compared, same_at, holds}
use Rattle.tag_names.proofs.Ordering.{same-compared, compared-flip, compared-trans}
use Rattle.std.specs.Prelude.{Option, Some, None}
use Rattle.tag_content.proofs.TagLists.{is-i}
use Rattle.tag_list_ordered.specs.Internal.{before_all, ordered, slot_for, slot_of}

pub before-is : (o : Ordering) → is_lt o ≡ true → o ≡ Less
before-is Less e = refl
before-is Equal e = absurd (no_true e)
before-is Greater e = absurd (no_true e)

pub no-free : {i : ℕ} → Some i ≡ None → ⊥
no-free e = let z : ◌≡◌ {A = ℕ} 0 1 = cc in omega arith

pub free-is : (i j : ℕ) → Some i ≡ Some j → i ≡ j
free-is i j e = cc

-- what a name is before, and those that follow that, it is before
pub before_more : (n k : List ℕ) (ks : List (List ℕ)) → compared n k ≡ Less → before_all k ks ≡ true → before_all n ks ≡ true
unfolding before_all
before_more n k [] e h = refl
before_more n k (x ∷ xs) e h =
    let t = compared-trans n k x e (before-is (compared k x) (and_left (is_lt (compared k x)) (before_all k xs) h)) in
    rw t (before_more n k xs e (and_right (is_lt (compared k x)) (before_all k xs) h))

-- a name that is before all names is none of them
before-none : (n : List ℕ) (ks : List (List ℕ)) → before_all n ks ≡ true → holds ks n ≡ false
unfolding before_all holds
before-none n [] h = refl
before-none n (k ∷ ks) h =
    let b : compared n k ≡ Less = before-is (compared n k) (and_left (is_lt (compared n k)) (before_all n ks) h) in
    let s : same k n ≡ false = same-compared k n ∙ ap is_eq (compared-flip n k ∙ ap ordering_reverse b) in
    rw s (before-none n ks (and_right (is_lt (compared n k)) (before_all n ks) h))

-- a slot that is taken is that of a name
pub taken-held : (i : ℕ) (ks : List (List ℕ)) (n : List ℕ) → slot_for i ks n ≡ None → holds ks n ≡ true
unfolding slot_for holds
taken-held i [] n e = absurd (no-free e)
taken-held i (k ∷ ks) n e = go (compared k n) refl (taken-held (suc i) ks n)
  where
    go : (o : Ordering) → compared k n ≡ o → (slot_for (suc i) ks n ≡ None → holds ks n ≡ true) → holds (k ∷ ks) n ≡ true
    go Less q ih = or_right (same k n) (holds ks n) (ih (rw (slot_for, q) at e))
    go Equal q ih = or_left (same k n) (holds ks n) (same-compared k n ∙ ap is_eq q)
    go Greater q ih = let w : Some i ≡ None = rw (slot_for, q) at e in absurd (no-free w)

-- a slot that is free is that of no name
pub free-held : (i : ℕ) (ks : List (List ℕ)) (n : List ℕ) (r : ℕ) → ordered ks ≡ true → slot_for i ks n ≡ Some r → holds ks n ≡ false
unfolding slot_for holds ordered
free-held i [] n r h e = refl
free-held i (k ∷ ks) n r h e = go (compared k n) refl (free-held (suc i) ks n r)
  where
    go : (o : Ordering) → compared k n ≡ o → (ordered ks ≡ true → slot_for (suc i) ks n ≡ Some r → holds ks n ≡ false) → holds (k ∷ ks) n ≡ false
    go Less q ih =
        let s : same k n ≡ false = same-compared k n ∙ ap is_eq q in
        rw s (ih (and_right (before_all k ks) (ordered ks) h) (rw (slot_for, q) at e))
    go Equal q ih = let w : None ≡ Some r = rw (slot_for, q) at e in absurd (no-free (sym w))
    go Greater q ih =
        let s : same k n ≡ false = same-compared k n ∙ ap is_eq q in
        let b : compared n k ≡ Less = compared-flip k n ∙ ap ordering_reverse q in
        rw s (before-none n ks (before_more n k ks b (and_left (before_all k ks) (ordered ks) h)))

-- a slot that is free stands among the names or after them
pub free-within : (i : ℕ) (ks : List (List ℕ)) (n : List ℕ) (r : ℕ) → slot_for i ks n ≡ Some r → (i ≤ r) × (r ≤ i + length ks)
unfolding slot_for
free-within i [] n r e = let q : i ≡ r = free-is i r e in (omega arith, omega arith)
free-within i (k ∷ ks) n r e = go (compared k n) refl (free-within (suc i) ks n r)
  where
    go : (o : Ordering) → compared k n ≡ o → (slot_for (suc i) ks n ≡ Some r → (suc i ≤ r) × (r ≤ suc i + length ks)) → (i ≤ r) × (r ≤ i + suc (length ks))
    go Less q ih = let w = ih (rw (slot_for, q) at e) in (omega (arith, w), omega (arith, w))
    go Equal q ih = let w : None ≡ Some r = rw (slot_for, q) at e in absurd (no-free (sym w))
    go Greater q ih = let w : i ≡ r = free-is i r (rw (slot_for, q) at e) in (omega arith, omega arith)

-- ==== i is taken

module _ (n : List ℕ) (g : Named n) (r : Bool) (e : r ≡ same_at n 0 (bytes "i")) where
  pub second-i : (ks : List (List ℕ)) → r ≡ true → None ≡ slot_of ks n
  second-i ks q = let t : same n (bytes "i") ≡ true = sym (is-i n g r e) ∙ q in rw (slot_of, t)

  pub not-i : (ks : List (List ℕ)) (x : Option ℕ) → r ≡ false → x ≡ slot_for 0 ks n → x ≡ slot_of ks n
  not-i ks x q f = let t : same n (bytes "i") ≡ false = sym (is-i n g r e) ∙ q in rw (slot_of, t) f
