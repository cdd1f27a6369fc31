-- Classes given by a list of bytes, texts compared byte by byte, and what comes next. Each law is by cases on the list.
use Prim.Native.Nat.{ℕ, suc, ◌≤◌, ◌<◌}
use mathlib.Core.Path.{◌≡◌, refl, ap, ◌∙◌}
use mathlib.Core.Bool.{Bool, true, false, ◌&&◌}
use mathlib.Core.List.{List, [], ◌∷◌}
use lib.Dec.{eqb}
use lib.ListN.{length, get_or, drop, drop_of_length-le}
use lib.Seq.{drop-cons}
use borrow.Author.Tests.{eqb-true, eq-eqb, not-true}
use Rattle.base_sequences.proofs.Booleans.{no_true, both, and_left, and_right, and_none, true-not}
use Rattle.base_readers.specs.Texts.{one_of, outside, same, starts, follows}
use Rattle.base_readers.specs.Locality.{Starts, Follows}

-- ==== bytes of a list

-- every byte of the list is of the class
abbrev pub all : (ℕ → Bool) → List ℕ → Bool
all c [] = true
all c (a ∷ l) = c a && all c l

-- a listed byte is of a class that holds all the listed bytes
pub one_in : (l : List ℕ) (c : ℕ → Bool) → all c l ≡ true → (b : ℕ) → one_of l b ≡ true → c b ≡ true
unfolding one_of
one_in [] c h b e = absurd (no_true e)
one_in (a ∷ l) c h b e = go (eqb b a) refl (one_in l c (and_right (c a) (all c l) h) b)
  where
    go : (t : Bool) → eqb b a ≡ t → (one_of l b ≡ true → c b ≡ true) → c b ≡ true
    go true q ih = rw (eqb-true b a q) (and_left (c a) (all c l) h)
    go false q ih = ih (rw (one_of, q) at e)

-- a byte of a class that holds no listed byte is not listed
pub one_out : (l : List ℕ) (c : ℕ → Bool) → all (outside c) l ≡ true → (b : ℕ) → c b ≡ true → one_of l b ≡ false
one_out l c h b e = go (one_of l b) refl
  where
    go : (t : Bool) → one_of l b ≡ t → one_of l b ≡ false
    go true q = absurd (both (c b) (not-true (c b) (one_in l (outside c) h b q)) e)
    go false q = q

-- ==== texts

pub same_refl : (xs : List ℕ) → same xs xs ≡ true
unfolding same
same_refl [] = refl
same_refl (x ∷ xs) = rw (eq-eqb x x refl, same_refl xs)

pub same-eq : (xs ys : List ℕ) → same xs ys ≡ true → xs ≡ ys
unfolding same
same-eq [] [] e = refl
same-eq [] (y ∷ ys) e = absurd (no_true e)
same-eq (x ∷ xs) [] e = absurd (no_true e)
same-eq (x ∷ xs) (y ∷ ys) e =
    let p : x ≡ y = eqb-true x y (and_left (eqb x y) (same xs ys) e) in
    let q : xs ≡ ys = same-eq xs ys (and_right (eqb x y) (same xs ys) e) in
    cc

pub same-long : (xs ys : List ℕ) → (length xs ≡ length ys → ⊥) → same xs ys ≡ false
unfolding same
same-long [] [] h = absurd (h refl)
same-long [] (y ∷ ys) h = refl
same-long (x ∷ xs) [] h = refl
same-long (x ∷ xs) (y ∷ ys) h = rw (same-long xs ys (λ e. h (ap suc e))) (and_none (eqb x y))

-- ==== what comes next

-- a byte of a class that does not hold 0
pub starts_first : (c : ℕ → Bool) → c 0 ≡ false → (xs : List ℕ) → c (get_or xs 0 0) ≡ starts c xs
unfolding starts
starts_first c z [] = z
starts_first c z (x ∷ xs) = refl

pub starts-weaker : (c d : ℕ → Bool) → ((b : ℕ) → c b ≡ true → d b ≡ true) → (t : List ℕ) → Starts c t → Starts d t
unfolding starts
starts-weaker c d i [] e = absurd (no_true e)
starts-weaker c d i (x ∷ t) e = i x e

pub starts-follows : (c : ℕ → Bool) (t : List ℕ) → Starts c t → Follows c t
unfolding starts follows
starts-follows c [] e = absurd (no_true e)
starts-follows c (x ∷ t) e = e

pub follows-weaker : (c d : ℕ → Bool) → ((b : ℕ) → c b ≡ true → d b ≡ true) → (t : List ℕ) → Follows c t → Follows d t
unfolding follows
follows-weaker c d i [] e = refl
follows-weaker c d i (x ∷ t) e = i x e

-- what comes next is of the class, or the end or a byte outside of it
pub starts-not : (c : ℕ → Bool) (t : List ℕ) → starts c t ≡ false → Follows (outside c) t
unfolding starts follows
starts-not c [] e = refl
starts-not c (x ∷ t) e = true-not (c x) e

pub follows-not : (c : ℕ → Bool) (t : List ℕ) → Follows (outside c) t → starts c t ≡ false
unfolding starts follows
follows-not c [] e = refl
follows-not c (x ∷ t) e = not-true (c x) e

-- what comes next at a place of a list
module _ (c : ℕ → Bool) (s : List ℕ) (at : ℕ) where
  pub follows-at : at < length s → (r : Bool) → r ≡ c (get_or s at 0) → r ≡ follows c (drop at s)
  unfolding follows
  follows-at h r e = e ∙ rw (drop-cons s at 0 h)

  pub follows-end : length s ≤ at → true ≡ follows c (drop at s)
  unfolding follows
  follows-end h = rw (drop_of_length-le {A = ℕ} s h)
