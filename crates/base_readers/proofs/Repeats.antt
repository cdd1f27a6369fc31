-- A repetition always succeeds, and is one turn and then a repetition or else the end, on lists and at places, by induction on the list.
use Prim.Native.Nat.{ℕ, zero, suc, ◌+◌, ◌-◌, ◌≤◌, ◌<◌}
use native.Mathlib.Nat.{not-suc-le-zero}
use native.Mathlib.Omega.{arith}
use mathlib.Core.Path.{◌≡◌, refl, sym, ap, ◌∙◌}
use mathlib.Core.List.{List, [], ◌∷◌}
use lib.ListN.{length, drop, length-drop}
use lib.Seq.{drop-drop, drop-nil}
use Rattle.base_readers.specs.Parsers.{Got, nothing, got, Parser, after, cons, several}
use Rattle.base_readers.specs.Places.{from, list_at, end_at}
use Rattle.base_readers.specs.Locality.{Within}
use Rattle.base_readers.proofs.Sequencing.{after-zero, after-after}
use Rattle.base_readers.proofs.Places.{took, none-at}

-- ==== on a list

module _ {A : Type 0} (p : Parser A) where
  -- past the bytes of what was taken last
  pub several-skip : (k : ℕ) (xs : List ℕ) → several p k xs ≡ after k (several p 0 (drop k xs))
  unfolding several after
  several-skip k [] = rw drop-nil (ap (λ (z : ℕ). got [] z) (omega arith))
  several-skip zero (x ∷ xs) = sym (after-zero (several p 0 (x ∷ xs)))
  several-skip (suc k) (x ∷ xs) =
      let g = several p 0 (drop k xs) in
      ap (after 1) (several-skip k xs) ∙ (after-after 1 k g ∙ ap (λ (z : ℕ). after z g) (omega arith))

  pub several-none : (xs : List ℕ) → p xs ≡ nothing → several p 0 xs ≡ got [] 0
  unfolding several
  several-none [] e = refl
  several-none (x ∷ xs) e = rw (several, e)

  -- on an empty list nothing is tried
  pub several-more : (x : ℕ) (xs : List ℕ) (a : A) (n : ℕ) (l : List A) (m : ℕ) → p (x ∷ xs) ≡ got a (suc n) → several p 0 (drop n xs) ≡ got l m
      → several p 0 (x ∷ xs) ≡ got (a ∷ l) (suc n + m)
  unfolding several after cons
  several-more x xs a n l m e h = rw (several, e, several-skip n xs, h) (ap (λ (z : ℕ). got (a ∷ l) z) (omega arith))

  -- the same for a list that is not written as one byte and others
  pub several-again : (xs : List ℕ) (a : A) (n : ℕ) (l : List A) (m : ℕ) → 1 ≤ n → n ≤ length xs → p xs ≡ got a n → several p 0 (drop n xs) ≡ got l m
      → several p 0 xs ≡ got (a ∷ l) (n + m)
  several-again xs a zero l m o b e h = absurd (not-suc-le-zero o)
  several-again [] a (suc n) l m o b e h = absurd (not-suc-le-zero b)
  several-again (x ∷ xs) a (suc n) l m o b e h = several-more x xs a n l m e h

  pub record Total (k : ℕ) (xs : List ℕ) : Type 0 where
    pub list : List A
    pub size : ℕ
    pub is : several p k xs ≡ got list size

  -- a repetition never fails
  pub several-total : (k : ℕ) (xs : List ℕ) → Total k xs
  unfolding several after cons
  several-total k [] = record { list = []; size = k; is = refl }
  several-total (suc k) (x ∷ xs) = let v = several-total k xs in record { list = v.list; size = 1 + v.size; is = rw v.is }
  several-total zero (x ∷ xs) = go (λ k. several-total k xs) (p (x ∷ xs)) refl
    where
      go : ((k : ℕ) → Total k xs) → (g : Got A) → p (x ∷ xs) ≡ g → Total 0 (x ∷ xs)
      go ih nothing e = record { list = []; size = 0; is = rw (several, e) }
      go ih (got a zero) e = record { list = []; size = 0; is = rw (several, e) }
      go ih (got a (suc n)) e = let v = ih n in record { list = a ∷ v.list; size = 1 + v.size; is = rw (several, e, v.is) }

  -- a repetition is nothing, or one turn and then a repetition
  pub data Turn (xs : List ℕ) (l : List A) (n : ℕ) : Type 0 where
    stop : l ≡ [] → n ≡ 0 → Turn xs l n
    turn : (a : A) (m : ℕ) (l' : List A) (k : ℕ) → p xs ≡ got a m → several p 0 (drop m xs) ≡ got l' k → l ≡ a ∷ l' → n ≡ m + k → Turn xs l n

  pub several-inv : (xs : List ℕ) (l : List A) (n : ℕ) → several p 0 xs ≡ got l n → Turn xs l n
  unfolding several
  several-inv [] l n h = let w : got [] 0 ≡ got l n = h in stop (cc) (cc)
  several-inv (x ∷ xs) l n h = go (p (x ∷ xs)) refl
    where
      go : (g : Got A) → p (x ∷ xs) ≡ g → Turn (x ∷ xs) l n
      go nothing e = let w : got [] 0 ≡ got l n = rw (several, e) at h in stop (cc) (cc)
      go (got a zero) e = let w : got [] 0 ≡ got l n = rw (several, e) at h in stop (cc) (cc)
      go (got a (suc m)) e =
          let v = several-total 0 (drop m xs) in
          let w : got (a ∷ v.list) (suc m + v.size) ≡ got l n = sym (several-more x xs a m v.list v.size e v.is) ∙ h in
          turn a (suc m) v.list v.size e v.is (cc) (cc)

-- ==== at a place

module _ {A : Type 0} (p : Parser A) (s : List ℕ) (i : ℕ) where
  list-got : (l : List A) (n : ℕ) → several p 0 (drop i s) ≡ got l n → list_at p s i ≡ l
  unfolding list_at from after
  list-got l n e = rw e

  end-got : (l : List A) (n : ℕ) → several p 0 (drop i s) ≡ got l n → end_at p s i ≡ i + n
  unfolding end_at from after
  end-got l n e = rw e

  -- a repetition always reads something, if only the empty list
  pub list-is : got (list_at p s i) (end_at p s i) ≡ from (several p 0) s i
  unfolding list_at end_at from after
  list-is = let t = several-total p 0 (drop i s) in rw t.is

  pub end-past : i ≤ end_at p s i
  end-past = let t = several-total p 0 (drop i s) in omega (arith, end-got t.list t.size t.is)

  pub list-none : nothing ≡ from p s i → list_at p s i ≡ []
  list-none h = list-got [] 0 (several-none p (drop i s) (none-at p s i h))

  pub end_none : nothing ≡ from p s i → end_at p s i ≡ i
  end_none h = end-got [] 0 (several-none p (drop i s) (none-at p s i h)) ∙ omega arith

module _ {A : Type 0} (p : Parser A) (s : List ℕ) (i : ℕ) (P : Within 1 p) (a : A) (e : ℕ) (h : got a e ≡ from p s i) where
  -- a turn goes on, inside the list
  pub further : (i < e) × (e ≤ length s)
  further = let t = took p s i a e h in let w = P (drop i s) a t.size t.is in (omega (arith, w, t.sum), omega (arith, w, t.sum, length-drop i s))

  turned : (l : List A) (n : ℕ) → several p 0 (drop e s) ≡ got l n → several p 0 (drop i s) ≡ got (a ∷ l) (e - i + n)
  turned l n r =
      let t = took p s i a e h in
      let z : t.size ≡ e - i = omega (arith, t.sum) in
      let w = P (drop i s) a t.size t.is in
      let q : several p 0 (drop t.size (drop i s)) ≡ got l n = rw (drop-drop t.size i s, ← t.sum) r in
      several-again p (drop i s) a t.size l n w.1 w.0 t.is q ∙ rw z

  pub list-more : list_at p s i ≡ a ∷ list_at p s e
  list-more =
      let t = several-total p 0 (drop e s) in
      list-got p s i (a ∷ t.list) _ (turned t.list t.size t.is) ∙ ap (λ (l : List A). a ∷ l) (sym (list-got p s e t.list t.size t.is))

  pub end_more : end_at p s i ≡ end_at p s e
  end_more =
      let t = several-total p 0 (drop e s) in
      end-got p s i (a ∷ t.list) _ (turned t.list t.size t.is) ∙ (omega (arith, further) ∙ sym (end-got p s e t.list t.size t.is))
