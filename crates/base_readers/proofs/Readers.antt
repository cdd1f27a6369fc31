-- What each reader takes, case by case, and that it takes no more than there is.
use Prim.Native.Nat.{ℕ, zero, suc, ◌+◌, ◌≤◌, ◌<◌, zero-le, suc-le-suc}
use native.Mathlib.Nat.{le_of_suc-le-suc, not-suc-le-zero}
use native.Mathlib.Omega.{arith}
use mathlib.Core.Path.{◌≡◌, refl, sym, ap, ◌∙◌}
use mathlib.Core.Bool.{Bool, true, false, cond}
use mathlib.Core.List.{List, [], ◌∷◌, ◌++◌}
use lib.Dec.{eqb}
use lib.ListN.{length, get_or, drop, take, length-drop}
use lib.Seq.{drop-nil}
use Rattle.base_sequences.proofs.Booleans.{both, cond-le, true-not}
use Rattle.base_readers.specs.Texts.{outside, follows, starts}
use Rattle.base_readers.specs.Readers.{Reader, run, many, choose, between, passing, lasts}
use Rattle.base_readers.specs.Locality.{Fits, Ends, Starts, Follows}

-- a byte that is in a class without 0 is there
pub there : (c : ℕ → Bool) → c 0 ≡ false → (xs : List ℕ) (k : ℕ) → c (get_or xs k 0) ≡ true → k < length xs
there c z [] k e = absurd (both (c 0) z e)
there c z (x ∷ xs) zero e = suc-le-suc zero-le
there c z (x ∷ xs) (suc k) e = suc-le-suc (there c z xs k e)

pub there-at : (c : ℕ → Bool) → c 0 ≡ false → (s : List ℕ) (at k : ℕ) → c (get_or (drop at s) k 0) ≡ true → at + k < length s
there-at c z s at k e = omega (arith, there c z (drop at s) k e, length-drop at s)

-- ==== run

module _ (c : ℕ → Bool) where
  pub run_more : (x : ℕ) (xs : List ℕ) → c x ≡ true → run c (x ∷ xs) ≡ suc (run c xs)
  unfolding run
  run_more x xs e = rw (run, e)

  pub run_none : (t : List ℕ) → Follows (outside c) t → run c t ≡ 0
  unfolding run follows
  run_none [] e = refl
  run_none (x ∷ t) e = go (c x) refl
    where
      go : (b : Bool) → c x ≡ b → run c (x ∷ t) ≡ 0
      go true q = absurd (both (outside c x) (rw q) e)
      go false q = rw (run, q)

  -- the byte after a run is not of the class
  pub run_ends : (xs : List ℕ) → Follows (outside c) (drop (run c xs) xs)
  unfolding run follows
  run_ends [] = refl
  run_ends (x ∷ xs) = go (c x) refl (run_ends xs)
    where
      go : (b : Bool) → c x ≡ b → Follows (outside c) (drop (run c xs) xs) → Follows (outside c) (drop (run c (x ∷ xs)) (x ∷ xs))
      go true q ih = rw (run, q) ih
      go false q ih = rw (run, q) (true-not (c x) q)

  pub run-first : (xs : List ℕ) (n : ℕ) → run c xs ≡ suc n → Starts c xs
  unfolding run starts
  run-first [] n e = absurd (omega arith)
  run-first (x ∷ xs) n e = go (c x) refl
    where
      go : (b : Bool) → c x ≡ b → c x ≡ true
      go true q = q
      go false q = let w : 0 ≡ suc n = rw (run, q) at e in absurd (omega arith)

  pub run_fits : Fits (run c)
  unfolding run
  run_fits [] = zero-le
  run_fits (x ∷ xs) = go (c x) refl (run_fits xs)
    where
      go : (t : Bool) → c x ≡ t → run c xs ≤ length xs → run c (x ∷ xs) ≤ suc (length xs)
      go true e ih = rw (run, e) (suc-le-suc ih)
      go false e ih = rw (run, e) zero-le

  -- every byte of a run is of the class
  pub run-all : (xs : List ℕ) (k : ℕ) → k < run c xs → c (get_or xs k 0) ≡ true
  unfolding run
  run-all [] k h = absurd (not-suc-le-zero h)
  run-all (x ∷ xs) k h = go (c x) refl k h (run-all xs)
    where
      go : (b : Bool) → c x ≡ b → (k : ℕ) → k < run c (x ∷ xs) → ((k : ℕ) → k < run c xs → c (get_or xs k 0) ≡ true) → c (get_or (x ∷ xs) k 0) ≡ true
      go false q k h ih = let l : k < 0 = rw (run, q) at h in absurd (omega arith)
      go true q zero h ih = q
      go true q (suc k) h ih = let l : suc k < suc (run c xs) = rw (run, q) at h in ih k (le_of_suc-le-suc l)

  -- a run goes on from any place in it
  pub run-from : (k : ℕ) (xs : List ℕ) → k ≤ run c xs → run c xs ≡ k + run c (drop k xs)
  unfolding run
  run-from zero xs h = omega arith
  run-from (suc k) [] h = absurd (not-suc-le-zero h)
  run-from (suc k) (x ∷ xs) h = go (c x) refl (run-from k xs)
    where
      go : (t : Bool) → c x ≡ t → (k ≤ run c xs → run c xs ≡ k + run c (drop k xs)) → run c (x ∷ xs) ≡ suc k + run c (drop k xs)
      go true e ih = rw (run, e) (omega (arith, ih (le_of_suc-le-suc (rw (run, e) at h))))
      go false e ih = absurd (not-suc-le-zero (rw (run, e) at h))

  -- a run is the same in the first m bytes, if it has no more
  pub run_take : (m : ℕ) (xs : List ℕ) → run c xs ≤ m → run c (take m xs) ≡ run c xs
  unfolding run
  run_take zero [] h = refl
  run_take zero (x ∷ xs) h = omega arith
  run_take (suc m) [] h = refl
  run_take (suc m) (x ∷ xs) h = go (c x) refl (run_take m xs)
    where
      go : (t : Bool) → c x ≡ t → (run c xs ≤ m → run c (take m xs) ≡ run c xs) → run c (x ∷ take m xs) ≡ run c (x ∷ xs)
      go true e ih = rw (run, e) (ap suc (ih (le_of_suc-le-suc (rw (run, e) at h))))
      go false e ih = rw (run, e)

-- a run of a narrower class is no longer
pub run-narrow : (c d : ℕ → Bool) → ((b : ℕ) → c b ≡ true → d b ≡ true) → (xs : List ℕ) → run c xs ≤ run d xs
unfolding run
run-narrow c d h [] = zero-le
run-narrow c d h (x ∷ xs) = go (c x) refl (run-narrow c d h xs)
  where
    go : (t : Bool) → c x ≡ t → run c xs ≤ run d xs → run c (x ∷ xs) ≤ run d (x ∷ xs)
    go true e ih = rw (run, e, h x e) (suc-le-suc ih)
    go false e ih = rw (run, e) zero-le

-- ==== many, and the last bytes of what it takes

module _ (f : Reader) where
  pub many-skip : (k : ℕ) (xs : List ℕ) → many f k xs ≡ k + many f 0 (drop k xs)
  unfolding many
  many-skip k [] = rw drop-nil (omega arith)
  many-skip zero (x ∷ xs) = omega arith
  many-skip (suc k) (x ∷ xs) = rw (many-skip k xs) (omega arith)

  pub many-past : (k : ℕ) (xs : List ℕ) → k ≤ many f k xs
  many-past k xs = omega (arith, many-skip k xs)

  pub many-none : (xs : List ℕ) → f xs ≡ 0 → many f 0 xs ≡ 0
  unfolding many
  many-none [] e = refl
  many-none (x ∷ xs) e = rw (many, e)

  pub many_more : (xs : List ℕ) (n : ℕ) → f xs ≡ suc n → suc n ≤ length xs → many f 0 xs ≡ suc n + many f 0 (drop (suc n) xs)
  unfolding many
  many_more [] n e h = absurd (not-suc-le-zero h)
  many_more (x ∷ xs) n e h = rw (many, e) (omega (arith, many-skip n xs))

  -- past a run of bytes of which f takes one at a time
  pub many-run : (c : ℕ → Bool) → ((x : ℕ) (xs : List ℕ) → c x ≡ true → f (x ∷ xs) ≡ 1) → (xs : List ℕ) → many f 0 xs ≡ run c xs + many f 0 (drop (run c xs) xs)
  unfolding many run
  many-run c O [] = omega arith
  many-run c O (x ∷ xs) = go (c x) refl (many-run c O xs)
    where
      go : (t : Bool) → c x ≡ t → many f 0 xs ≡ run c xs + many f 0 (drop (run c xs) xs) → many f 0 (x ∷ xs) ≡ run c (x ∷ xs) + many f 0 (drop (run c (x ∷ xs)) (x ∷ xs))
      go true e ih = let r = run_more c x xs e in rw (r, many, O x xs e) (omega (arith, ih))
      go false e ih = let r : run c (x ∷ xs) ≡ 0 = rw (run, e) in rw r (omega arith)

  pub lasts-skip : (k : ℕ) (xs : List ℕ) → lasts f k xs ≡ lasts f 0 (drop k xs)
  unfolding lasts
  lasts-skip k [] = rw drop-nil
  lasts-skip zero (x ∷ xs) = refl
  lasts-skip (suc k) (x ∷ xs) = lasts-skip k xs

  pub lasts-none : (xs : List ℕ) → f xs ≡ 0 → lasts f 0 xs ≡ []
  unfolding lasts
  lasts-none [] e = refl
  lasts-none (x ∷ xs) e = rw (lasts, e)

  pub lasts-more : (xs : List ℕ) (n : ℕ) → f xs ≡ suc n → suc n ≤ length xs → lasts f 0 xs ≡ get_or xs n 0 ∷ lasts f 0 (drop (suc n) xs)
  unfolding lasts
  lasts-more [] n e h = absurd (not-suc-le-zero h)
  lasts-more (x ∷ xs) n e h = rw (lasts, e) (ap (λ (l : List ℕ). get_or (x ∷ xs) n 0 ∷ l) (lasts-skip n xs))

  -- bytes of a run of which f takes one at a time are their own last bytes
  pub lasts-run : (c : ℕ → Bool) → ((x : ℕ) (xs : List ℕ) → c x ≡ true → f (x ∷ xs) ≡ 1) → (k : ℕ) (xs : List ℕ) → k ≤ run c xs → lasts f 0 xs ≡ take k xs ++ lasts f 0 (drop k xs)
  unfolding lasts run
  lasts-run c O zero xs h = refl
  lasts-run c O (suc k) [] h = absurd (not-suc-le-zero h)
  lasts-run c O (suc k) (x ∷ xs) h = go (c x) refl (lasts-run c O k xs)
    where
      go : (t : Bool) → c x ≡ t → (k ≤ run c xs → lasts f 0 xs ≡ take k xs ++ lasts f 0 (drop k xs)) → lasts f 0 (x ∷ xs) ≡ x ∷ (take k xs ++ lasts f 0 (drop k xs))
      go true e ih = rw (lasts, O x xs e) (ap (λ (l : List ℕ). x ∷ l) (ih (le_of_suc-le-suc (rw (run, e) at h))))
      go false e ih = absurd (not-suc-le-zero (rw (run, e) at h))

  module _ (F : Fits f) where
    pub many-fits : (k : ℕ) (xs : List ℕ) → k ≤ length xs → many f k xs ≤ length xs
    unfolding many
    many-fits k [] h = h
    many-fits (suc k) (x ∷ xs) h = suc-le-suc (many-fits k xs (le_of_suc-le-suc h))
    many-fits zero (x ∷ xs) h = go (λ k h. many-fits k xs h) (f (x ∷ xs)) refl
      where
        go : ((k : ℕ) → k ≤ length xs → many f k xs ≤ length xs) → (n : ℕ) → f (x ∷ xs) ≡ n → many f zero (x ∷ xs) ≤ suc (length xs)
        go ih zero e = rw (many, e) zero-le
        go ih (suc n) e = rw (many, e) (suc-le-suc (ih n (le_of_suc-le-suc (rw e at (F (x ∷ xs))))))

    -- after all of them f takes nothing
    pub many-ends : (k : ℕ) (xs : List ℕ) → Ends f (drop (many f k xs) xs)
    unfolding many
    many-ends k [] = rw drop-nil (omega (arith, F []))
    many-ends (suc k) (x ∷ xs) = many-ends k xs
    many-ends zero (x ∷ xs) = go (λ k. many-ends k xs) (f (x ∷ xs)) refl
      where
        go : ((k : ℕ) → Ends f (drop (many f k xs) xs)) → (n : ℕ) → f (x ∷ xs) ≡ n → Ends f (drop (many f zero (x ∷ xs)) (x ∷ xs))
        go ih zero e = rw (many, e) e
        go ih (suc n) e = rw (many, e) (ih n)

-- ==== choose, between, passing

module _ (a : ℕ) (f g : Reader) where
  module _ (xs : List ℕ) where
    pub choose_yes : eqb (get_or xs 0 0) a ≡ true → choose a f g xs ≡ f xs
    unfolding choose
    choose_yes e = rw (choose, e)

    pub choose_no : eqb (get_or xs 0 0) a ≡ false → choose a f g xs ≡ g xs
    unfolding choose
    choose_no e = rw (choose, e)

  pub choose-fits : Fits f → Fits g → Fits (choose a f g)
  choose-fits F G xs = go (eqb (get_or xs 0 0) a) refl
    where
      go : (t : Bool) → eqb (get_or xs 0 0) a ≡ t → choose a f g xs ≤ length xs
      go true e = rw (choose_yes xs e) (F xs)
      go false e = rw (choose_no xs e) (G xs)

module _ (a z : ℕ) (f : Reader) where
  module _ (xs : List ℕ) where
    pub between_is : eqb (get_or xs 0 0) a ≡ true → between a z f xs ≡ cond (eqb (get_or xs (f (drop 1 xs) + 1) 0) z) (f (drop 1 xs) + 2) 0
    unfolding between
    between_is e = rw (between, e)

    pub between-not : eqb (get_or xs 0 0) a ≡ false → between a z f xs ≡ 0
    unfolding between
    between-not e = rw (between, e)

  pub between_first : (xs : List ℕ) (n : ℕ) → between a z f xs ≡ suc n → eqb (get_or xs 0 0) a ≡ true
  between_first xs n h = go (eqb (get_or xs 0 0) a) refl
    where
      go : (t : Bool) → eqb (get_or xs 0 0) a ≡ t → eqb (get_or xs 0 0) a ≡ true
      go true e = e
      go false e = absurd (omega (arith, between-not xs e))

  pub between-fits : eqb 0 z ≡ false → Fits (between a z f)
  between-fits o xs = go (eqb (get_or xs 0 0) a) refl
    where
      go : (t : Bool) → eqb (get_or xs 0 0) a ≡ t → between a z f xs ≤ length xs
      go true e =
          let n = f (drop 1 xs) in
          rw (between_is xs e)
          (cond-le (eqb (get_or xs (n + 1) 0) z) (n + 2) 0 _ (λ q. omega (arith, there (λ b. eqb b z) o xs (n + 1) q)) zero-le)
      go false e = rw (between-not xs e) zero-le

module _ (t : List ℕ → Bool) (f : Reader) (xs : List ℕ) where
  pub passing-yes : t (take (f xs) xs) ≡ true → passing t f xs ≡ f xs
  unfolding passing
  passing-yes e = rw e

  pub passing-no : t (take (f xs) xs) ≡ false → passing t f xs ≡ 0
  unfolding passing
  passing-no e = rw e

  -- what passed
  pub passing-inv : (n : ℕ) → passing t f xs ≡ suc n → (f xs ≡ suc n) × (t (take (suc n) xs) ≡ true)
  passing-inv n h = go (t (take (f xs) xs)) refl
    where
      go : (b : Bool) → t (take (f xs) xs) ≡ b → (f xs ≡ suc n) × (t (take (suc n) xs) ≡ true)
      go true e = let q : f xs ≡ suc n = sym (passing-yes e) ∙ h in (q, rw (← q) e)
      go false e = absurd (omega (arith, passing-no e))

pub passing-fits : (t : List ℕ → Bool) (f : Reader) → Fits f → Fits (passing t f)
unfolding passing
passing-fits t f F xs = cond-le (t (take (f xs) xs)) (f xs) 0 _ (λ e. F xs) zero-le
