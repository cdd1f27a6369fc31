-- What a reader takes goes by the bytes that it takes and by what comes next, and by nothing behind that. Each law is by induction on
-- the part p that two lists share.
use Prim.Native.Nat.{ℕ, zero, suc, ◌+◌, ◌≤◌, ◌<◌}
use native.Mathlib.Nat.{le_of_suc-le-suc, not-suc-le-zero}
use native.Mathlib.Numerals.{add-one}
use native.Mathlib.Omega.{arith}
use mathlib.Core.Path.{◌≡◌, refl, sym, ap, ◌∙◌}
use mathlib.Core.Bool.{Bool, true, false}
use mathlib.Core.List.{List, [], ◌∷◌, ◌++◌}
use lib.Dec.{eqb}
use lib.ListN.{length, get_or, drop, take, length-drop}
use lib.Seq.{take-append-le, drop-append-le}
use borrow.Author.Tests.{eqb-true}
use Rattle.base_sequences.proofs.Lists.{get_or-either, get_or-behind}
use Rattle.base_readers.specs.Texts.{outside, follows}
use Rattle.base_readers.specs.Readers.{Reader, run, many, choose, between, passing, lasts}
use Rattle.base_readers.specs.Locality.{Fits, Any, Ends, Follows, Local, Leaves, Shut}
use Rattle.base_readers.proofs.Readers.{many-past, many-none, lasts-none, choose_yes, choose_no, between_is, between-not, passing-yes, passing-inv, run_none, run_ends, many-ends}

-- fewer things may follow
pub local-weaker : (f : Reader) (F G : List ℕ → Type 0) → ((t : List ℕ) → G t → F t) → Local f F → Local f G
local-weaker f F G i L p x y n e h g = L p x y n e h (i (drop (suc n) p ++ y) g)

-- a run: where the run has ended
run_at : (c : ℕ → Bool) (p x y : List ℕ) (n : ℕ) → run c (p ++ x) ≡ n → n ≤ length p → Ends (run c) (drop n p ++ y) → run c (p ++ y) ≡ n
unfolding run
run_at c p x y zero e h g = g
run_at c [] x y (suc n) e h g = absurd (not-suc-le-zero h)
run_at c (b ∷ p) x y (suc n) e h g = go (c b) refl (λ q. run_at c p x y n q (le_of_suc-le-suc h) g)
  where
    go : (t : Bool) → c b ≡ t → (run c (p ++ x) ≡ n → run c (p ++ y) ≡ n) → run c (b ∷ (p ++ y)) ≡ suc n
    go true q ih = let w : suc (run c (p ++ x)) ≡ suc n = rw (run, q) at e in rw (run, q) (ap suc (ih (omega arith)))
    go false q ih = absurd (let w : 0 ≡ suc n = rw (run, q) at e in omega arith)

pub run-local : (c : ℕ → Bool) → Local (run c) (Ends (run c))
run-local c p x y n e h g = run_at c p x y (suc n) e h g

-- a run that ends inside p ends there whatever follows p
pub run_inside : (c : ℕ → Bool) (p x y : List ℕ) (n : ℕ) → run c (p ++ x) ≡ n → n < length p → run c (p ++ y) ≡ n
unfolding follows
run_inside c p x y n e h = run_at c p x y n e (omega arith) (run_none c (drop n p ++ y) ends)
  where
    d : (z : List ℕ) → drop n (p ++ z) ≡ drop n p ++ z
    d z = drop-append-le n p z (omega arith)

    same : (q : List ℕ) → 0 < length q → Follows (outside c) (q ++ x) → Follows (outside c) (q ++ y)
    same [] o f = absurd (let z : 0 < 0 = o in omega arith)
    same (b ∷ q) o f = f

    ends : Follows (outside c) (drop n p ++ y)
    ends = same (drop n p) (rw length-drop (omega arith)) (rw (← d x, ← e) (run_ends c (p ++ x)))

pub choose-local : (a : ℕ) (f g : Reader) (F : List ℕ → Type 0) → Local f F → Local g F → Local (choose a f g) F
choose-local a f g F L M [] x y n e h k = absurd (not-suc-le-zero h)
choose-local a f g F L M (b ∷ p) x y n e h k = go (eqb b a) refl
  where
    go : (t : Bool) → eqb b a ≡ t → choose a f g (b ∷ (p ++ y)) ≡ suc n
    go true q = choose_yes a f g (b ∷ (p ++ y)) q ∙ L (b ∷ p) x y n (sym (choose_yes a f g (b ∷ (p ++ x)) q) ∙ e) h k
    go false q = choose_no a f g (b ∷ (p ++ y)) q ∙ M (b ∷ p) x y n (sym (choose_no a f g (b ∷ (p ++ x)) q) ∙ e) h k

module _ (f : Reader) (L : Local f Any) where
  -- one after another: where f takes nothing more
  pub many-at : (p x y : List ℕ) (k n : ℕ) → many f k (p ++ x) ≡ n → n ≤ length p → Ends f (drop n p ++ y) → many f k (p ++ y) ≡ n
  unfolding many
  many-at [] x y zero zero e h z = many-none f y z
  many-at [] x y zero (suc n) e h z = absurd (not-suc-le-zero h)
  many-at [] x y (suc k) n e h z = absurd (omega (arith, many-past f (suc k) x))
  many-at (b ∷ p) x y (suc k) zero e h z = absurd (omega arith)
  many-at (b ∷ p) x y (suc k) (suc n) e h z = ap suc (many-at p x y k n (omega arith) (le_of_suc-le-suc h) z)
  many-at (b ∷ p) x y zero zero e h z = many-none f (b ∷ (p ++ y)) z
  many-at (b ∷ p) x y zero (suc n) e h z = go (λ k q. many-at p x y k n q (le_of_suc-le-suc h) z) (f (b ∷ (p ++ x))) refl
    where
      go : ((k : ℕ) → many f k (p ++ x) ≡ n → many f k (p ++ y) ≡ n) → (m : ℕ) → f (b ∷ (p ++ x)) ≡ m → many f zero (b ∷ (p ++ y)) ≡ suc n
      go ih zero q = absurd (let o : 0 ≡ suc n = rw (many, q) at e in omega arith)
      go ih (suc m) q =
          let o : suc (many f m (p ++ x)) ≡ suc n = rw (many, q) at e in
          rw (many, L (b ∷ p) x y m q (omega (arith, many-past f m (p ++ x))) tt) (ap suc (ih m (omega arith)))

  pub many-local : Local (many f 0) (Ends f)
  many-local p x y n e h z = many-at p x y 0 (suc n) e h z

  -- the last bytes of what is taken are the same
  pub lasts-at : (p x y : List ℕ) (k n : ℕ) → many f k (p ++ x) ≡ n → n ≤ length p → Ends f (drop n p ++ x) → Ends f (drop n p ++ y)
      → lasts f k (p ++ y) ≡ lasts f k (p ++ x)
  unfolding many lasts
  lasts-at [] x y zero zero e h z w = lasts-none f y w ∙ sym (lasts-none f x z)
  lasts-at [] x y zero (suc n) e h z w = absurd (not-suc-le-zero h)
  lasts-at [] x y (suc k) n e h z w = absurd (omega (arith, many-past f (suc k) x))
  lasts-at (b ∷ p) x y (suc k) zero e h z w = absurd (omega arith)
  lasts-at (b ∷ p) x y (suc k) (suc n) e h z w = lasts-at p x y k n (omega arith) (le_of_suc-le-suc h) z w
  lasts-at (b ∷ p) x y zero zero e h z w = lasts-none f (b ∷ (p ++ y)) w ∙ sym (lasts-none f (b ∷ (p ++ x)) z)
  lasts-at (b ∷ p) x y zero (suc n) e h z w = go (λ k q. lasts-at p x y k n q (le_of_suc-le-suc h) z w) (f (b ∷ (p ++ x))) refl
    where
      go : ((k : ℕ) → many f k (p ++ x) ≡ n → lasts f k (p ++ y) ≡ lasts f k (p ++ x)) → (m : ℕ) → f (b ∷ (p ++ x)) ≡ m → lasts f zero (b ∷ (p ++ y)) ≡ lasts f zero (b ∷ (p ++ x))
      go ih zero q = absurd (let o : 0 ≡ suc n = rw (many, q) at e in omega arith)
      go ih (suc m) q =
          let o : suc (many f m (p ++ x)) ≡ suc n = rw (many, q) at e in
          let l : suc m ≤ suc (length p) = omega (arith, many-past f m (p ++ x)) in
          let g : get_or (b ∷ (p ++ y)) m 0 ≡ get_or (b ∷ (p ++ x)) m 0 = get_or-either (b ∷ p) x y m 0 l in
          rw (lasts, L (b ∷ p) x y m q l tt, q, g) (ap (λ (t : List ℕ). get_or (b ∷ (p ++ x)) m 0 ∷ t) (ih m (omega arith)))

  -- between two bytes: whatever follows
  pub between-local : (a z : ℕ) → Shut f z → Local (between a z (many f 0)) Any
  between-local a z S [] x y n e h k = absurd (not-suc-le-zero h)
  between-local a z S (b ∷ p) x y n e h k = opened (eqb b a) refl
    where
      m : ℕ
      m = many f 0 (p ++ x)

      shut : (t : Bool) → eqb b a ≡ true → eqb (get_or (b ∷ (p ++ x)) (m + 1) 0) z ≡ t → between a z (many f 0) (b ∷ (p ++ y)) ≡ suc n
      shut false o q = absurd (let r : 0 ≡ suc n = rw (between_is a z (many f 0) (b ∷ (p ++ x)) o, q) at e in omega arith)
      shut true o q =
          let r : m + 2 ≡ suc n = rw (between_is a z (many f 0) (b ∷ (p ++ x)) o, q) at e in
          let l : m < length p = omega arith in
          let q' : eqb (get_or (p ++ x) m 0) z ≡ true = rw add-one at q in
          let c : get_or (drop m p ++ y) 0 0 ≡ get_or (p ++ x) m 0 = get_or-behind p x y m 0 l in
          let g : many f 0 (p ++ y) ≡ m = many-at p x y 0 m refl (omega arith) (S (drop m p ++ y) (c ∙ eqb-true _ _ q')) in
          rw (between_is a z (many f 0) (b ∷ (p ++ y)) o, g, add-one, get_or-either p x y m 0 l, q') (omega arith)

      opened : (t : Bool) → eqb b a ≡ t → between a z (many f 0) (b ∷ (p ++ y)) ≡ suc n
      opened true o = shut (eqb (get_or (b ∷ (p ++ x)) (m + 1) 0) z) o refl
      opened false o = absurd (let r : 0 ≡ suc n = rw (between-not a z (many f 0) (b ∷ (p ++ x)) o) at e in omega arith)

-- a test of what was taken sees nothing else
pub passing-local : (t : List ℕ → Bool) (f : Reader) (F : List ℕ → Type 0) → Local f F → Local (passing t f) F
passing-local t f F L p x y n e h k =
    let v = passing-inv t f (p ++ x) n e in
    let q : f (p ++ y) ≡ suc n = L p x y n v.0 h k in
    let r : take (suc n) (p ++ y) ≡ take (suc n) (p ++ x) = take-append-le (suc n) p y h ∙ sym (take-append-le (suc n) p x h) in
    passing-yes t f (p ++ y) (rw (q, r) v.1) ∙ q

-- ==== a byte at which nothing is taken

pub choose-shut : (a : ℕ) (f g : Reader) (z : ℕ) → Shut f z → Shut g z → Shut (choose a f g) z
choose-shut a f g z F G xs h = go (eqb (get_or xs 0 0) a) refl
  where
    go : (t : Bool) → eqb (get_or xs 0 0) a ≡ t → choose a f g xs ≡ 0
    go true e = choose_yes a f g xs e ∙ F xs h
    go false e = choose_no a f g xs e ∙ G xs h

pub between-shut : (a b : ℕ) (f : Reader) (z : ℕ) → eqb z a ≡ false → Shut (between a b f) z
between-shut a b f z o xs h = between-not a b f xs (rw h o)

-- ==== what is left: the conditions above hold wherever a reader has taken something, so no weaker ones would do

pub run-leaves : (c : ℕ → Bool) → Leaves (run c) (Ends (run c))
run-leaves c xs n e = run_none c (drop (suc n) xs) (rw (← e) (run_ends c xs))

pub many-leaves : (f : Reader) → Fits f → Leaves (many f 0) (Ends f)
many-leaves f F xs n e = rw (← e) (many-ends f F 0 xs)

-- nothing is taken one after another exactly where nothing is taken once
pub many-zero : (f : Reader) → Fits f → (t : List ℕ) → Ends (many f 0) t → Ends f t
many-zero f F t e = rw e at (many-ends f F 0 t)
