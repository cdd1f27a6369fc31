-- Loops that end where a reader ends: the invariant `Reaches`, one turn, and the end. The premises of the laws at the end of each part
-- are literally what a need is handed (the invariant, what a call ensures, what a test says of its answer), so that `search` finds them.
use Prim.Native.Nat.{ℕ, zero, suc, ◌+◌, ◌-◌, ◌≤◌, ◌<◌, ◌^◌}
use native.Mathlib.Nat.{add-zero}
use native.Mathlib.Omega.{arith}
use mathlib.Core.Path.{◌≡◌, refl, sym, ap, ◌∙◌}
use mathlib.Core.Bool.{Bool, true, false, ◌||◌}
use mathlib.Core.List.{List, [], ◌∷◌}
use lib.Dec.{T, eqb}
use lib.ListN.{length, get_or, drop, length-drop, drop_of_length-le}
use lib.Seq.{drop-cons, drop-drop, get_or-drop}
use mir.Syntax.{w64}
use mir.Val as machine
use Rattle.base_readers.specs.Readers.{Reader, run, many, between}
use Rattle.base_readers.specs.Places.{Reaches}
use Rattle.base_readers.specs.Locality.{Fits}
use Rattle.base_readers.proofs.Readers.{there-at, many_more, many-none, many-run, between_is, between-not}
use Rattle.base_sequences.proofs.Booleans.{no_true}
use Rattle.base_sequences.proofs.Tables.{tested, tested_at}

module _ {f : Reader} {s : List ℕ} {at : ℕ} where
  pub reaches-start : Reaches f s at at
  reaches-start = record { same = refl }

  pub reaches-on : {i : ℕ} (n : ℕ) → Reaches f s at i → f (drop i s) ≡ n + f (drop n (drop i s)) → Reaches f s at (i + n)
  reaches-on {i} n w e =
      let d : f (drop n (drop i s)) ≡ f (drop (i + n) s) = rw drop-drop in
      record { same = omega (arith, w.same) }

  pub reaches_end : {i : ℕ} → Reaches f s at i → f (drop i s) ≡ 0 → i ≡ at + f (drop at s)
  reaches_end w e = omega (arith, w.same)

  -- one walk after another
  pub reaches-onto : {i j : ℕ} → Reaches f s at i → Reaches f s i j → Reaches f s at j
  reaches-onto w v = record { same = omega (arith, w.same, v.same) }

-- what is found from i on is found from `at` on
pub reaches-found : (f : Reader) (s : List ℕ) (at i r : ℕ) → Reaches f s at i → r ≡ i + f (drop i s) → r ≡ at + f (drop at s)
reaches-found f s at i r w e = e ∙ w.same

-- ==== a run

module _ (c : ℕ → Bool) (s : List ℕ) (at i : ℕ) where
  module _ (r : Bool) where
    pub run_on : Reaches (run c) s at i → i < length s → r ≡ c (get_or s i 0) → r ≡ true → Reaches (run c) s at (i + 1)
    unfolding run
    run_on w h e q = let t : c (get_or s i 0) ≡ true = sym e ∙ q in reaches-on 1 w (rw (drop-cons s i 0, run, t) (omega arith))

    pub run-off : Reaches (run c) s at i → i < length s → r ≡ c (get_or s i 0) → r ≡ false → i ≡ at + run c (drop at s)
    unfolding run
    run-off w h e q = let t : c (get_or s i 0) ≡ false = sym e ∙ q in reaches_end w (rw (drop-cons s i 0, run, t))

  pub run_out : Reaches (run c) s at i → length s ≤ i → i ≡ at + run c (drop at s)
  unfolding run
  run_out w h = reaches_end w (rw drop_of_length-le)

-- where the first byte is not of the class there is none
pub run-shut : (c : ℕ → Bool) (s : List ℕ) (at : ℕ) (r : Bool) → r ≡ c (get_or (drop at s) 0 0) → r ≡ false → at ≡ at + run c (drop at s)
unfolding run
run-shut c s at r e q = go (drop at s) (sym e ∙ q)
  where
    go : (xs : List ℕ) → c (get_or xs 0 0) ≡ false → at ≡ at + run c xs
    go [] t = omega arith
    go (x ∷ xs) t = rw (run, t) (omega arith)

-- ==== a run, several bytes at once: j of them are passed

module _ (c : ℕ → Bool) (s : List ℕ) (at : ℕ) where
  pub piece-none : Reaches (run c) s at (at + 0)
  piece-none = record { same = rw add-zero }

  pub piece-more : (j : ℕ) (r : Bool) → Reaches (run c) s at (at + j) → at + j < length s → r ≡ c (get_or s (at + j) 0) → r ≡ true → Reaches (run c) s at (at + (j + 1))
  piece-more j r w h e q = let a : at + j + 1 ≡ at + (j + 1) = omega arith in rw (← a) (run_on c s at (at + j) r w h e q)

  pub piece-all : (j n : ℕ) → Reaches (run c) s at (at + j) → j ≡ n → Reaches (run c) s at (at + n)
  piece-all j n w e = rw (← e) w

-- ==== one thing after another

-- what a reader takes at a place is there
pub room_at : (f : Reader) → Fits f → (s : List ℕ) (i : ℕ) → f (drop i s) ≤ length s - i
room_at f F s i = rw (← length-drop i s) (F (drop i s))

module _ (f : Reader) (F : Fits f) (s : List ℕ) (at i n : ℕ) (q : n ≡ f (drop i s)) where
  pub many-on : Reaches (many f 0) s at i → Reaches (many f 0) s at (i + n)
  many-on w = rw q (go (f (drop i s)) refl)
    where
      go : (n : ℕ) → f (drop i s) ≡ n → Reaches (many f 0) s at (i + n)
      go zero z = rw add-zero w
      go (suc n) z = reaches-on (suc n) w (many_more f (drop i s) n z (rw z at (F (drop i s))))

  pub many-off : Reaches (many f 0) s at i → n ≡ 0 → i ≡ at + many f 0 (drop at s)
  many-off w z = reaches_end w (many-none f (drop i s) (sym q ∙ z))

  -- the next place is a number of the machine, and nearer to the end
  pub turn-fits : (n ≡ 0 → ⊥) → length s < 2 ^ 64 → machine.Fits w64 (i + n)
  turn-fits ne l = omega (arith, room_at f F s i)

  pub turn-less : (n ≡ 0 → ⊥) → length s - (i + n) < length s - i
  turn-less ne = omega (arith, room_at f F s i)

-- past a run of bytes of which f takes one at a time
pub many-past-run : (f : Reader) (c : ℕ → Bool) → ((x : ℕ) (xs : List ℕ) → c x ≡ true → f (x ∷ xs) ≡ 1) → (s : List ℕ) (at i e : ℕ)
    → Reaches (many f 0) s at i → e ≡ i + run c (drop i s) → Reaches (many f 0) s at e
many-past-run f c O s at i e w q = rw q (reaches-on (run c (drop i s)) w (many-run f c O (drop i s)))

-- ==== a byte on each side

-- a byte that a test found is there, so one more than its place is a number of the machine
pub there-fits : (s : List ℕ) (at x : ℕ) (r : Bool) → r ≡ eqb (get_or (drop at s) 0 0) x → r ≡ true → eqb 0 x ≡ false → length s < 2 ^ 64 → machine.Fits w64 (at + 1)
there-fits s at x r e q z l = omega (arith, there-at (λ b. eqb b x) z s at 0 (cc))

module _ (a z : ℕ) (f : Reader) (s : List ℕ) (at : ℕ) (r : Bool) (h : r ≡ eqb (get_or (drop at s) 0 0) a) where
  pub opens_not : r ≡ false → at ≡ at + between a z f (drop at s)
  opens_not t = omega (arith, between-not a z f (drop at s) (sym h ∙ t))

  module _ (t : r ≡ true) (e : ℕ) (q : e ≡ at + 1 + f (drop (at + 1) s)) (r' : Bool) (h' : r' ≡ eqb (get_or (drop e s) 0 0) z) where
    last : get_or (drop at s) (f (drop 1 (drop at s)) + 1) 0 ≡ get_or (drop e s) 0 0
    last = simp (get_or-drop, drop-drop) (ap (λ (k : ℕ). get_or s k 0) (omega arith))

    pub closes : r' ≡ true → e + 1 ≡ at + between a z f (drop at s)
    closes t' = let o : eqb (get_or (drop at s) 0 0) a ≡ true = sym h ∙ t in rw (between_is a z f (drop at s) o, last, ← h', t', drop-drop) (omega arith)

    pub closes-not : r' ≡ false → at ≡ at + between a z f (drop at s)
    closes-not t' = let o : eqb (get_or (drop at s) 0 0) a ≡ true = sym h ∙ t in rw (between_is a z f (drop at s) o, last, ← h', t') (omega arith)

-- ==== lines

-- bytes of which none ends a run are passed at once
pub text-on : (c : ℕ → Bool) (s : List ℕ) (at i n : ℕ) (r : Bool) → Reaches (run c) s at i → (r ≡ false → Reaches (run c) s i (i + n)) → r ≡ false
    → Reaches (run c) s at (i + n)
text-on c s at i n r w f e = reaches-onto w (f e)

-- one byte after the other, as long as none has hit
pub hits-on : (c : ℕ → Bool) (s : List ℕ) (at j : ℕ) (hit r : Bool) → (hit ≡ false → Reaches (run c) s at (at + j)) → at + j < length s
    → (r ≡ false → c (get_or s (at + j) 0) ≡ true) → (hit || r) ≡ false → Reaches (run c) s at (at + (j + 1))
hits-on c s at j true r w h f e = absurd (no_true (sym e))
hits-on c s at j false r w h f e = piece-more c s at j true (w refl) h (sym (f e)) refl

-- a byte that a test lets pass is of the class, because that holds of all bytes: one computed test
pub unstopped : (stops c : ℕ → Bool) → T (tested (λ b. stops b || c b) 0 256) → (b : ℕ) → b < 256 → stops b ≡ false → c b ≡ true
unstopped stops c t b h e = go (c b) (rw e at (tested_at (λ b. stops b || c b) 256 b t h))
  where
    go : (r : Bool) → T r → r ≡ true
    go true k = refl
    go false k = absurd k
