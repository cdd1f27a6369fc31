-- Bytes that are passed at once.
use Rattle.std.proofs.Common.{◌≡◌, ℕ, suc, Bool, true, false, ◌+◌, ◌-◌, ◌≤◌, ◌<◌, ◌||◌, List, [], ◌∷◌, ◌++◌, length, get_or, drop, sym, refl, arith, length-take, length-drop, ap}
use Rattle.std.specs.List.{slice_range}
use Rattle.std.proofs.lemmas.List.Folds.{drop_split}
use Rattle.base_readers.specs.Readers.{run}
use Rattle.base_readers.specs.Places.{Reaches}
use Rattle.base_sequences.proofs.Booleans.{no_true}
use Rattle.base_readers.proofs.Loops.{run_on}

-- one byte more, where none so far may fail
pub all-on : (c : ℕ → Bool) (s : List ℕ) (j : ℕ) (hit r : Bool) → (hit ≡ false → Reaches (run c) s 0 j) → j < length s → (r ≡ false → c (get_or s j 0) ≡ true)
    → (hit || r) ≡ false → Reaches (run c) s 0 (j + 1)
all-on c s j true r w h f e = absurd (no_true (sym e))
all-on c s j false r w h f e = run_on c s 0 j true (w refl) h (sym (f e)) refl

-- a list whose bytes are all of the class, and what follows it
run-through : (c : ℕ → Bool) (p q : List ℕ) → run c p ≡ length p → run c (p ++ q) ≡ length p + run c q
unfolding run
run-through c [] q h = omega arith
run-through c (x ∷ p) q h = go (c x) refl (run-through c p q)
  where
    go : (t : Bool) → c x ≡ t → (run c p ≡ length p → run c (p ++ q) ≡ length p + run c q) → run c (x ∷ (p ++ q)) ≡ suc (length p) + run c q
    go true e ih = let l : suc (run c p) ≡ suc (length p) = rw (run, e) at h in rw (run, e) (omega (arith, ih (omega (arith, l))))
    go false e ih = let l : 0 ≡ suc (length p) = rw (run, e) at h in absurd (omega (arith, l))

-- bytes from i up to e that are all of the class are passed
pub run-across : (c : ℕ → Bool) (s : List ℕ) (at i n : ℕ) → Reaches (run c) s at i → i + n ≤ length s → run c (slice_range s i (i + n)) ≡ length (slice_range s i (i + n)) → Reaches (run c) s at (i + n)
run-across c s at i n w h e =
    let l : length (slice_range s i (i + n)) ≡ n = omega (arith, length-take (i + n - i) (drop i s), length-drop i s) in
    let d : run c (drop i s) ≡ run c (slice_range s i (i + n) ++ drop (i + n) s) = ap (run c) (drop_split s i (i + n) (omega arith)) in
    record { same = omega (arith, w.same, l, d, run-through c (slice_range s i (i + n)) (drop (i + n) s) e) }
