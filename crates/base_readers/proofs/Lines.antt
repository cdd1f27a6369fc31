-- The lines of any bytes, one after the other; and the lines of texts that were each ended by LF are these texts.
use Prim.Native.Nat.{ℕ, suc, ◌<◌, zero-le, suc-le-suc}
use native.Mathlib.Omega.{arith}
use mathlib.Core.Path.{◌≡◌, refl, sym, ap, ◌∙◌}
use mathlib.Core.Bool.{Bool, true, false}
use mathlib.Core.List.{List, [], ◌∷◌, ◌++◌}
use lib.Dec.{eqb}
use lib.ListN.{length, take, drop}
use borrow.Author.Tests.{eq-eqb, ne_eqb}
use Rattle.base_sequences.proofs.Booleans.{no_true}
use Rattle.base_readers.specs.Texts.{one_of}
use Rattle.base_readers.specs.Readers.{run}
use Rattle.base_readers.specs.Lines.{lined, on_first, lines_of, feedless, until_feed}

-- ==== one line after the other

line-ended : (x : ℕ) (xs : List ℕ) → eqb x 10 ≡ true → lines_of (x ∷ xs) ≡ [] ∷ lines_of xs
unfolding lines_of
line-ended x xs e = rw (lines_of, e)

line-goes-on : (x : ℕ) (xs : List ℕ) → eqb x 10 ≡ false → lines_of (x ∷ xs) ≡ on_first x (lines_of xs)
unfolding lines_of
line-goes-on x xs e = rw (lines_of, e)

feed-here : (x : ℕ) (xs : List ℕ) → eqb x 10 ≡ true → until_feed (x ∷ xs) ≡ 0
unfolding run feedless
feed-here x xs e = rw (run, feedless, e)

feed-later : (x : ℕ) (xs : List ℕ) → eqb x 10 ≡ false → until_feed (x ∷ xs) ≡ suc (until_feed xs)
unfolding run feedless
feed-later x xs e = rw (run, feedless, e)

pub lines-first : (xs : List ℕ) → 0 < length xs → lines_of xs ≡ take (until_feed xs) xs ∷ lines_of (drop (suc (until_feed xs)) xs)
unfolding lines_of run
lines-first [] h = absurd (let z : 0 < 0 = h in omega arith)
lines-first (x ∷ xs) h = go (eqb x 10) refl (lines-first xs)
  where
    later : (xs : List ℕ) → eqb x 10 ≡ false → (0 < length xs → lines_of xs ≡ take (until_feed xs) xs ∷ lines_of (drop (suc (until_feed xs)) xs))
        → lines_of (x ∷ xs) ≡ take (until_feed (x ∷ xs)) (x ∷ xs) ∷ lines_of (drop (suc (until_feed (x ∷ xs))) (x ∷ xs))
    later [] e ih = line-goes-on x [] e ∙ rw (feed-later x [] e)
    later (y ∷ ys) e ih = line-goes-on x (y ∷ ys) e ∙ (ap (on_first x) (ih (suc-le-suc zero-le)) ∙ rw (feed-later x (y ∷ ys) e))

    go : (t : Bool) → eqb x 10 ≡ t → (0 < length xs → lines_of xs ≡ take (until_feed xs) xs ∷ lines_of (drop (suc (until_feed xs)) xs))
        → lines_of (x ∷ xs) ≡ take (until_feed (x ∷ xs)) (x ∷ xs) ∷ lines_of (drop (suc (until_feed (x ∷ xs))) (x ∷ xs))
    go true e ih = line-ended x xs e ∙ rw (feed-here x xs e)
    go false e ih = later xs e ih

-- ==== texts that were each ended by LF

pub data Feedless : List (List ℕ) → Type 0 where
  none : Feedless []
  more : {t : List ℕ} {ts : List (List ℕ)} → one_of t 10 ≡ false → Feedless ts → Feedless (t ∷ ts)

line-then : (t rest : List ℕ) → one_of t 10 ≡ false → lines_of (t ++ (10 ∷ rest)) ≡ t ∷ lines_of rest
unfolding one_of
line-then [] rest h = line-ended 10 rest refl
line-then (x ∷ t) rest h = go (eqb 10 x) refl (line-then t rest)
  where
    go : (b : Bool) → eqb 10 x ≡ b → (one_of t 10 ≡ false → lines_of (t ++ (10 ∷ rest)) ≡ t ∷ lines_of rest) → lines_of (x ∷ (t ++ (10 ∷ rest))) ≡ (x ∷ t) ∷ lines_of rest
    go true b ih = absurd (no_true (sym (rw b at h)))
    go false b ih =
        let l : one_of t 10 ≡ false = rw b at h in
        line-goes-on x (t ++ (10 ∷ rest)) (ne_eqb x 10 (λ z. no_true (sym b ∙ eq-eqb 10 x (sym z)))) ∙ ap (on_first x) (ih l)

pub lines-lined : {ts : List (List ℕ)} → Feedless ts → lines_of (lined ts) ≡ ts
unfolding lined lines_of
lines-lined none = refl
lines-lined (more {t} {ts} h w) = line-then t (lined ts) h ∙ ap (λ (l : List (List ℕ)). t ∷ l) (lines-lined w)
