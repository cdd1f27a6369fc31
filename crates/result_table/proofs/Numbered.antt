-- The names that the code keeps in rows: what the loop over them keeps, one turn, and the end; then what a text's number says of it.
-- By induction on the rows and on the names.
use Prim.Native.Nat.{ℕ, zero, suc, ◌+◌, ◌≤◌, ◌<◌, suc-le-suc}
use native.Mathlib.Nat.{not-suc-le-zero, le_of_suc-le-suc, add-zero}
use native.Mathlib.Numerals.{add-one}
use native.Mathlib.Omega.{arith}
use mathlib.Core.Path.{◌≡◌, refl, sym, ap, ◌∙◌}
use mathlib.Core.Bool.{Bool, true, false}
use mathlib.Core.List.{List, [], ◌∷◌, map}
use lib.Dec.{leb, ltb}
use lib.ListN.{length, get_or, drop, take, drop_of_length-le, length-map}
use lib.Seq.{drop-cons, length-take-le}
use borrow.Author.Tests.{leb-true, ltb-true, ltb-false, lt-ltb, le-ltb}
use Rattle.base_sequences.proofs.Booleans.{no_true, and_left, and_right}
use Rattle.base_readers.specs.Texts.{same}
use Rattle.base_readers.proofs.Texts.{same-eq, same-long}
use Rattle.lexis_rules.specs.Bytes.{lower, alike}
use Rattle.result_rules.specs.Table.{listed}
use Rattle.result_table.specs.Internal.{fits, names, number_of}

-- ==== the loop over the rows

-- a row has its length beside it, and at least that many bytes
pub fits-at : (ls : List ℕ) (ws : List (List ℕ)) (i : ℕ) → fits ls ws ≡ true → i < length ws → (i < length ls) × (get_or ls i 0 ≤ length (get_or ws i []))
unfolding fits
fits-at ls [] i e h = absurd (not-suc-le-zero h)
fits-at [] (w ∷ ws) i e h = absurd (no_true e)
fits-at (l ∷ ls) (w ∷ ws) zero e h = (omega arith, leb-true l (length w) (and_left (leb l (length w)) (fits ls ws) e))
fits-at (l ∷ ls) (w ∷ ws) (suc i) e h =
    let f = fits-at ls ws i (and_right (leb l (length w)) (fits ls ws) e) (le_of_suc-le-suc h) in
    (suc-le-suc f.0, f.1)

-- the first row holds the text, or another
module _ (l : ℕ) (w : List ℕ) (ls : List ℕ) (ws : List (List ℕ)) (text : List ℕ) where
  first-hit : alike (take l w) text ≡ true → number_of (names (l ∷ ls) (w ∷ ws)) (map lower text) ≡ 0
  unfolding names number_of alike
  first-hit e = rw (number_of, e)

  first-other : alike (take l w) text ≡ false → number_of (names (l ∷ ls) (w ∷ ws)) (map lower text) ≡ suc (number_of (names ls ws) (map lower text))
  unfolding names number_of alike
  first-other e = rw (number_of, e)

-- the rows before the i-th hold other names: the number among the rest, and i more, is the number among all
pub record Passed (rows : List (List ℕ)) (lengths text : List ℕ) (i : ℕ) : Type 0 where
  pub rest : i + number_of (names (drop i lengths) (drop i rows)) (map lower text) ≡ number_of (names lengths rows) (map lower text)
  pub bound : i ≤ length rows

pub passed_none : (rows : List (List ℕ)) (lengths text : List ℕ) → Passed rows lengths text 0
passed_none rows lengths text = record { rest = omega arith; bound = omega arith }

module _ (rows : List (List ℕ)) (lengths text : List ℕ) (i : ℕ) (w : Passed rows lengths text i) where
  pub passed-all : length rows ≤ i → i ≡ number_of (names lengths rows) (map lower text)
  unfolding names number_of
  passed-all h = sym (add-zero i) ∙ (rw (drop_of_length-le {A = List ℕ} rows h) at w.rest)

  module _ (k : fits lengths rows ≡ true) (h : i < length rows) (r : Bool) (e : r ≡ alike (take (get_or lengths i 0) (get_or rows i [])) text) where
    here : i + number_of (names (get_or lengths i 0 ∷ drop (suc i) lengths) (get_or rows i [] ∷ drop (suc i) rows)) (map lower text)
        ≡ number_of (names lengths rows) (map lower text)
    here = rw (drop-cons lengths i 0 (fits-at lengths rows i k h).0, drop-cons rows i [] h) at w.rest

    pub passed-hit : r ≡ true → i ≡ number_of (names lengths rows) (map lower text)
    passed-hit t = omega (arith, here, first-hit (get_or lengths i 0) (get_or rows i []) (drop (suc i) lengths) (drop (suc i) rows) text (sym e ∙ t))

    pub passed-more : r ≡ false → Passed rows lengths text (i + 1)
    passed-more f =
        record {
          rest = rw add-one (omega (arith, here, first-other (get_or lengths i 0) (get_or rows i []) (drop (suc i) lengths) (drop (suc i) rows) text (sym e ∙ f)));
          bound = omega arith;
        }

  -- a name of another length is another
  module _ (k : fits lengths rows ≡ true) (h : i < length rows) where
    pub passed-other : (get_or lengths i 0 ≡ length text → ⊥) → Passed rows lengths text (i + 1)
    unfolding alike
    passed-other ne =
        let n = get_or lengths i 0 in
        let x = take n (get_or rows i []) in
        let l : length (map lower x) ≡ n = length-map x lower ∙ length-take-le n (get_or rows i []) (fits-at lengths rows i k h).1 in
        let o : alike x text ≡ false = same-long (map lower x) (map lower text) (λ e. ne (sym l ∙ (e ∙ length-map text lower))) in
        passed-more k h false (sym o) refl

-- ==== what a number says

ltb-suc : (a b : ℕ) → ltb (suc a) (suc b) ≡ ltb a b
ltb-suc a b = go (ltb a b) refl
  where
    go : (t : Bool) → ltb a b ≡ t → ltb (suc a) (suc b) ≡ t
    go true e = lt-ltb (suc a) (suc b) (suc-le-suc (ltb-true a b e))
    go false e = le-ltb (suc a) (suc b) (suc-le-suc (ltb-false a b e))

-- a text is one of the names if and only if its number is below how many they are
pub listed-number : (ws : List (List ℕ)) (t : List ℕ) → ltb (number_of ws t) (length ws) ≡ listed ws t
unfolding listed number_of
listed-number [] t = refl
listed-number (w ∷ ws) t = go (same w t) refl (listed-number ws t)
  where
    go : (b : Bool) → same w t ≡ b → ltb (number_of ws t) (length ws) ≡ listed ws t → ltb (number_of (w ∷ ws) t) (length (w ∷ ws)) ≡ listed (w ∷ ws) t
    go true e ih = rw (number_of, listed, e) (lt-ltb 0 (suc (length ws)) (omega arith))
    go false e ih = rw (number_of, listed, e) (ltb-suc (number_of ws t) (length ws) ∙ ih)

pub unlisted-number : (ws : List (List ℕ)) (t : List ℕ) → length ws ≤ number_of ws t → listed ws t ≡ false
unlisted-number ws t h = sym (listed-number ws t) ∙ le-ltb (number_of ws t) (length ws) h

-- what stands at the number of a text in a list made of the names is made of that text
pub made-number : {B : Type 0} (f : List ℕ → B) (ws : List (List ℕ)) (t : List ℕ) (d : B) → number_of ws t < length ws → get_or (map f ws) (number_of ws t) d ≡ f t
unfolding number_of
made-number f [] t d h = absurd (not-suc-le-zero h)
made-number f (w ∷ ws) t d h = go (same w t) refl (made-number f ws t d)
  where
    go : (b : Bool) → same w t ≡ b → (number_of ws t < length ws → get_or (map f ws) (number_of ws t) d ≡ f t)
        → get_or (map f (w ∷ ws)) (number_of (w ∷ ws) t) d ≡ f t
    go true e ih = rw (number_of, e) (ap f (same-eq w t e))
    go false e ih = rw (number_of, e) (ih (le_of_suc-le-suc (rw (number_of, e) at h)))

-- where the code's names are those of a definition, so are the numbers
pub number-among : (vs : List (List ℕ)) {ws : List (List ℕ)} (t : List ℕ) (n : ℕ) → n ≡ number_of ws t → ws ≡ vs → n ≡ number_of vs t
number-among vs t n e q = e ∙ ap (λ (x : List (List ℕ)). number_of x t) q
