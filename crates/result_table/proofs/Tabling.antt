-- A table of methods kept as flags, one for each of the methods and each of the results: what the table says of a method and a result is
-- the flag at their numbers, and false where one of them has none. By induction on the rows. Last, the results of 01's table.
use Prim.Native.Nat.{ℕ, ◌≤◌, ◌<◌}
use mathlib.Core.Path.{◌≡◌, refl, sym}
use mathlib.Core.Bool.{Bool, true, false, ◌&&◌}
use mathlib.Core.List.{List, [], ◌∷◌, map}
use lib.ListN.{length, get_or}
use Rattle.base_sequences.proofs.Booleans.{no_true, both, and_left, and_right, and_none}
use Rattle.base_readers.specs.Texts.{bytes, same}
use Rattle.base_readers.proofs.Texts.{same-eq}
use Rattle.result_rules.specs.Table.{Row, listed, table, tabled}
use Rattle.result_table.specs.Internal.{number_of}
use Rattle.result_table.proofs.Numbered.{unlisted-number, made-number}

-- ==== the names of a table

abbrev pub methods_of : List Row → List (List ℕ)
methods_of [] = []
methods_of (w ∷ ws) = w.method ∷ methods_of ws

-- each of the texts is one of the names
unfoldable pub among : List (List ℕ) → List (List ℕ) → Bool
among names [] = true
among names (w ∷ ws) = listed names w && among names ws

-- the results of each row are among the names
unfoldable pub results_among : List (List ℕ) → List Row → Bool
results_among names [] = true
results_among names (w ∷ ws) = among names w.results && results_among names ws

-- what a table says of each of the methods and each of the names
abbrev pub flags_of : List Row → List (List ℕ) → List (List Bool)
flags_of rows names = map (λ m. map (tabled rows m) names) (methods_of rows)

-- ==== texts that are none of them

unknown-method : (rows : List Row) (m r : List ℕ) → listed (methods_of rows) m ≡ false → tabled rows m r ≡ false
unfolding listed tabled
unknown-method [] m r e = refl
unknown-method (w ∷ ws) m r e = go (same w.method m) refl (unknown-method ws m r)
  where
    go : (b : Bool) → same w.method m ≡ b → (listed (methods_of ws) m ≡ false → tabled ws m r ≡ false) → tabled (w ∷ ws) m r ≡ false
    go true q ih = absurd (no_true (sym (rw (listed, q) at e)))
    go false q ih = rw (tabled, q) (ih (rw (listed, q) at e))

unknown-listed : (names ws : List (List ℕ)) (t : List ℕ) → among names ws ≡ true → listed names t ≡ false → listed ws t ≡ false
unfolding listed among
unknown-listed names [] t a e = refl
unknown-listed names (w ∷ ws) t a e = go (same w t) refl (unknown-listed names ws t (and_right (listed names w) (among names ws) a) e)
  where
    go : (b : Bool) → same w t ≡ b → listed ws t ≡ false → listed (w ∷ ws) t ≡ false
    go true q ih = absurd (both (listed names t) e (rw (same-eq w t q) at (and_left (listed names w) (among names ws) a)))
    go false q ih = rw (listed, q) ih

unknown-result : (names : List (List ℕ)) (rows : List Row) (m r : List ℕ) → results_among names rows ≡ true → listed names r ≡ false
    → tabled rows m r ≡ false
unfolding tabled results_among
unknown-result names [] m r a e = refl
unknown-result names (w ∷ ws) m r a e =
    let here = unknown-listed names w.results r (and_left (among names w.results) (results_among names ws) a) e in
    rw (here, and_none (same w.method m)) (unknown-result names ws m r (and_right (among names w.results) (results_among names ws) a) e)

-- ==== the numbers of a method and of a result

-- the results of all rows are among the names
module _ (rows : List Row) (names : List (List ℕ)) (a : results_among names rows ≡ true) (m r : List ℕ) (i : ℕ) (p : i ≡ number_of (methods_of rows) m) where
  pub method-none : length (methods_of rows) ≤ i → false ≡ tabled rows m r
  method-none h = sym (unknown-method rows m r (unlisted-number (methods_of rows) m (rw (← p) h)))

  flags-of : i < length (methods_of rows) → get_or (flags_of rows names) i [] ≡ map (tabled rows m) names
  flags-of h = rw p (made-number (λ x. map (tabled rows x) names) (methods_of rows) m [] (rw (← p) h))

  module _ (j : ℕ) (q : j ≡ number_of names r) where
    pub result-none : length names ≤ j → false ≡ tabled rows m r
    result-none h = sym (unknown-result names rows m r a (unlisted-number names r (rw (← q) h)))

    pub flag_at : (flags : List (List Bool)) → flags ≡ flags_of rows names → i < length (methods_of rows) → j < length names
        → get_or (get_or flags i []) j false ≡ tabled rows m r
    flag_at flags f h k = rw (f, flags-of h, q) (made-number (tabled rows m) names r false (rw (← q) k))

-- ==== the table of methods

-- the results of its rows, each once
abbrev pub results : List (List ℕ)
results =
    bytes "none" ∷ bytes "pass" ∷ bytes "fail" ∷ bytes "softfail" ∷ bytes "policy" ∷ bytes "neutral" ∷ bytes "temperror" ∷ bytes "permerror" ∷ []

pub no-others : results_among results table ≡ true
unfolding results_among among listed same
no-others = refl
