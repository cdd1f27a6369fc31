-- A part and what stands behind it: a separator as a reader, what is said of the place behind what a reader takes, how a parser goes on from
-- there, and that it is inside the slice.
use Prim.Native.Nat.{ℕ, zero, suc, ◌+◌, ◌≤◌, ◌<◌, ◌^◌}
use native.Mathlib.Omega.{arith}
use mathlib.Core.Path.{◌≡◌, refl, sym, ap, ◌∙◌}
use mathlib.Core.Bool.{Bool, true, false}
use mathlib.Core.List.{List, [], ◌∷◌}
use lib.Dec.{eqb}
use borrow.Author.Tests.{eq-eqb, ne_eqb}
use lib.ListN.{length, get_or, drop, length-drop, drop_of_length-le}
use lib.Seq.{drop-cons, drop-drop}
use mir.Syntax.{w64}
use mir.Val as machine
use Rattle.base_sequences.proofs.Booleans.{no_true}
use Rattle.base_readers.specs.Texts.{starts}
use Rattle.base_readers.specs.Readers.{Reader}
use Rattle.base_readers.specs.Parsers.{Got, nothing, got, Parser, after, ◌>>=◌, ◌>>◌, byte, text, pass}
use Rattle.base_readers.specs.Places.{from}
use Rattle.base_readers.specs.Locality.{Fits}
use Rattle.base_readers.proofs.Sequencing.{bind-got, bind-stuck, bind-none, byte-is, byte-not, skipping-is, pass-is, pass-not}
use Rattle.base_readers.proofs.Places.{goes_on, stops, gives, text_at, text-none, pass-at, pass-none}
use Rattle.lexis_rules.specs.Pieces.{space, keyword}
use Rattle.lexis_rules.specs.Words.{keyword_text, skip, gap, read_keyword}
use Rattle.lexis_laws.proofs.Pieces.{space-fits, keyword-fits}
use Rattle.result_rules.specs.Results.{separator, next}
use Rattle.result_separators.specs.Separators.{spaced, separated, separated_from, past, behind}
use Rattle.base_sequences.specs.Spans.{span}

-- ==== the byte that comes next

module _ (c : ℕ) (s : List ℕ) (at : ℕ) where
  pub next-at : at < length s → eqb (get_or s at 0) c ≡ next c (drop at s)
  unfolding starts
  next-at h = rw (drop-cons s at 0 h)

  pub next-end : length s ≤ at → false ≡ next c (drop at s)
  unfolding starts
  next-end h = rw (drop_of_length-le s h)

  -- where it comes next there is room for one more place
  pub next-inside : next c (drop at s) ≡ true → at < length s
  unfolding starts
  next-inside h = go (drop at s) refl h
    where
      go : (ys : List ℕ) → drop at s ≡ ys → next c ys ≡ true → at < length s
      go [] e t = absurd (no_true t)
      go (y ∷ ys) e t = omega (arith, length-drop at s, ap length e)

-- ==== a separator as a reader

module _ (c : ℕ) (xs : List ℕ) where
  pub separated-yes : next c (drop (space xs) xs) ≡ true → separated c xs ≡ space xs + 1 + space (drop (space xs + 1) xs)
  unfolding separated
  separated-yes h = rw (separated, h)

  pub separated-no : next c (drop (space xs) xs) ≡ false → separated c xs ≡ 0
  unfolding separated
  separated-no h = rw (separated, h)

  -- a separator takes what its reader takes, and fails where that is nothing
  pub separator-is : separator c xs ≡ pass (separated c) xs
  unfolding separator
  separator-is = go (next c (drop (space xs) xs)) refl
    where
      go : (t : Bool) → next c (drop (space xs) xs) ≡ t → separator c xs ≡ pass (separated c) xs
      go true h =
          let m = space (drop 1 (drop (space xs) xs)) in
          let e : m ≡ space (drop (space xs + 1) xs) = rw drop-drop in
          let k : separated c xs ≡ suc (space xs + m) = omega (arith, separated-yes h) in
          let b : ◌>>◌ (byte c) skip (drop (space xs) xs) ≡ got tt (1 + m) = bind-got (byte c) (λ u. skip) (drop (space xs) xs) tt 1 tt m (byte-is c (drop (space xs) xs) h) (skipping-is space (drop 1 (drop (space xs) xs)) m refl) in
          let a : separator c xs ≡ got tt (space xs + (1 + m)) = bind-got skip (λ u. ◌>>◌ (byte c) skip) xs tt (space xs) tt (1 + m) (skipping-is space xs (space xs) refl) b in
          let j : space xs + (1 + m) ≡ suc (space xs + m) = omega arith in
          a ∙ (rw j (sym (pass-is (separated c) xs (space xs + m) k)))
      go false h =
          bind-stuck skip (λ u. ◌>>◌ (byte c) skip) xs tt (space xs) (skipping-is space xs (space xs) refl)
          (bind-none (byte c) (λ u. skip) (drop (space xs) xs) (byte-not c (drop (space xs) xs) h))
          ∙ sym (pass-not (separated c) xs (separated-no h))

-- ==== a separator as the code finds it

-- the byte is there, so one more than its place is a number of the machine
pub separator-fits : (s : List ℕ) (a c : ℕ) (r : Bool) → r ≡ next c (drop a s) → r ≡ true → length s < 2 ^ 64 → machine.Fits w64 (a + 1)
separator-fits s a c r h t l = omega (arith, next-inside c s a (sym h ∙ t))

module _ (s : List ℕ) (at a c : ℕ) where
  separated-there : next c (drop a s) ≡ true → separated_from c s at a ≡ spaced s (a + 1)
  unfolding separated_from
  separated-there h = rw (separated_from, h)

  separated-missing : next c (drop a s) ≡ false → separated_from c s at a ≡ at
  unfolding separated_from
  separated-missing h = rw (separated_from, h)

  module _ (r : Bool) (h : r ≡ next c (drop a s)) where
    pub separator-there : r ≡ true → (e : ℕ) → e ≡ spaced s (a + 1) → e ≡ separated_from c s at a
    separator-there t e p = p ∙ sym (separated-there (sym h ∙ t))

    pub separator-missing : r ≡ false → at ≡ separated_from c s at a
    separator-missing t = sym (separated-missing (sym h ∙ t))

  -- behind the space that is what the reader takes
  pub separated-from : a ≡ spaced s at → separated_from c s at a ≡ at + separated c (drop at s)
  separated-from q = go (next c (drop a s)) refl
    where
      met : (t : Bool) → next c (drop a s) ≡ t → next c (drop (space (drop at s)) (drop at s)) ≡ t
      met t h = rw (drop-drop (space (drop at s)) at s, ← q) h

      go : (t : Bool) → next c (drop a s) ≡ t → separated_from c s at a ≡ at + separated c (drop at s)
      go true h =
          let n = space (drop at s) in
          let j : at + (n + 1) ≡ a + 1 = omega arith in
          let d : space (drop (n + 1) (drop at s)) ≡ space (drop (a + 1) s) = rw (drop-drop (n + 1) at s, j) in
          omega (arith, separated-there h, separated-yes c (drop at s) (met true h))
      go false h = omega (arith, separated-missing h, separated-no c (drop at s) (met false h))

  -- so it is found as the reader finds it, where the space is known to end there
  pub separator-found : a ≡ spaced s at → (e : ℕ) → e ≡ separated_from c s at a → e ≡ at + separated c (drop at s)
  separator-found q e p = p ∙ separated-from q

-- ==== the place behind

module _ {A : Type 0} (at e : ℕ) (z : A) (k : ℕ → A) where
  pub past-none : e ≡ at → past at e z k ≡ z
  unfolding past
  past-none i = rw (past, eq-eqb e at i)

  pub past-some : (e ≡ at → ⊥) → past at e z k ≡ k e
  unfolding past
  past-some ne = rw (past, ne_eqb e at ne)

module _ {A : Type 0} (f : Reader) (s : List ℕ) (at e : ℕ) (q : e ≡ at + f (drop at s)) (z : A) (k : ℕ → A) where
  pub behind-none : e ≡ at → behind f s at z k ≡ z
  behind-none i = rw (← q) (past-none at e z k i)

  pub behind-some : (e ≡ at → ⊥) → behind f s at z k ≡ k e
  behind-some ne = rw (← q) (past-some at e z k ne)

-- what holds where nothing is taken, and behind what is taken, holds
pub all-behind : {A : Type 0} (P : A → Type 0) (f : Reader) (s : List ℕ) (at : ℕ) (z : A) (k : ℕ → A) → P z
    → ((e : ℕ) → e ≡ at + f (drop at s) → at < e → P (k e)) → P (behind f s at z k)
all-behind P f s at z k none some = go (f (drop at s)) refl
  where
    go : (n : ℕ) → f (drop at s) ≡ n → P (behind f s at z k)
    go zero i = let b : behind f s at z k ≡ z = behind-none f s at at (omega arith) z k refl in rw b none
    go (suc n) i =
        let b : behind f s at z k ≡ k (at + suc n) = behind-some f s at (at + suc n) (omega arith) z k (λ j. omega arith) in
        rw b (some (at + suc n) (omega arith) (omega arith))

-- ==== a reader and its parser

-- at a place the parser p takes what the reader f takes, with a value that hangs on the place behind it
pub record Reads {A : Type 0} (f : Reader) (p : Parser A) (s : List ℕ) (at : ℕ) (a : ℕ → A) : Type 0 where
  pub there : (e : ℕ) → e ≡ at + f (drop at s) → (e ≡ at → ⊥) → got (a e) e ≡ from p s at
  pub missing : (e : ℕ) → e ≡ at + f (drop at s) → e ≡ at → nothing ≡ from p s at

-- what holds of the answers behind a part, and of none, holds of the answer at the part
pub through : {M A B : Type 0} (R : M → Got B → Type 0) (f : Reader) (p : Parser A) (s : List ℕ) (at : ℕ) (a : ℕ → A) → Reads f p s at a
    → (z : M) (k : ℕ → M) (g : A → Parser B) → R z nothing → ((e : ℕ) → R (k e) (from (g (a e)) s e)) → R (behind f s at z k) (from (◌>>=◌ p g) s at)
through {M} {A} {B} R f p s at a reads z k g none some = go (f (drop at s)) refl
  where
    go : (n : ℕ) → f (drop at s) ≡ n → R (behind f s at z k) (from (◌>>=◌ p g) s at)
    go zero i =
        let b : behind f s at z k ≡ z = behind-none f s at at (omega arith) z k refl in
        let x : nothing ≡ from (◌>>=◌ p g) s at = stops p g s at (reads.missing at (omega arith) refl) in
        rw (b, ← x) none
    go (suc n) i =
        let e = at + suc n in
        let ne : e ≡ at → ⊥ = λ j. omega arith in
        let b : behind f s at z k ≡ k e = behind-some f s at e (omega arith) z k ne in
        let x : from (g (a e)) s e ≡ from (◌>>=◌ p g) s at = goes_on p g s at (a e) e (from (g (a e)) s e) (reads.there e (omega arith) ne) refl in
        rw (b, ← x) (some e)

module _ (s : List ℕ) (at : ℕ) where
  pub gap-reads : Reads space gap s at (λ e. tt)
  gap-reads = record { there = λ e q ne. pass-at space s at e q ne; missing = λ e q z. pass-none space s at e q z }

  pub separator-reads : (c : ℕ) → Reads (separated c) (separator c) s at (λ e. tt)
  unfolding from
  separator-reads c =
      record {
        there = λ e q ne. pass-at (separated c) s at e q ne ∙ ap (after at) (sym (separator-is c (drop at s)));
        missing = λ e q z. pass-none (separated c) s at e q z ∙ ap (after at) (sym (separator-is c (drop at s)));
      }

  pub keyword-reads : Reads keyword read_keyword s at (λ e. keyword_text (span s at e))
  unfolding read_keyword
  keyword-reads =
      record {
        there = λ e q ne. goes_on (text keyword) _ s at (span s at e) e _ (text_at keyword s at e q ne) (gives (keyword_text (span s at e)) s e);
        missing = λ e q z. stops (text keyword) _ s at (text-none keyword s at e q z);
      }

-- ==== inside the slice

pub separated-fits : (c : ℕ) → Fits (separated c)
separated-fits c xs = go (next c (drop (space xs) xs)) refl
  where
    go : (t : Bool) → next c (drop (space xs) xs) ≡ t → separated c xs ≤ length xs
    go true h =
        omega (arith, separated-yes c xs h, next-inside c xs (space xs) h, space-fits (drop (space xs + 1) xs), length-drop (space xs + 1) xs)
    go false h = omega (arith, separated-no c xs h)

-- the place behind what is taken is inside
pub ends-inside : (f : Reader) → Fits f → (s : List ℕ) (at e : ℕ) → e ≡ at + f (drop at s) → at < e → e ≤ length s
ends-inside f F s at e q l = omega (arith, F (drop at s), length-drop at s)

-- so is the place behind a keyword
pub word-inside : (s : List ℕ) (at e : ℕ) → e ≡ at + keyword (drop at s) → (e ≡ at → ⊥) → e ≤ length s
word-inside s at e q ne = ends-inside keyword keyword-fits s at e q (omega arith)
