-- The lines of a report in words, stored one after another. The premises are literally what a need is handed.
use Prim.Native.Nat.{ℕ, suc, ◌+◌, ◌-◌, ◌≤◌, ◌<◌, ◌^◌}
use native.Mathlib.Numerals.{add-one}
use native.Mathlib.Omega.{arith}
use mathlib.Core.Path.{◌≡◌, refl, ◌∙◌}
use mathlib.Core.List.{List, [], ◌∷◌}
use lib.ListN.{length, take, drop, length-drop, drop_of_length-le}
use lib.Seq.{take_all}
use Rattle.base_sequences.specs.Stored.{Clipped}
use Rattle.base_sequences.proofs.Clips.{Going, going_step, going_done}
use Rattle.base_readers.specs.Readers.{run}
use Rattle.base_readers.specs.Texts.{bytes}
use Rattle.base_readers.specs.Lines.{lines_of, feedless, until_feed}
use Rattle.base_sequences.specs.Spans.{span}
use Rattle.ownlist_laws.proofs.Ends.{line-inside, lines_at}
use Rattle.explain_rules.specs.Explained.{line_words, ended, lines_words, explained}
use Rattle.explain_columns.specs.Until.{except}

-- ==== the line at a place

-- where the next LF stands, in the words of the laws on lines
feed-at : (s : List ℕ) (at e : ℕ) → e ≡ at + run (except 10) (drop at s) → e ≡ at + until_feed (drop at s)
unfolding feedless
feed-at s at e q = q

module _ (s : List ℕ) (at : ℕ) (h : at < length s) (e : ℕ) (q : e ≡ at + run (except 10) (drop at s)) where
  pub line-to : e ≤ length s
  line-to = (line-inside s at h e (feed-at s at e q)).1

  line_first : lines_of (drop at s) ≡ span s at e ∷ lines_of (drop (suc e) s)
  line_first = lines_at s at h e (feed-at s at e q)

-- ==== the first line

pub nothing-left : (s : List ℕ) → length s ≡ 0 → lines_of s ≡ []
unfolding lines_of
nothing-left [] h = refl
nothing-left (x ∷ xs) h = absurd (omega arith)

module _ (s : List ℕ) (h : length s ≡ 0 → ⊥) (e : ℕ) (q : e ≡ 0 + run (except 10) (drop 0 s)) where
  some_bytes : 0 < length s
  some_bytes = omega (arith, h)

  first : lines_of s ≡ take e s ∷ lines_of (drop (suc e) s)
  first = let z : e - 0 ≡ e = omega arith in line_first s 0 some_bytes e q ∙ rw z

  -- a line that LF ends
  pub line-ended : e < length s → lines_of s ≡ take e s ∷ lines_of (take (length s - (e + 1)) (drop (e + 1) s))
  line-ended k =
      let z : take (length s - (e + 1)) (drop (e + 1) s) ≡ drop (e + 1) s = take_all (length s - (e + 1)) (drop (e + 1) s) (omega (arith, length-drop (e + 1) s)) in
      rw (z, add-one e) first

  -- the last line, without one
  pub line-unended : length s ≤ e → lines_of s ≡ s ∷ lines_of []
  line-unended k = let z : drop (suc e) s ≡ [] = drop_of_length-le s {i = suc e} (omega arith) in first ∙ rw (take_all e s k, z)

-- ==== all lines

module _ (old s out rest : List ℕ) (to n : ℕ) (g : Going old to (lines_words (lines_of s)) out n (lines_words (lines_of rest))) where
  pub lines_more : length old < 2 ^ 64 → (line behind : List ℕ) → lines_of rest ≡ line ∷ lines_of behind → (o : List ℕ) (a : ℕ) → Clipped out n (line_words line) o a
      → (o' : List ℕ) (n' : ℕ) → Clipped o a (ended (lines_of behind)) o' n' → Going old to (lines_words (lines_of s)) o' n' (lines_words (lines_of behind))
  unfolding lines_words
  lines_more l line behind t o a v o' n' w = going_step (omega arith) (going_step (omega arith) g (rw t) v) refl w

  pub lines-done : lines_of rest ≡ [] → Clipped old to (lines_words (lines_of s)) out n
  unfolding lines_words
  lines-done h = going_done g (rw h)

-- ==== the whole text

pub none-put : (l old : List ℕ) (to : ℕ) (new : List ℕ) (r : ℕ) → length l ≡ 0 → Clipped old to (bytes "There is no Authentication-Results field.\n") new r
    → Clipped old to (explained l) new r
unfolding explained
none-put [] old to new r h w = w
none-put (x ∷ xs) old to new r h w = absurd (omega arith)

pub lines-put : (l old : List ℕ) (to : ℕ) (new : List ℕ) (r : ℕ) → (length l ≡ 0 → ⊥) → Clipped old to (lines_words (lines_of l)) new r
    → Clipped old to (explained l) new r
unfolding explained
lines-put [] old to new r h w = absurd (h refl)
lines-put (x ∷ xs) old to new r h w = w
