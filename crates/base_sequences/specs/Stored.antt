-- Text stored in a lent buffer.
use Rattle.std.specs.Prelude.{ℕ, ◌+◌, min, ◌≡◌, List, length}
use Rattle.std.proofs.lemmas.List.Edits.{sets}

-- `text` is stored in `old` from `at` on, as far as there is room (`sets` stores nothing past the end): the buffer holds `new`, and
-- `next` is the place after the whole text
pub record Wrote (old : List ℕ) (at : ℕ) (text new : List ℕ) (next : ℕ) : Type 0 where
  pub place : next ≡ at + length text
  pub bytes : new ≡ sets old at text

-- the same for a function that returns the length of the whole text, which no place can make overflow
pub record Put (old : List ℕ) (at : ℕ) (text new : List ℕ) (size : ℕ) : Type 0 where
  pub count : size ≡ length text
  pub bytes : new ≡ sets old at text

-- the largest place that a number of the machine can be: no buffer reaches it
abbrev pub cap : ℕ
cap = 18446744073709551615

-- the same for a function that returns the place after the whole text, which stops at the largest place
pub record Clipped (old : List ℕ) (at : ℕ) (text new : List ℕ) (next : ℕ) : Type 0 where
  pub place : next ≡ min (at + length text) cap
  pub bytes : new ≡ sets old at text
