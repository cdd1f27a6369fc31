-- What private functions say: no public contract cites these.
use Rattle.std.specs.Prelude.{ℕ, ◌≡◌, Bool, true, false, cond, List, eqb, length, Option, Some, None, Result, MatchResult}
use Rattle.base_sequences.specs.Stored.{Clipped}
use Rattle.base_readers.specs.Walks.{Walked}
use Rattle.write_rules.specs.Entries.{Entry}
use Rattle.write_rules.specs.Bodies.{body_of}
use Rattle.write.specs.declared.State.{State}
use Rattle.write.specs.declared.State.TheVariants.{Front, Named, Closed, Stated, Detailed}

-- what stands before the next line, by the first byte of this one
abbrev pub next_of : State → ℕ → Option State
next_of Front b = cond (eqb b 105) (Some Named) None
next_of Named b = cond (eqb b 110) (Some Closed) (cond (eqb b 109) (Some Stated) None)
next_of Closed b = None
next_of Stated b = cond (eqb b 109) (Some Stated) (cond (eqb b 105) None (cond (eqb b 110) None (Some Detailed)))
next_of Detailed b = cond (eqb b 109) (Some Stated) (cond (eqb b 105) None (cond (eqb b 110) None (cond (eqb b 114) None (Some Detailed))))

-- the lines may end here
abbrev pub is_final : State → Bool
is_final Front = false
is_final Named = false
is_final Closed = true
is_final Stated = true
is_final Detailed = true

-- what is written of lines that end well, up to a place
pub record LinesWritten (w : Walked Entry) (old new : List ℕ) (to : ℕ) : Type 0 where
  pub number : w.number ≡ 0
  pub place : w.place ≡ 0
  pub long : length new ≡ length old
  pub put : Clipped old 0 (body_of w.items) new to

-- that a line can't go on, by its number
pub record LinesRefused (w : Walked Entry) (old new : List ℕ) (n : ℕ) : Type 0 where
  pub number : w.number ≡ 11
  pub place : w.place ≡ n
  pub long : length new ≡ length old

abbrev pub LinesPut : Walked Entry → List ℕ → List ℕ → Result ℕ ℕ → Type 0
LinesPut w old new r = MatchResult r (LinesWritten w old new) (LinesRefused w old new)
