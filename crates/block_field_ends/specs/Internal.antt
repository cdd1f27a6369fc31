-- What private functions say: no public contract cites these.
use Prim.Native.Char.{code}
use Rattle.std.specs.Prelude.{ℕ, zero, suc, ◌+◌, ◌≡◌, Bool, not, cond, ◌&&◌, ◌||◌, List, eqb, get_or, drop}
use Rattle.std.specs.Bool.{beq}
use Rattle.block_field_ends.specs.Ends.{whole}

-- the first of three bytes in a row can't stand inside a field
unfoldable pub broken : ℕ → ℕ → ℕ → Bool
broken a b c = not (beq (eqb a (code "\r")) (eqb b (code "\n"))) || (eqb b (code "\n") && not (eqb c 32 || eqb c 9))

-- from a place inside a line, the end of a field whose lines are all whole; `none` where a CRLF lacks
unfoldable pub end_or : ℕ → List ℕ → ℕ → ℕ
end_or none s at = elim (whole (drop at s)) [ zero ↦ none | suc n ↦ at + suc n ]

-- from i on a field ends where it ends from j on, or it has no end from either
pub record Leads (s : List ℕ) (i j : ℕ) : Type 0 where
  pub same : (none : ℕ) → end_or none s i ≡ end_or none s j

-- a place, or the one behind it if it is that of an LF
unfoldable pub past_feed : List ℕ → ℕ → ℕ
past_feed s i = cond (eqb (get_or s i 0) (code "\n")) (suc i) i

-- the same from place to place, where one may stand between CR and LF
abbrev pub Onward : List ℕ → ℕ → ℕ → Type 0
Onward s at i = Leads s (past_feed s at) (past_feed s i)
