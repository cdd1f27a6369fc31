-- What private functions say: no public contract cites these.
use Prim.Native.Char.{code}
use Rattle.std.specs.Prelude.{ℕ, ◌+◌, ◌<◌, ◌≡◌, true, false, cond, List, eqb, leb, length, drop, Option, MatchOption}
use Rattle.base_readers.specs.Texts.{starts}
use Rattle.base_readers.specs.Readers.{Reader}
use Rattle.base_readers.specs.Parsers.{Parser, ◌>>=◌, ◌>>◌, give, when, byte, text}
use Rattle.lexis_rules.specs.Pieces.{space, digits, decimal}
use Rattle.lexis_rules.specs.Words.{skip}
use Rattle.arc_rules.specs.Sets.{is_instance}

-- ==== the instance

-- a byte with the space before it
unfoldable pub separated : ℕ → Reader
separated c xs = elim (starts (λ b. eqb b c) (drop (space xs) xs)) [ true ↦ space xs + 1 | false ↦ 0 ]

-- where it ends in a text, from a place on, if it is there
abbrev pub SeparatedAt : ℕ → List ℕ → ℕ → Option ℕ → Type 0
SeparatedAt c s at r = MatchOption r (separated c (drop at s) ≡ 0) (λ (e : ℕ). (e ≡ at + separated c (drop at s)) × (at < e))

-- one or two digits; 0 for more
unfoldable pub worth : List ℕ → ℕ
worth d = cond (leb (length d) 2) (decimal 0 d) 0

-- the instance from its digits on
unfoldable pub numbered : Parser ℕ
numbered = do
  d ← text digits
  when (is_instance d)
  skip
  byte (code ";")
  give (decimal 0 d)
