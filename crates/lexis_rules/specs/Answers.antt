-- What the code's answers say.
use Prim.Native.Char.{code}
use Rattle.std.specs.Prelude.{ℕ, zero, suc, ◌+◌, ◌-◌, true, false, List, eqb, get_or, take, drop}
use Rattle.base_readers.specs.Parsers.{Got, nothing, got}
use Rattle.lexis_rules.specs.declared.Value.{Value}
use Rattle.lexis_rules.specs.declared.Value.TheVariants.{Token, Quoted, Nothing}
use Rattle.lexis_rules.specs.declared.Digits.{Digits}
use Rattle.lexis_rules.specs.Pieces.{token, quoted, digits, leading}
use Rattle.lexis_rules.specs.Numbers.{number_of}
use Rattle.lexis_rules.specs.Words.{quoted_text}

-- the value at a place, from its first byte up to the place after its last
unfoldable pub value_at : List ℕ → ℕ → Value
value_at s at =
    elim (eqb (get_or (drop at s) 0 0) (code "\"")) [
      | true ↦ (elim (quoted (drop at s)) [ zero ↦ Nothing | suc n ↦ Quoted at (at + suc n) ])
      | false ↦ (elim (token (drop at s)) [ zero ↦ Nothing | suc n ↦ Token at (at + suc n) ])
    ]

-- the text of a value that was found, and the place after it
abbrev pub value_got : List ℕ → Value → Got (List ℕ)
value_got s (Token a e) = got (take (e - a) (drop a s)) e
value_got s (Quoted a e) = got (quoted_text (drop a s)) e
value_got s Nothing = nothing

-- the digit run at a place: its first digit that counts, the place after it, and its number
unfoldable pub digits_at : List ℕ → ℕ → Digits
digits_at s at = record { start = at + leading (drop at s); end = at + digits (drop at s); number = number_of (drop at s) }
