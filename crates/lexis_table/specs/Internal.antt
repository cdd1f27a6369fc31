-- How the table (lexis_table) is asked whether a byte is of a class: by the binary digit of the class in the byte's entry. No public contract
-- cites these.
use Rattle.std.specs.Prelude.{ℕ, ◌^◌, Bool, not, eqb}
use Rattle.std.specs.Int.Bits.{bit_and}
use Rattle.lexis_rules.specs.declared.Class.{Class}
use Rattle.lexis_rules.specs.declared.Class.TheVariants.{Blank, Opening, Zero, Digit, Keyword, Token, Quoted, Comment, Escaped, Name, Visible, Delimiter, Tag}
use Rattle.lexis_table.specs.Table.{entry_of}

-- the place of its binary digit, as in `order`
abbrev pub place_of : Class → ℕ
place_of Blank = 0
place_of Opening = 1
place_of Zero = 2
place_of Digit = 3
place_of Keyword = 4
place_of Token = 5
place_of Quoted = 6
place_of Comment = 7
place_of Escaped = 8
place_of Name = 9
place_of Visible = 10
place_of Delimiter = 11
place_of Tag = 12

-- the binary digit of a class, alone
abbrev pub digit_of : Class → ℕ
digit_of c = 2 ^ place_of c

-- the entry of a byte has a binary digit
abbrev pub has_digit : ℕ → ℕ → Bool
has_digit d b = not (eqb (bit_and (entry_of b) d) 0)
