-- RFC 3629, section 4: the byte sequences of UTF-8, from 128 up.
use Rattle.std.specs.Prelude.{ℕ, Bool, true, false, cond, ◌&&◌, ◌||◌, List, leb, eqb, get_or}
use Rattle.base_readers.specs.Texts.{within}
use Rattle.base_readers.specs.Readers.{Reader}

-- how many bytes a sequence has that starts with a byte: 0 where none does
unfoldable pub lead : ℕ → ℕ
lead a = cond (within 0xC2 0xDF a) 2 (cond (within 0xE0 0xEF a) 3 (cond (within 0xF0 0xF4 a) 4 0))

-- UTF8-tail
abbrev pub tail : ℕ → Bool
tail = within 0x80 0xBF

-- the second byte: the first one decides which there may be, so that no number is written with more bytes than it needs, none is a surrogate
-- and none is above 10FFFF
unfoldable pub second : ℕ → ℕ → Bool
second a b =
    elim (eqb a 0xE0) [
      | true ↦ within 0xA0 0xBF b
      | false ↦ (elim (eqb a 0xED) [
        | true ↦ within 0x80 0x9F b
        | false ↦ (elim (eqb a 0xF0) [
          | true ↦ within 0x90 0xBF b
          | false ↦ (elim (eqb a 0xF4) [ true ↦ within 0x80 0x8F b | false ↦ tail b ])
        ])
      ])
    ]

-- the third and the fourth byte, in a sequence that has so many
unfoldable pub further : ℕ → List ℕ → Bool
further n xs = (leb n 2 || tail (get_or xs 2 0)) && (leb n 3 || tail (get_or xs 3 0))

-- UTF8-2, UTF8-3 and UTF8-4: how many bytes the sequence at the front has; 0 where there is none
unfoldable pub sequence : Reader
sequence xs = cond (second (get_or xs 0 0) (get_or xs 1 0) && further (lead (get_or xs 0 0)) xs) (lead (get_or xs 0 0)) 0
