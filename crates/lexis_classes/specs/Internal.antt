-- How the code keeps a class: a binary digit for each byte. No public contract cites these but that of `lexis_table::table::entry`, in
-- which `bits_of` stands.
use Rattle.std.specs.Prelude.{ℕ, zero, suc, ◌+◌, ◌*◌, Bool, true, false, cond, ltb}
use Rattle.lexis_rules.specs.declared.Class.{Class}
use Rattle.lexis_classes.specs.declared.classes.Rows.{Rows}
use Rattle.lexis_rules.specs.Bytes.{in_class}

abbrev pub bit : Bool → ℕ
bit true = 1
bit false = 0

-- the number whose binary digits, the lowest first, say which of the n bytes from i on are of the class
unfoldable pub bits_of : (ℕ → Bool) → ℕ → ℕ → ℕ
bits_of c i zero = 0
bits_of c i (suc n) = bit (c i) + 2 * bits_of c (suc i) n

-- 64 bytes to a word
abbrev pub rows_of : Class → Rows
rows_of c = (bits_of (in_class c) 0 64, bits_of (in_class c) 64 64, bits_of (in_class c) 128 64, bits_of (in_class c) 192 64)

-- the word that has the byte
abbrev pub word_of : Rows → ℕ → ℕ
word_of r b = cond (ltb b 64) r.0 (cond (ltb b 128) r.1 (cond (ltb b 192) r.2 r.3))
