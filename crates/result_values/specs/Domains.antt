-- What the steps of a domain and of a local part say.
use Prim.Native.Char.{code}
use Rattle.std.specs.Prelude.{ℕ, Bool, not, cond, ◌&&◌, ◌||◌, eqb, ltb}
use Rattle.lexis_classes.specs.Internal.{bits_of}
use Rattle.result_rules.specs.Results.{alphanumeric, in_local_part}

-- ==== what private functions say of their answers: no public contract cites these

-- how the code keeps the bytes of local parts: a binary digit for each, the lowest first, 64 bytes to a word
abbrev pub local_word : ℕ → ℕ
local_word b = cond (ltb b 64) (bits_of in_local_part 0 64) (cond (ltb b 128) (bits_of in_local_part 64 64) 0)

-- a byte may follow another one in labels parted by dots
unfoldable pub goes_on : ℕ → ℕ → Bool
goes_on b x = alphanumeric x || eqb x (code ".") && alphanumeric b || eqb x (code "-") && not (eqb b (code "."))

-- where a domain that started at a place ends: at e, if a dot was passed and the last byte may end a label; else there is none
abbrev pub closed_at : Bool → ℕ → ℕ → ℕ → ℕ
closed_at parted last at e = cond (parted && alphanumeric last) e at
