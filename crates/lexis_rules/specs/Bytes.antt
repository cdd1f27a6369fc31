-- Classes of bytes.
use Prim.Native.Char.{code}
use Rattle.std.specs.Prelude.{ℕ, ◌+◌, Bool, not, cond, ◌&&◌, ◌||◌, List, map, leb, eqb}
use Rattle.base_readers.specs.Texts.{bytes, within, one_of, same}
use Rattle.lexis_rules.specs.declared.Class.{Class}
use Rattle.lexis_rules.specs.declared.Class.TheVariants.{Blank, Opening, Zero, Digit, Keyword, Token, Quoted, Comment, Escaped, Name, Visible, Delimiter, Tag}

-- a letter
unfoldable pub letter : ℕ → Bool
letter x = within (code "A") (code "Z") x || within (code "a") (code "z") x

unfoldable pub in_class : Class → ℕ → Bool
-- space, tab
in_class Blank x = one_of (bytes " \t") x
-- the bytes with which a space (CFWS) can start: space, tab, CR, "("
in_class Opening x = one_of (bytes " \t\r(") x
-- the digit that doesn't count in front of others
in_class Zero x = eqb x (code "0")
in_class Digit x = within (code "0") (code "9") x
-- 01, Small pieces: Keyword: letters, digits and hyphens
in_class Keyword x = letter x || within (code "0") (code "9") x || eqb x (code "-")
-- 01, Small pieces: Token: 33 to 126 except ( ) < > @ , ; : \ " / [ ] ? =
in_class Token x = within 33 126 x && not (one_of (bytes "()<>@,;:\\\"/[]?=") x)
-- 01, Small pieces: Quoted: bytes 32 to 126 but quote and backslash, tab, bytes from 128 up
in_class Quoted x = within 32 126 x && not (one_of (bytes "\"\\") x) || eqb x (code "\t") || leb 128 x
-- 01, Small pieces: Comment: bytes 33 to 126 except "(", ")" and backslash, bytes from 128 up, space, tab
in_class Comment x = within 33 126 x && not (one_of (bytes "()\\") x) || leb 128 x || one_of (bytes " \t") x
-- 01, Small pieces: (backslash with) one of 32 to 126 or tab
in_class Escaped x = within 32 126 x || eqb x (code "\t")
-- 01, Block and list: (the name of a field) bytes 33 to 126 except colon
in_class Name x = within 33 126 x && not (eqb x (code ":"))
-- 01, Block and list: (entries of) bytes 33 to 126
in_class Visible x = within 33 126 x
-- 01, Identifier and header version: one of space, tab, CR, "(" or ";"
in_class Delimiter x = one_of (bytes " \t\r(;") x
-- 01, The chain: (a tag's value) 33 to 126 but ";", 128 up, and space inside: its blanks
in_class Tag x = within 33 126 x && not (eqb x (code ";")) || leb 128 x || one_of (bytes " \t") x

-- the small letter of a capital, and any other byte itself
unfoldable pub lower : ℕ → ℕ
lower x = cond (within (code "A") (code "Z") x) (x + 32) x

-- 01, Small pieces: texts compare without case
unfoldable pub alike : List ℕ → List ℕ → Bool
alike a b = same (map lower a) (map lower b)
