-- Each class of bytes as the list of all bytes in it, and the limits as numbers, computed.
use Prim.Native.Nat.{ℕ, zero, suc, ◌+◌, ◌-◌}
use mathlib.Core.Path.{◌≡◌, refl}
use mathlib.Core.Bool.{Bool, true, false}
use mathlib.Core.List.{List, [], ◌∷◌, ◌++◌, map}
use Rattle.base_readers.specs.Texts.{bytes}
use Rattle.lexis_rules.specs.declared.Class.TheVariants.{Blank, Opening, Zero, Digit, Keyword, Token, Quoted, Comment, Escaped, Name, Visible, Delimiter, Tag}
use Rattle.lexis_rules.specs.Limits.{byte_limit, depth_limit}
use Rattle.lexis_rules.specs.Bytes.{in_class, letter, lower}
use Rattle.lexis_rules.proofs.Examples.{opened}

-- n numbers from a on
abbrev pub counting : ℕ → ℕ → List ℕ
counting zero a = []
counting (suc n) a = a ∷ counting n (suc a)

-- the numbers from a to b
abbrev pub range : ℕ → ℕ → List ℕ
range a b = counting (b + 1 - a) a

-- those of a list that pass a test, in order
abbrev pub select : {A : Type 0} → (A → Bool) → List A → List A
select p [] = []
select p (x ∷ xs) = elim (p x) [ true ↦ x ∷ select p xs | false ↦ select p xs ]

-- all bytes of a class
abbrev pub members : (ℕ → Bool) → List ℕ
members c = select c (range 0 255)

abbrev pub figures : List ℕ
figures = bytes "0123456789"

abbrev pub capitals : List ℕ
capitals = bytes "ABCDEFGHIJKLMNOPQRSTUVWXYZ"

abbrev pub smalls : List ℕ
smalls = bytes "abcdefghijklmnopqrstuvwxyz"

letters : members letter ≡ capitals ++ smalls
unfolding opened
letters = refl

-- 01, Block and list: space or tab
blanks : members (in_class Blank) ≡ bytes "\t "
unfolding opened
blanks = refl

-- 01, Small pieces: Space (CFWS) starts with space, tab, CRLF or a comment
openings : members (in_class Opening) ≡ bytes "\t\r ("
unfolding opened
openings = refl

-- 01, Identifier and header version: leading zeros
zeros : members (in_class Zero) ≡ bytes "0"
unfolding opened
zeros = refl

-- 01, Small pieces: digit run
digits : members (in_class Digit) ≡ figures
unfolding opened
digits = refl

-- 01, Small pieces: Keyword
keywords : members (in_class Keyword) ≡ bytes "-" ++ figures ++ capitals ++ smalls
unfolding opened
keywords = refl

-- 01, Small pieces: Token
tokens : members (in_class Token) ≡ bytes "!#$%&'*+-." ++ figures ++ capitals ++ bytes "^_`" ++ smalls ++ bytes "{|}~"
unfolding opened
tokens = refl

-- 01, Small pieces: Quoted: all but the other control bytes, quote (34), backslash (92) and DEL (127)
quoteds : members (in_class Quoted) ≡ bytes "\t !" ++ range 35 91 ++ range 93 126 ++ range 128 255
unfolding opened
quoteds = refl

-- 01, Small pieces: Comment: all but the other control bytes, brackets (40, 41), backslash (92) and DEL (127)
comments : members (in_class Comment) ≡ bytes "\t " ++ range 33 39 ++ range 42 91 ++ range 93 126 ++ range 128 255
unfolding opened
comments = refl

-- 01, Small pieces: backslash with one of 32 to 126 or tab
escapeds : members (in_class Escaped) ≡ bytes "\t" ++ range 32 126
unfolding opened
escapeds = refl

-- 01, Block and list: the name of a field, without colon (58)
names : members (in_class Name) ≡ range 33 57 ++ range 59 126
unfolding opened
names = refl

-- 01, Block and list: entries of bytes 33 to 126
visibles : members (in_class Visible) ≡ range 33 126
unfolding opened
visibles = refl

-- 01, Identifier and header version: what may follow
delimiters : members (in_class Delimiter) ≡ bytes "\t\r (;"
unfolding opened
delimiters = refl

-- 01, The chain: a tag's value, without ";" (59), with blanks
tags : members (in_class Tag) ≡ bytes "\t " ++ range 33 58 ++ range 60 126 ++ range 128 255
unfolding opened
tags = refl

-- 01, Small pieces: ASCII case: the small letters in place of the capitals (65 to 90), and every other byte as it is
lowers : map lower (range 0 255) ≡ range 0 64 ++ smalls ++ range 91 255
unfolding opened
lowers = refl

-- 01, What the library is handed: block or field body 65,536 bytes; comments nested 16 deep
limits : byte_limit ∷ depth_limit ∷ [] ≡ 65536 ∷ 16 ∷ []
limits = refl
