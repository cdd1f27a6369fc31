-- Document 01, "The chain": tag lists as in DKIM (RFC 6376, 3.2).
use Prim.Native.Char.{code}
use Rattle.std.specs.Prelude.{ℕ, zero, suc, Bool, true, false, not, cond, ◌&&◌, ◌||◌, List, [], ◌∷◌, eqb, get_or, take, drop}
use Rattle.base_readers.specs.Texts.{bytes, same, one_of}
use Rattle.base_readers.specs.Readers.{Reader, run, many}
use Rattle.base_readers.specs.Parsers.{Parser, ◌>>=◌, ◌>>◌, give, end, byte, taken, skipping, text, either, several}
use Rattle.lexis_rules.specs.declared.Class.TheVariants as class
use Rattle.lexis_rules.specs.Bytes.{letter, in_class}
use Rattle.lexis_rules.specs.Pieces.{item, bare_space}

-- ==== one tag

-- Space there is without comments
abbrev pub skip_bare : Parser Unit
skip_bare = skipping bare_space

-- letters, digits or "_"
unfoldable pub in_tag_name : ℕ → Bool
in_tag_name x = letter x || in_class class.Digit x || eqb x (code "_")

-- a tag's name: a letter, then letters, digits or "_"
unfoldable pub tag_name : Reader
tag_name xs = cond (letter (get_or xs 0 0)) (run in_tag_name xs) 0

-- a value may be empty and holds 33 to 126 but ";", 128 up, and such space inside; the space around it is still there
abbrev pub tag_value : Reader
tag_value = many (item class.Tag) 0

-- the bytes of such space
unfoldable pub white : ℕ → Bool
white x = one_of (bytes " \t\r\n") x

-- how many bytes stand up to the last one that isn't space
unfoldable pub solid : List ℕ → ℕ
solid [] = 0
solid (x ∷ xs) = elim (solid xs) [ zero ↦ cond (white x) 0 1 | suc n ↦ suc (suc n) ]

-- a tag's value is taken without the space around it
unfoldable pub trimmed : List ℕ → List ℕ
trimmed v = let w = drop (run white v) v in take (solid w) w

pub record Tag : Type 0 where
  pub name : List ℕ
  pub value : List ℕ

-- name, "=" and value, with space allowed around each; a tag ends with ";" or with the body
unfoldable pub tag : Parser Tag
tag = do
  skip_bare
  n ← text tag_name
  skip_bare
  byte (code "=")
  v ← taken tag_value
  either end (byte (code ";"))
  give (record { name = n; value = trimmed v })

-- ==== tag lists

-- tags and the end. (A last ";" may end the list; space behind it is no tag.)
unfoldable pub tags : Parser (List Tag)
tags = do
  ts ← several tag 0
  end
  give ts

-- names are case-sensitive: a tag of this name is there
unfoldable pub named : List Tag → List ℕ → Bool
named [] n = false
named (t ∷ ts) n = same t.name n || named ts n

-- none twice
unfoldable pub unrepeated : List Tag → Bool
unrepeated [] = true
unrepeated (t ∷ ts) = not (named ts t.name) && unrepeated ts

-- each of these is there
unfoldable pub needs : List (List ℕ) → List Tag → Bool
needs [] ts = true
needs (n ∷ ns) ts = named ts n && needs ns ts

-- the value of the tag of this name; the empty text where there is none
unfoldable pub value_named : List ℕ → List Tag → List ℕ
value_named n [] = []
value_named n (t ∷ ts) = elim (same t.name n) [ true ↦ t.value | false ↦ value_named n ts ]
