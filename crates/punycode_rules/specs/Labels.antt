-- 02, ticket [2]: texts with their A-labels as U-labels (RFC 8601, section 5; RFC 5890, section 2.3.2.1).
use Prim.Native.Char.{code}
use Rattle.std.specs.Prelude.{ℕ, Bool, true, false, not, ◌&&◌, ◌||◌, List, [], ◌∷◌, ◌++◌, map, eqb, get_or, drop}
use Rattle.std.proofs.Math.Option.{Option, none, some}
use Rattle.base_readers.specs.Lines.{on_first}
use Rattle.base_readers.specs.Texts.{bytes, one_of}
use Rattle.punycode_rules.specs.Punycode.{punycode}
use Rattle.punycode_rules.specs.Unicode.{scalars, utf8s}

-- 02, ticket [2]: a label that doesn't decode, or decodes to a surrogate or to a number above 10FFFF hex, has none
unfoldable pub kept : Option (List ℕ) → Option (List ℕ)
kept none = none
kept (some u) = elim (scalars u) [ true ↦ some u | false ↦ none ]

-- the code points of a label, by what stands behind its prefix
unfoldable pub decoded : List ℕ → Option (List ℕ)
decoded xs = kept (punycode xs)

-- 02, ticket [2]: labels that start with xn--; the prefix is found in either case
unfoldable pub prefixed : List ℕ → Bool
prefixed l = one_of (bytes "xX") (get_or l 0 0) && one_of (bytes "nN") (get_or l 1 0) && eqb (get_or l 2 0) (code "-") && eqb (get_or l 3 0) (code "-")

-- 02, ticket [2]: a label as it is compared: such a label's code points, in UTF-8; one that has none is compared as it stands, and so is any
-- other label
unfoldable pub spelled : List ℕ → List ℕ
spelled l = elim (prefixed l) [ true ↦ (elim (decoded (drop 4 l)) [ none ↦ l | some u ↦ utf8s u ]) | false ↦ l ]

-- the bytes of a label: all but "."
unfoldable pub in_label : ℕ → Bool
in_label x = not (eqb x (code "."))

-- the labels of a text, parted by "." before anything is decoded
unfoldable pub labels : List ℕ → List (List ℕ)
labels [] = [] ∷ []
labels (x ∷ xs) = elim (eqb x (code ".")) [ true ↦ [] ∷ labels xs | false ↦ on_first x (labels xs) ]

-- labels with "." between them
unfoldable pub joined : List (List ℕ) → List ℕ
joined [] = []
joined (l ∷ ls) = elim ls [ [] ↦ l | m ∷ ms ↦ l ++ (code "." ∷ joined ls) ]

-- the text as it is compared: each label of it
unfoldable pub spelling : List ℕ → List ℕ
spelling t = joined (map spelled (labels t))

-- one of the labels starts with xn--
unfoldable pub any_prefixed : List (List ℕ) → Bool
any_prefixed [] = false
any_prefixed (l ∷ ls) = prefixed l || any_prefixed ls

-- the most bytes that the spelling of an entry of our own list can have: the entry has 255 at most (01, What the library is handed), and a
-- spelling is at most four times as long as its text (`spelling-length` in punycode_laws/proofs/SpellingTheorems.antt). A longer spelling equals none of them
abbrev pub spelling_limit : ℕ
spelling_limit = 1020

-- two hyphens, one after the other: a text without them has no label that starts with xn--
unfoldable pub double_hyphen : List ℕ → Bool
double_hyphen [] = false
double_hyphen (x ∷ xs) = (eqb x (code "-") && eqb (get_or xs 0 0) (code "-")) || double_hyphen xs
