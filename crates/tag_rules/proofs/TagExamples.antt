-- Tags and tag lists at worked examples, computed: which bytes a name and a value hold, what a tag says, and where a list ends.
use Prim.Native.Nat.{ℕ, zero, suc}
use mathlib.Core.Path.{◌≡◌, refl}
use mathlib.Core.Bool.{Bool, true, false}
use mathlib.Core.List.{List, [], ◌∷◌, ◌++◌, map}
use lib.Dec.{eqb}
use Rattle.base_readers.specs.Texts.{bytes}
use Rattle.base_readers.specs.Parsers.{Got, nothing, got}
use Rattle.base_readers.proofs.Cases.{case, Says}
use Rattle.tag_rules.specs.Tags.{tag_name, tag_value, white, trimmed, Tag, tag, tags, named, unrepeated, needs, value_named}
use Rattle.tag_rules.proofs.Unfolding.{opened}

-- ==== bytes

-- of the n numbers from x on, those that pass a test
abbrev chosen : (ℕ → Bool) → ℕ → ℕ → List ℕ
chosen p zero x = []
chosen p (suc n) x = elim (p x) [ true ↦ x ∷ chosen p n (suc x) | false ↦ chosen p n (suc x) ]

-- all bytes that pass a test
abbrev all_bytes : (ℕ → Bool) → List ℕ
all_bytes p = chosen p 256 0

-- the n numbers from x on
abbrev numbers : ℕ → ℕ → List ℕ
numbers zero x = []
numbers (suc n) x = x ∷ numbers n (suc x)

-- RFC 6376, 3.2: the first byte of a tag's name is a letter
first-bytes : all_bytes (λ x. eqb (tag_name (x ∷ [])) 1) ≡ bytes "ABCDEFGHIJKLMNOPQRSTUVWXYZabcdefghijklmnopqrstuvwxyz"
unfolding opened
first-bytes = refl

-- RFC 6376, 3.2: the others are letters, digits or "_"
name-bytes : all_bytes (λ x. eqb (tag_name (97 ∷ x ∷ [])) 2) ≡ bytes "0123456789ABCDEFGHIJKLMNOPQRSTUVWXYZ_abcdefghijklmnopqrstuvwxyz"
unfolding opened
name-bytes = refl

-- 01, The chain: a value holds 33 to 126 but ";", 128 up, and such space inside: its blanks
value-bytes : all_bytes (λ x. eqb (tag_value (x ∷ [])) 1) ≡ 9 ∷ (numbers 27 32 ++ (numbers 67 60 ++ numbers 128 128))
unfolding opened
value-bytes = refl

-- .. and CRLF followed by space or tab; a backslash is a byte like the others
values :
    Says tag_value
    (case [] 0
    ∷ case (bytes "a b\tc;d") 5
    ∷ case (bytes "\r\n a\r\n\t;") 7
    ∷ case (bytes "a\r\nb") 1
    ∷ case (bytes "a\rb") 1
    ∷ case (bytes "a\nb") 1
    ∷ case (bytes "a=(c)\\;") 6
    ∷ [])
unfolding opened
values = refl

-- the bytes of such space: tab, LF, CR, space
white-bytes : all_bytes white ≡ 9 ∷ 10 ∷ 13 ∷ 32 ∷ []
unfolding opened
white-bytes = refl

-- a tag's value is taken without the space around it; what stands inside stays
trims :
    Says trimmed
    (case [] []
    ∷ case (bytes " \t") []
    ∷ case (bytes "a") (bytes "a")
    ∷ case (bytes " \r\n\ta \r\n b\t\r\n ") (bytes "a \r\n b")
    ∷ [])
unfolding opened
trims = refl

-- ==== tags

abbrev says : List ℕ → List ℕ → ℕ → Got Tag
says n v k = got (record { name = n; value = v }) k

-- 01, The chain: name, "=" and value, space without comments around each; a value may be empty; ";" or the end behind it
one_tag :
    Says tag
    (case (bytes "a=b") (says (bytes "a") (bytes "b") 3)
    ∷ case (bytes "a=;") (says (bytes "a") [] 3)
    ∷ case (bytes "a=") (says (bytes "a") [] 2)
    ∷ case (bytes " \r\n\ta_1\t = \r\n b c ; d=") (says (bytes "a_1") (bytes "b c") 19)
    ∷ case (bytes "A=B=;") (says (bytes "A") (bytes "B=") 5)
    ∷ case (bytes "a=(c);") (says (bytes "a") (bytes "(c)") 6)
    ∷ case (bytes "(c)a=b") nothing
    ∷ case (bytes "a(c)=b") nothing
    ∷ case (bytes "=b") nothing
    ∷ case (bytes "a") nothing
    ∷ case (bytes "a;") nothing
    ∷ case (bytes "a b=") nothing
    ∷ case (bytes "a=b\r") nothing
    ∷ case (bytes "1a=") nothing
    ∷ case (bytes "_a=") nothing
    ∷ [])
unfolding opened
one_tag = refl

-- the names of a list's tags in order, and how many bytes are read; nothing where it isn't read to its end
abbrev listed : Got (List Tag) → List (List ℕ)
listed nothing = []
listed (got ts n) = (n ∷ []) ∷ map (λ (t : Tag). t.name) ts

-- RFC 6376, 3.2: tags and the end. A last ";" may end the list; space behind it, or another ";", is no tag
lists :
    Says (λ xs. listed (tags xs))
    (case [] ((0 ∷ []) ∷ [])
    ∷ case (bytes "a=;b=") ((5 ∷ []) ∷ bytes "a" ∷ bytes "b" ∷ [])
    ∷ case (bytes "b=; a=;") ((7 ∷ []) ∷ bytes "b" ∷ bytes "a" ∷ [])
    ∷ case (bytes "a=; ") []
    ∷ case (bytes "a=;;") []
    ∷ case (bytes ";") []
    ∷ case (bytes " ") []
    ∷ case (bytes "a=;b") []
    ∷ case (bytes "a=\r\n") []
    ∷ [])
unfolding opened
lists = refl

-- ==== names

abbrev some : List Tag
some = record { name = bytes "b"; value = bytes "x" } ∷ record { name = bytes "bh"; value = bytes "y" } ∷ record { name = bytes "B"; value = bytes "z" } ∷ []

-- 01, The chain: names are case-sensitive
names : Says (named some) (case (bytes "b") true ∷ case (bytes "bh") true ∷ case (bytes "B") true ∷ case (bytes "BH") false ∷ case (bytes "bhb") false ∷ case [] false ∷ [])
unfolding opened
names = refl

-- 01, The chain: none twice, side by side or not
abbrev again : List ℕ → Tag
again n = record { name = n; value = [] }

repeats :
    map unrepeated ([] ∷ some ∷ (again (bytes "b") ∷ some) ∷ (again (bytes "B") ∷ some) ∷ (again (bytes "bH") ∷ some) ∷ (some ++ (again (bytes "bh") ∷ [])) ∷ [])
    ≡ true ∷ true ∷ false ∷ false ∷ true ∷ false ∷ []
unfolding opened
repeats = refl

-- each of the needed names is there
needed :
    map (λ (ns : List (List ℕ)). needs ns some) ([] ∷ (bytes "B" ∷ bytes "b" ∷ []) ∷ (bytes "b" ∷ bytes "c" ∷ []) ∷ (bytes "c" ∷ bytes "b" ∷ []) ∷ [])
    ≡ true ∷ true ∷ false ∷ false ∷ []
unfolding opened
needed = refl

value_of : Says (λ n. value_named n some) (case (bytes "b") (bytes "x") ∷ case (bytes "bh") (bytes "y") ∷ case (bytes "B") (bytes "z") ∷ case (bytes "c") [] ∷ [])
unfolding opened
value_of = refl
