-- Identifiers, their equality and header versions at worked examples, computed.
use Prim.Native.Nat.{ℕ}
use mathlib.Core.Path.{◌≡◌, refl}
use mathlib.Core.Bool.{Bool, true, false}
use mathlib.Core.List.{List, [], ◌∷◌, ◌++◌, map}
use mathlib.Core.Option.{none, some}
use lib.Dec.{eqb}
use Rattle.base_readers.specs.Texts.{bytes}
use Rattle.base_readers.specs.Parsers.{nothing, got, optional}
use Rattle.base_readers.proofs.Cases.{case, Says}
use Rattle.lexis_rules.proofs.ClassExamples.{range, members, figures, capitals, smalls}
use Rattle.identifier_rules.specs.Identifier.{identifier_byte, identifier, same_identifier}
use Rattle.identifier_rules.specs.Version.{stated, header_version}
use Rattle.identifier_rules.proofs.Unfolding.{opened}

-- 01, Samples on each side, and what was decided where it leaves a choice
identifiers :
    Says identifier
    (case [] nothing
    ∷ case (bytes "example.com") (got (bytes "example.com") 11)
    ∷ case (bytes "example.com/x; none") nothing
    ∷ case (bytes "(x)a;none") (got (bytes "a") 4)
    ∷ case (bytes " \r\n\ta.b 1") (got (bytes "a.b") 7)
    ∷ case (bytes " \"a \\b\";") (got (bytes "a b") 7)
    ∷ case (bytes "\"\"") (got [] 2)
    ∷ case (bytes "\"a") nothing
    ∷ case (bytes "\"a\"x") nothing
    ∷ case (bytes "(a") nothing
    ∷ case (bytes "a(b") (got (bytes "a") 1)
    ∷ case (bytes "a\rb") (got (bytes "a") 1)
    ∷ case (bytes "a\n") nothing
    ∷ case (bytes " ") nothing
    ∷ case (bytes ";") nothing
    ∷ case (bytes "a@b") nothing
    ∷ case (bytes "A-b_c.D\t") (got (bytes "A-b_c.D") 7)
    ∷ case (bytes "(a)(b)\t\"\r\n \\\"é\"") (got (bytes " \"é") 15)
    ∷ [])
unfolding opened
identifiers = refl

-- 02, ticket [2]: its token may hold bytes from 128 up, also what is no UTF-8
high-identifiers :
    Says identifier
    (case (bytes "b" ++ (195 ∷ 188 ∷ bytes "cher;")) (got (bytes "b" ++ (195 ∷ 188 ∷ bytes "cher")) 7)
    ∷ case (128 ∷ bytes " 1") (got (128 ∷ []) 1)
    ∷ case (255 ∷ bytes "(a)") (got (255 ∷ []) 1)
    ∷ case (bytes "a" ++ (237 ∷ 160 ∷ 128 ∷ bytes "/b")) nothing
    ∷ [])
unfolding opened
high-identifiers = refl

-- 01, Identifier and header version: after space that isn't empty, a digit run; leading zeros don't count
versions :
    Says (optional stated)
    (case (bytes " 2 ;;;") (got (some (bytes "2")) 2)
    ∷ case (bytes " 01; none") (got (some (bytes "1")) 3)
    ∷ case (bytes "(v) 000") (got (some (bytes "0")) 7)
    ∷ case (bytes "\r\n\t12x") (got (some (bytes "12")) 5)
    ∷ case (bytes " 010") (got (some (bytes "10")) 4)
    ∷ case (bytes " ") (got none 0)
    ∷ case (bytes " -1") (got none 0)
    ∷ case (bytes "2") (got none 0)
    ∷ case (bytes " x") (got none 0)
    ∷ case (bytes "; none") (got none 0)
    ∷ [])
unfolding opened
versions = refl

-- 01, Identifier and header version: absent means 1
header_versions : map header_version (none ∷ some (bytes "2") ∷ []) ≡ bytes "1" ∷ bytes "2" ∷ []
unfolding opened
header_versions = refl

-- 01, Identifier and header version: equal but for ASCII case
equals : Says (same_identifier (bytes "Example.COM")) (case (bytes "example.com") true ∷ case (bytes "example.net") false ∷ case (bytes "example.com.") false ∷ [])
unfolding opened
equals = refl

-- 02, ticket [2]: A-labels and U-labels, in any case and at any place; ASCII case alone is folded, also behind the decoding
abbrev umlaut : List ℕ
umlaut = bytes "b" ++ (195 ∷ 188 ∷ bytes "cher")

label-equals :
    Says (same_identifier (bytes "xn--bcher-kva.Example"))
    (case (umlaut ++ bytes ".example") true
    ∷ case (bytes "B" ++ (195 ∷ 188 ∷ bytes "CHER.EXAMPLE")) true
    ∷ case (bytes "Xn--Bcher-KVA.example") true
    ∷ case (bytes "b" ++ (195 ∷ 156 ∷ bytes "cher.example")) false
    ∷ case (bytes "bu" ++ (204 ∷ 136 ∷ bytes "cher.example")) false
    ∷ case (bytes "b" ++ (252 ∷ bytes "cher.example")) false
    ∷ case (bytes "bcher-kva.example") false
    ∷ case (bytes "xn--bcher-kvb.example") false
    ∷ [])
unfolding opened
label-equals = refl

later-equals :
    Says (same_identifier (umlaut ++ bytes ".mail." ++ umlaut))
    (case (bytes "xn--bcher-kva.mail.xn--bcher-kva") true ∷ case (umlaut ++ bytes ".mail.xn--bcher-kva") true ∷ case (bytes "xn--bcher-kva.mail.bcher") false ∷ [])
unfolding opened
later-equals = refl

-- a label that doesn't decode is compared as it stands; one is decoded once; nothing behind xn-- is the empty label
other-equals :
    Says (same_identifier (bytes "xn--xn--bcher-kva-.xn--\\x.xn--"))
    (case (bytes "XN--XN--BCHER-KVA-.XN--\\X.") true
    ∷ case (bytes "xn--bcher-kva.xn--\\x.") false
    ∷ case (umlaut ++ bytes ".xn--\\x.") false
    ∷ case (bytes "xn--xn--bcher-kva-.\\x.") false
    ∷ [])
unfolding opened
other-equals = refl

-- ==== which bytes

-- the bytes of a token (01, Small pieces), and those from 128 up
identifier_bytes : members identifier_byte ≡ bytes "!#$%&'*+-." ++ figures ++ capitals ++ bytes "^_`" ++ smalls ++ bytes "{|}~" ++ range 128 255
unfolding opened
identifier_bytes = refl

-- an identifier is read of so many bytes
abbrev reads : ℕ → List ℕ → Bool
reads k xs = elim (identifier xs) [ nothing ↦ false | got i n ↦ eqb n k ]

-- 01, Identifier and header version: the next thing is one of space, tab, CR, "(" or ";"
followed : members (λ b. reads 1 (97 ∷ b ∷ [])) ≡ bytes "\t\r (;"
unfolding opened
followed = refl

followed_quoted : members (λ b. reads 3 (bytes "\"a\"" ++ (b ∷ []))) ≡ bytes "\t\r (;"
unfolding opened
followed_quoted = refl
