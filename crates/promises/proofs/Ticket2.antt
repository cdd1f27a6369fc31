-- 02, ticket [2], "Identifiers with international labels": what is promised of the equality of identifiers, by which stripping goes,
-- of which identifiers are read, and of the entries of our own list.
use Prim.Native.Char.{code}
use Prim.Native.Nat.{ℕ, ◌≤◌, ◌<◌}
use native.Mathlib.Omega.{arith}
use mathlib.Core.Path.{◌≡◌, refl, sym, ap, subst, ◌∙◌}
use mathlib.Core.Bool.{true, false, ◌&&◌}
use mathlib.Core.List.{List, [], ◌∷◌, ◌++◌}
use mathlib.Core.Option.{some}
use lib.Dec.{lit≤}
use lib.ListN.{take, drop}
use Rattle.base_sequences.proofs.Booleans.{no_true}
use Rattle.base_readers.specs.Texts.{bytes, one_of}
use Rattle.base_readers.specs.Parsers.{nothing, got}
use Rattle.base_readers.specs.Walks.{Walked}
use Rattle.lexis_rules.specs.declared.Class.TheVariants.{Token}
use Rattle.lexis_rules.specs.Bytes.{in_class, alike}
use Rattle.lexis_rules.specs.Pieces.{token}
use Rattle.punycode_rules.specs.Punycode.{basic}
use Rattle.punycode_rules.specs.Unicode.{utf8s}
use Rattle.punycode_rules.specs.Labels.{decoded, prefixed, labels, any_prefixed}
use Rattle.identifier_rules.specs.Identifier.{identifier_byte, identifier_token, identifier, same_identifier}
use Rattle.identifier_rules.specs.Terms.{plain_identifier, Stands, SameLabels}
use Rattle.identifier_laws.proofs.Equality as identifiers
use Rattle.identifier_laws.proofs.EqualExactly as equal
use Rattle.identifier_laws.proofs.StaysReadable as readable
use Rattle.ownlist_rules.specs.OwnList.{own_list}
use Rattle.ownlist_rules.specs.Terms.{nil, cons, Utf8Entries, BadAt}
use Rattle.ownlist_rules.proofs.Unfolding.{opened}
use Rattle.ownlist_laws.proofs.EntriesInUtf8 as entries
use Rattle.ownlist_laws.proofs.FirstBadEntry as bad
use Rattle.report_rules.proofs.Unfolding as body-opened
use Rattle.report_laws.proofs.SevenIsUnreadable.{seven-when}
use Rattle.promises.specs.Exactly.{Exactly}
use Rattle.promises.specs.Calls.{reports}
use Rattle.promises.proofs.Demand1.{report-0-7-8-9}

-- ==== it is an equality

pub identifier-reflexive : (a : List ℕ) → same_identifier a a ≡ true
identifier-reflexive = identifiers.identifier-reflexive

pub identifier-symmetric : (a b : List ℕ) → same_identifier a b ≡ true → same_identifier b a ≡ true
identifier-symmetric = identifiers.identifier-symmetric

pub identifier-transitive : (a b c : List ℕ) → same_identifier a b ≡ true → same_identifier b c ≡ true → same_identifier a c ≡ true
identifier-transitive = identifiers.identifier-transitive

-- ==== This, then ASCII case, replaces 01's identifier equality: what was equal stays equal, and without A-labels nothing else is

pub identifier-case : (a b : List ℕ) → alike a b ≡ true → same_identifier a b ≡ true
identifier-case = identifiers.identifier-case

pub identifier-plain : (a b : List ℕ) → any_prefixed (labels a) ≡ false → any_prefixed (labels b) ≡ false → same_identifier a b ≡ alike a b
identifier-plain = identifiers.identifier-plain

-- ==== Decode labels that start with xn-- by Punycode: a label and what it decodes to are equal, at any place of an identifier

-- what it decodes to isn't such a label itself, written in ASCII: labels are decoded once
pub identifier-label : (l u : List ℕ) → one_of l (code ".") ≡ false → prefixed l ≡ true → decoded (drop 4 l) ≡ some u → (basic u && prefixed u) ≡ false
    → same_identifier l (utf8s u) ≡ true
identifier-label = identifiers.identifier-label

pub identifier-parts : (a b x y : List ℕ) → same_identifier a b ≡ true → same_identifier x y ≡ true → same_identifier (a ++ (code "." ∷ x)) (b ++ (code "." ∷ y)) ≡ true
identifier-parts = identifiers.identifier-parts

-- xn--bcher-kva.example is bücher.example
label-example : same_identifier (bytes "xn--bcher-kva.example") (98 ∷ 195 ∷ 188 ∷ bytes "cher.Example") ≡ true
unfolding opened
label-example =
    identifier-parts (bytes "xn--bcher-kva") (98 ∷ 195 ∷ 188 ∷ bytes "cher") (bytes "example") (bytes "Example")
    (identifier-label (bytes "xn--bcher-kva") (98 ∷ 252 ∷ bytes "cher") refl refl refl refl) (identifier-case (bytes "example") (bytes "Example") refl)

-- ==== so two identifiers are equal exactly when they have as many labels and each pair of them is the same

-- labels are the same where both stand and are alike, or where the code points that they decode to, or are in UTF-8, are the same but for ASCII
-- case (`SameLabel` in identifier_rules/specs/Terms.antt). Where the numbers differ, or one pair isn't the same, the identifiers aren't equal
pub identifier-exactly : (a b : List ℕ) → Exactly (same_identifier a b ≡ true) (SameLabels (labels a) (labels b))
identifier-exactly a b = (equal.identifier-same-when a b, equal.identifier-when-same a b)

-- xn--bcher-kva.example has the labels of bücher.example, and not those of bucher.example
exactly-same : SameLabels (labels (bytes "xn--bcher-kva.example")) (labels (98 ∷ 195 ∷ 188 ∷ bytes "cher.Example"))
exactly-same = (identifier-exactly (bytes "xn--bcher-kva.example") (98 ∷ 195 ∷ 188 ∷ bytes "cher.Example")).0 label-example

exactly-other : SameLabels (labels (bytes "xn--bcher-kva.example")) (labels (bytes "bucher.example")) → ⊥
unfolding opened
exactly-other w = no_true ((identifier-exactly (bytes "xn--bcher-kva.example") (bytes "bucher.example")).1 w)

-- ==== a label that doesn't decode, or decodes to a surrogate or to a number above 10FFFF hex, is compared as it stands

pub identifier-stands : (l m : List ℕ) → one_of l (code ".") ≡ false → one_of m (code ".") ≡ false → Stands l → Stands m → same_identifier l m ≡ alike l m
identifier-stands = equal.identifier-stands

-- k! is no number
stands-example : same_identifier (bytes "xn--mller-k!") (bytes "XN--MLLER-K!") ≡ true
unfolding opened
stands-example = identifier-stands (bytes "xn--mller-k!") (bytes "XN--MLLER-K!") refl refl (λ p. refl) (λ p. refl)

-- the surrogate D800, and 110000
surrogate-example : same_identifier (bytes "xn--ib9b") (237 ∷ 160 ∷ 128 ∷ []) ≡ false
unfolding opened
surrogate-example = identifier-stands (bytes "xn--ib9b") (237 ∷ 160 ∷ 128 ∷ []) refl refl (λ p. refl) (λ p. absurd (no_true p))

above-example : same_identifier (bytes "xn--en32g") (244 ∷ 144 ∷ 128 ∷ 128 ∷ []) ≡ false
unfolding opened
above-example = identifier-stands (bytes "xn--en32g") (244 ∷ 144 ∷ 128 ∷ 128 ∷ []) refl refl (λ p. refl) (λ p. absurd (no_true p))

-- ==== The identifier's token, and no other, may now hold bytes from 128 up

pub identifier-byte : (x : ℕ) → (128 ≤ x → identifier_byte x ≡ true) × (x < 128 → identifier_byte x ≡ in_class Token x)
identifier-byte x = (readable.identifier-byte-high x, readable.identifier-byte-low x)

-- every other token is read by this reader
pub other-tokens : (xs : List ℕ) → basic (take (token xs) xs) ≡ true
other-tokens = readable.token-basic

-- bücher is one token as an identifier, and elsewhere its token is b
token-example : (identifier_token (98 ∷ 195 ∷ 188 ∷ bytes "cher;") ≡ 7) × (token (98 ∷ 195 ∷ 188 ∷ bytes "cher;") ≡ 1)
unfolding opened
token-example = (refl, refl)

-- ==== so fewer bodies answer 7

-- what document 01's rule read is read, with the same text
pub identifier-stays : (body t : List ℕ) (n : ℕ) → plain_identifier body ≡ got t n → identifier body ≡ got t n
identifier-stays = readable.identifier-stays

-- and of bodies without bytes from 128 up it reads just what that rule did
pub identifier-ascii : (body : List ℕ) → basic body ≡ true → identifier body ≡ plain_identifier body
identifier-ascii = readable.identifier-ascii

-- so a body that answers 7 now answered 7 before
pub seven-before : (body old : List ℕ) → (reports body old).answer.number ≡ 7 → plain_identifier body ≡ nothing
seven-before body old z =
    readable.plain-nothing body (seven-when body ((report-0-7-8-9 body old 7 (λ q. omega (arith, q)) (λ q. omega (arith, q))).0 z).1.0)

seven-example : plain_identifier (bytes " ; none") ≡ nothing
unfolding body-opened.opened
seven-example = seven-before (bytes " ; none") [] refl

-- and some that did don't: bücher is an identifier now
fewer-example : (plain_identifier (98 ∷ 195 ∷ 188 ∷ bytes "cher; none") ≡ nothing) × ((reports (98 ∷ 195 ∷ 188 ∷ bytes "cher; none") (bytes "....................")).answer.number ≡ 0)
unfolding body-opened.opened plain_identifier
fewer-example = (refl, refl)

-- mx.example was one, and a/x wasn't
stays-example : identifier (bytes " mx.example; none") ≡ got (bytes "mx.example") 11
unfolding opened
stays-example = identifier-stays (bytes " mx.example; none") (bytes "mx.example") 11 refl

ascii-example : plain_identifier (bytes "a/x; none") ≡ nothing
unfolding opened
ascii-example = sym (identifier-ascii (bytes "a/x; none") refl)

-- ==== List entries may now hold valid UTF-8 from 128 up; other bytes there are still 5

-- a list is good exactly where it is at most 64 texts in UTF-8 of 1 to 255 bytes, each ended by LF, of code points 33 to 126 and scalar values
-- from 128 up
pub list-exactly : (list : List ℕ) → Exactly ((own_list list).number ≡ 0) (Utf8Entries list)
list-exactly list = (entries.list-good-when list, λ w. ap (λ (a : Walked (List ℕ)). a.number) (entries.list-when-good list w))

pub list-five : (list : List ℕ) → Exactly ((own_list list).number ≡ 5) (Utf8Entries list → ⊥)
list-five list = (λ e w. let z : ◌≡◌ {A = ℕ} 5 0 = sym e ∙ (list-exactly list).1 w in omega (arith, z), bad.other-list-five list)

-- with the start of the first bad entry: good ones stand before it, and there no other does, or it is the 65th
pub list-place-5 : (list : List ℕ) (place : ℕ) → Exactly (((own_list list).number ≡ 5) × ((own_list list).place ≡ place)) (BadAt list place)
list-place-5 list place = (
  λ e. subst (BadAt list) e.1 (bad.list-bad-when list (λ z. let q : ◌≡◌ {A = ℕ} 5 0 = sym e.0 ∙ z in omega (arith, q))),
  λ w. (ap (λ (a : Walked (List ℕ)). a.number) (bad.list-when-bad list place w), ap (λ (a : Walked (List ℕ)). a.place) (bad.list-when-bad list place w)),
)

-- bücher in UTF-8; and in ISO 8859-1, behind a good entry
list-example : (own_list (98 ∷ 195 ∷ 188 ∷ bytes "cher\n")).number ≡ 0
unfolding opened
list-example =
    (list-exactly (98 ∷ 195 ∷ 188 ∷ bytes "cher\n")).1
    (record {
      texts = (98 ∷ 252 ∷ bytes "cher") ∷ [];
      each = cons (record { points = refl; some = lit≤ tt; short = lit≤ tt }) nil;
      few = lit≤ tt;
      is = refl;
    })

five-example : (own_list (bytes "mx\nb" ++ (252 ∷ bytes "cher\n"))).number ≡ 5
unfolding opened
five-example =
    (list-five (bytes "mx\nb" ++ (252 ∷ bytes "cher\n"))).1
    (λ w. let z : ◌≡◌ {A = ℕ} 5 0 = (list-exactly (bytes "mx\nb" ++ (252 ∷ bytes "cher\n"))).1 w in omega (arith, z))

place-example : BadAt (bytes "mx\nb" ++ (252 ∷ bytes "cher\n")) 3
unfolding opened
place-example = (list-place-5 (bytes "mx\nb" ++ (252 ∷ bytes "cher\n")) 3).0 (refl, refl)
