-- 02, ticket [2]: what holds of the equality of identifiers. Each theorem with premises has an instance below it.
use Prim.Native.Char.{code}
use Prim.Native.Nat.{ℕ}
use mathlib.Core.Path.{◌≡◌, refl, sym, ap, ◌∙◌}
use mathlib.Core.Bool.{true, false, ◌&&◌}
use mathlib.Core.List.{List, ◌∷◌, ◌++◌, map}
use mathlib.Core.Option.{some}
use lib.ListN.{drop}
use Rattle.base_readers.specs.Texts.{bytes, one_of}
use Rattle.base_readers.proofs.Texts.{same_refl, same-eq}
use Rattle.lexis_rules.specs.Bytes.{lower, alike}
use Rattle.punycode_rules.specs.Punycode.{basic}
use Rattle.punycode_rules.specs.Unicode.{utf8s}
use Rattle.punycode_rules.specs.Labels.{decoded, prefixed, labels, spelling, any_prefixed}
use Rattle.punycode_laws.proofs.SpellingTheorems.{spelling-plain, spelling-case, spelling-label}
use Rattle.identifier_rules.specs.Identifier.{same_identifier}
use Rattle.identifier_laws.proofs.Parts.{spelling-dot, lower-dot}
use Rattle.identifier_rules.proofs.Unfolding.{opened}

-- ==== the equality

-- what is compared: the spelling in lower case
abbrev compared : List ℕ → List ℕ
compared t = map lower (spelling t)

same-compared : (a b : List ℕ) → same_identifier a b ≡ true → compared a ≡ compared b
unfolding same_identifier alike
same-compared a b h = same-eq (compared a) (compared b) h

compared_same : (a b : List ℕ) → compared a ≡ compared b → same_identifier a b ≡ true
unfolding same_identifier alike
compared_same a b e = rw e (same_refl (compared b))

-- each identifier equals itself
pub identifier-reflexive : (a : List ℕ) → same_identifier a a ≡ true
identifier-reflexive a = compared_same a a refl

-- the order doesn't matter
pub identifier-symmetric : (a b : List ℕ) → same_identifier a b ≡ true → same_identifier b a ≡ true
identifier-symmetric a b h = compared_same b a (sym (same-compared a b h))

-- two that equal a third are equal
pub identifier-transitive : (a b c : List ℕ) → same_identifier a b ≡ true → same_identifier b c ≡ true → same_identifier a c ≡ true
identifier-transitive a b c h g = compared_same a c (same-compared a b h ∙ same-compared b c g)

-- texts that are equal by document 01's rule, but for ASCII case, stay equal
pub identifier-case : (a b : List ℕ) → alike a b ≡ true → same_identifier a b ≡ true
unfolding alike
identifier-case a b h = compared_same a b (spelling-case a b (same-eq (map lower a) (map lower b) h))

case-instance : same_identifier (bytes "XN--BCHER-KVA.Example") (bytes "xn--bcher-kva.example") ≡ true
unfolding opened
case-instance = identifier-case (bytes "XN--BCHER-KVA.Example") (bytes "xn--bcher-kva.example") refl

-- texts without a label that starts with xn-- are equal by that rule alone
pub identifier-plain : (a b : List ℕ) → any_prefixed (labels a) ≡ false → any_prefixed (labels b) ≡ false → same_identifier a b ≡ alike a b
unfolding same_identifier
identifier-plain a b p q = rw (spelling-plain a p, spelling-plain b q)

plain-instance : same_identifier (bytes "mx--1.example") (bytes "mx--2.example") ≡ alike (bytes "mx--1.example") (bytes "mx--2.example")
unfolding opened
plain-instance = identifier-plain (bytes "mx--1.example") (bytes "mx--2.example") refl refl

-- an A-label equals its U-label
pub identifier-label : (l u : List ℕ) → one_of l (code ".") ≡ false → prefixed l ≡ true → decoded (drop 4 l) ≡ some u → (basic u && prefixed u) ≡ false
    → same_identifier l (utf8s u) ≡ true
identifier-label l u d p e h = compared_same l (utf8s u) (ap (map lower) (spelling-label l u d p e h))

label-instance : same_identifier (bytes "xn--bcher-kva") (98 ∷ 195 ∷ 188 ∷ bytes "cher") ≡ true
unfolding opened
label-instance = identifier-label (bytes "xn--bcher-kva") (98 ∷ 252 ∷ bytes "cher") refl refl refl refl

-- texts with equal parts on both sides of a "." are equal: so an A-label may stand for its U-label at any place
pub identifier-parts : (a b x y : List ℕ) → same_identifier a b ≡ true → same_identifier x y ≡ true → same_identifier (a ++ (code "." ∷ x)) (b ++ (code "." ∷ y)) ≡ true
identifier-parts a b x y h g =
    compared_same (a ++ (code "." ∷ x)) (b ++ (code "." ∷ y))
    (parts a x ∙ (rw (same-compared a b h, same-compared x y g) (sym (parts b y))))
  where
    parts : (a x : List ℕ) → compared (a ++ (code "." ∷ x)) ≡ compared a ++ (code "." ∷ compared x)
    parts a x = ap (map lower) (spelling-dot a x) ∙ lower-dot (spelling a) (spelling x)

parts-instance : same_identifier (bytes "xn--bcher-kva.xn--bcher-kva") (98 ∷ 195 ∷ 188 ∷ bytes "cher.xn--bcher-kva") ≡ true
parts-instance =
    identifier-parts (bytes "xn--bcher-kva") (98 ∷ 195 ∷ 188 ∷ bytes "cher") (bytes "xn--bcher-kva") (bytes "xn--bcher-kva") label-instance
    (identifier-reflexive (bytes "xn--bcher-kva"))
