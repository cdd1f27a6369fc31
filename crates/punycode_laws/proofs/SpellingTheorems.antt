-- 02, ticket [2]: what holds of every spelling. Each theorem with premises has an instance below it.
use Prim.Native.Nat.{ℕ, ◌*◌, ◌≤◌, ◌<◌}
use native.Mathlib.Omega.{arith}
use mathlib.Core.Path.{◌≡◌, refl, sym, ap, ◌∙◌}
use mathlib.Core.Bool.{true, false, ◌&&◌}
use mathlib.Core.List.{List, ◌∷◌, map}
use mathlib.Core.Option.{some}
use lib.Dec.{lit<, lit≤}
use lib.ListN.{length, drop}
use Rattle.base_readers.specs.Texts.{bytes, one_of}
use Rattle.lexis_rules.specs.Bytes.{lower}
use Rattle.punycode_rules.specs.Punycode.{basic}
use Rattle.punycode_rules.specs.Unicode.{utf8s}
use Rattle.punycode_rules.specs.Labels.{decoded, prefixed, labels, spelling, any_prefixed, spelling_limit, double_hyphen}
use Rattle.punycode_rules.proofs.Unfolding.{opened}
use Rattle.punycode_laws.proofs.Hyphens.{plain-spelling, double_hyphen-labels}
use Rattle.punycode_laws.proofs.Case.{spelling-lower}
use Rattle.punycode_laws.proofs.ALabels.{a-label-spelling}
use Rattle.punycode_laws.proofs.Lengths.{spelling-most}
use Rattle.punycode_laws.proofs.Absent.{absent-spelling}

-- a text none of whose labels starts with xn--, in either case, is its own spelling
pub spelling-plain : (t : List ℕ) → any_prefixed (labels t) ≡ false → spelling t ≡ t
spelling-plain t h = plain-spelling t h

plain-instance : spelling (bytes "xn-1.mx--a.example") ≡ bytes "xn-1.mx--a.example"
unfolding opened
plain-instance = spelling-plain (bytes "xn-1.mx--a.example") refl

-- a text without two hyphens in a row has no such label
pub single-hyphens-plain : (t : List ℕ) → double_hyphen t ≡ false → any_prefixed (labels t) ≡ false
single-hyphens-plain t h = double_hyphen-labels t h

pub spelling-single-hyphens : (t : List ℕ) → double_hyphen t ≡ false → spelling t ≡ t
spelling-single-hyphens t h = spelling-plain t (single-hyphens-plain t h)

single-instance : spelling (bytes "xn-1.example") ≡ bytes "xn-1.example"
unfolding opened
single-instance = spelling-single-hyphens (bytes "xn-1.example") refl

-- texts that are equal but for ASCII case have spellings that are
pub spelling-case : (a b : List ℕ) → map lower a ≡ map lower b → map lower (spelling a) ≡ map lower (spelling b)
spelling-case a b e = spelling-lower a ∙ (ap (λ (t : List ℕ). map lower (spelling t)) e ∙ sym (spelling-lower b))

case-instance : map lower (spelling (bytes "XN--BCHER-KVA.Example")) ≡ map lower (spelling (bytes "xn--bcher-kva.example"))
unfolding opened
case-instance = spelling-case (bytes "XN--BCHER-KVA.Example") (bytes "xn--bcher-kva.example") refl

-- an A-label and its U-label have the same spelling, for every label that decodes. What it decodes to is a U-label where it has a code
-- point from 128 up (RFC 5890, section 2.3.2.1); a label of ASCII that itself starts with xn-- is left out, for labels are decoded once
pub spelling-label : (l u : List ℕ) → one_of l 46 ≡ false → prefixed l ≡ true → decoded (drop 4 l) ≡ some u → (basic u && prefixed u) ≡ false
    → spelling l ≡ spelling (utf8s u)
spelling-label l u d p e h = a-label-spelling l u d p e h

label-instance : spelling (bytes "xn--bcher-kva") ≡ spelling (98 ∷ 195 ∷ 188 ∷ bytes "cher")
unfolding opened
label-instance = spelling-label (bytes "xn--bcher-kva") (98 ∷ 252 ∷ bytes "cher") refl refl refl refl

-- a spelling is at most four times as long as its text
pub spelling-length : (t : List ℕ) → length (spelling t) ≤ 4 * length t
spelling-length t = spelling-most t

-- so a text that an entry of our own list can have (255 bytes at most) has a spelling within the limit
pub spelling-limit : (t : List ℕ) → length t ≤ 255 → length (spelling t) ≤ spelling_limit
spelling-limit t h = omega (arith, spelling-length t)

limit-instance : length (spelling (bytes "xn--bcher-kva")) ≤ spelling_limit
limit-instance = spelling-limit (bytes "xn--bcher-kva") (lit≤ tt)

-- a byte of ASCII that does not stand in a text does not stand in its spelling
pub spelling-lacks : (c : ℕ) → c < 128 → (t : List ℕ) → one_of t c ≡ false → one_of (spelling t) c ≡ false
spelling-lacks c h t e = absent-spelling c h t e

lacks-instance : one_of (spelling (bytes "xn--bcher-kva")) 10 ≡ false
unfolding opened
lacks-instance = spelling-lacks 10 (lit< tt) (bytes "xn--bcher-kva") refl
