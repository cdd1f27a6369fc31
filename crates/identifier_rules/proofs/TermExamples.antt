-- What the theorems on identifiers speak of, at worked examples: document 01's rule computed, and of each notion of labels something that it holds of,
-- and next to that something that it does not hold of.
use Prim.Native.Nat.{ℕ, suc}
use native.Mathlib.Omega.{arith}
use mathlib.Core.Path.{◌≡◌, refl, sym, ap, ◌∙◌}
use mathlib.Core.List.{List, [], ◌∷◌, ◌++◌, map}
use mathlib.Core.Option.{Option, none, some}
use lib.ListN.{length, get_or}
use Rattle.base_sequences.proofs.Booleans.{no_true}
use Rattle.base_readers.specs.Texts.{bytes}
use Rattle.base_readers.specs.Parsers.{nothing, got}
use Rattle.base_readers.proofs.Cases.{case, Says}
use Rattle.lexis_rules.specs.Bytes.{lower}
use Rattle.punycode_rules.specs.Labels.{labels}
use Rattle.identifier_rules.specs.Terms.{plain_identifier, Decodes, Stands, SameLabel, standing, decoding, first, second, SameLabels, end, pair}
use Rattle.identifier_rules.proofs.Unfolding.{opened}

-- ==== document 01's rule

-- bytes from 128 up stand in a quoted string and in a comment, and in no token
plain-identifiers :
    Says plain_identifier
    (case [] nothing
    ∷ case (bytes " mx.example; none") (got (bytes "mx.example") 11)
    ∷ case (bytes "(x)a") (got (bytes "a") 4)
    ∷ case (bytes " \"a \\b\";") (got (bytes "a b") 7)
    ∷ case (bytes "\"\"") (got [] 2)
    ∷ case (bytes "\"a\"x") nothing
    ∷ case (bytes "a/x; none") nothing
    ∷ case (bytes ";") nothing
    ∷ case (98 ∷ 195 ∷ 188 ∷ bytes "cher;") nothing
    ∷ case (195 ∷ 188 ∷ bytes ";") nothing
    ∷ case (bytes "a" ++ (128 ∷ [])) nothing
    ∷ case (bytes "a" ++ (255 ∷ bytes ";")) nothing
    ∷ case (bytes "a;" ++ (252 ∷ [])) (got (bytes "a") 1)
    ∷ case (bytes "\"" ++ (98 ∷ 195 ∷ 188 ∷ bytes "cher\";")) (got (98 ∷ 195 ∷ 188 ∷ bytes "cher") 9)
    ∷ case (bytes "(" ++ (252 ∷ bytes ")\"") ++ (252 ∷ bytes "\";")) (got (252 ∷ []) 6)
    ∷ [])
unfolding opened
plain-identifiers = refl

-- ==== a label that decodes, and one that stands

abbrev umlaut : List ℕ
umlaut = 98 ∷ 252 ∷ bytes "cher"

-- how many code points there are, and 99 where a label doesn't decode
abbrev size : Option (List ℕ) → ℕ
size none = 99
size (some u) = length (map lower u)

-- the first of them, but for ASCII case
abbrev front : Option (List ℕ) → ℕ
front none = 99
front (some u) = get_or (map lower u) 0 0

decodes : Decodes (bytes "xN--bcher-kva") umlaut
unfolding opened
decodes = (refl, refl)

-- nothing behind xn-- is the empty label, and it decodes
decodes-empty : Decodes (bytes "xn--") []
unfolding opened
decodes-empty = (refl, refl)

-- to one list of code points alone, and only behind its prefix
decodes-not-other : Decodes (bytes "xn--bcher-kva") (bytes "bcher") → ⊥
unfolding opened
decodes-not-other d = let h : ◌≡◌ {A = ℕ} 6 5 = ap size d.1 in omega (arith, h)

decodes-not-bare : Decodes (bytes "abcdbcher-kva") umlaut → ⊥
unfolding opened
decodes-not-bare d = no_true d.0

stands-bare : Stands (bytes "abcdbcher-kva")
unfolding opened
stands-bare p = absurd (no_true p)

-- k! is no number, and ib9b the surrogate D800
stands-bad : Stands (bytes "xn--mller-k!")
unfolding opened
stands-bad p = refl

stands-surrogate : Stands (bytes "xn--ib9b")
unfolding opened
stands-surrogate p = refl

stands-not-decoding : Stands (bytes "xn--bcher-kva") → ⊥
unfolding opened
stands-not-decoding s = let h : ◌≡◌ {A = ℕ} 6 99 = ap size (s refl) in omega (arith, h)

-- ==== labels that are the same

same-standing : SameLabel (bytes "Example") (bytes "eXample")
unfolding opened
same-standing = standing (λ p. absurd (no_true p)) (λ p. absurd (no_true p)) refl

-- also where a label starts with xn-- and doesn't decode
same-bad : SameLabel (bytes "xn--mller-k!") (bytes "XN--Mller-K!")
unfolding opened
same-bad = standing (λ p. refl) (λ p. refl) refl

same-decoding : SameLabel (bytes "xn--bcher-kva") (bytes "XN--BCHER-KVA")
unfolding opened
same-decoding = decoding umlaut (66 ∷ 252 ∷ bytes "CHER") (refl, refl) (refl, refl) refl

same_first : SameLabel (bytes "xn--bcher-kva") (66 ∷ 195 ∷ 188 ∷ bytes "CHER")
unfolding opened
same_first = first umlaut (66 ∷ 252 ∷ bytes "CHER") (refl, refl) (λ p. absurd (no_true p)) refl refl

same_second : SameLabel (66 ∷ 195 ∷ 188 ∷ bytes "CHER") (bytes "xn--bcher-kva")
unfolding opened
same_second = second (66 ∷ 252 ∷ bytes "CHER") umlaut (λ p. absurd (no_true p)) refl (refl, refl) refl

-- ==== and labels that are not

-- neither starts with xn--
a-not-b : SameLabel (bytes "a") (bytes "b") → ⊥
unfolding opened
a-not-b (standing s t e) = no_true e
a-not-b (decoding u v d f e) = no_true d.0
a-not-b (first u v d t b e) = no_true d.0
a-not-b (second u v s b f e) = no_true f.0

-- both decode, the one to a and the other to b
decoded-not-other : SameLabel (bytes "xn--a-") (bytes "xn--b-") → ⊥
unfolding opened
decoded-not-other (standing s t e) = let h : ◌≡◌ {A = ℕ} 1 99 = ap size (s refl) in omega (arith, h)
decoded-not-other (decoding u v d f e) =
    let h : ◌≡◌ {A = ℕ} 97 98 = ap front d.1 ∙ (ap (λ (l : List ℕ). get_or l 0 0) e ∙ sym (ap front f.1)) in
    omega (arith, h)
decoded-not-other (first u v d t b e) = let h : ◌≡◌ {A = ℕ} 1 99 = ap size (t refl) in omega (arith, h)
decoded-not-other (second u v s b f e) = let h : ◌≡◌ {A = ℕ} 1 99 = ap size (s refl) in omega (arith, h)

-- one decodes, to the empty label, and the other is b
empty-not-b : SameLabel (bytes "xn--") (bytes "b") → ⊥
unfolding opened
empty-not-b (standing s t e) = let h : ◌≡◌ {A = ℕ} 0 99 = ap size (s refl) in omega (arith, h)
empty-not-b (decoding u v d f e) = no_true f.0
empty-not-b (first u [] d t b e) = let h : ◌≡◌ {A = ℕ} 1 0 = ap length b in omega (arith, h)
empty-not-b (first u (x ∷ v) d t b e) = let h : ◌≡◌ {A = ℕ} 0 (length (map lower (x ∷ v))) = ap size d.1 ∙ ap length e in omega (arith, h)
empty-not-b (second u v s b f e) = no_true f.0

b-not-empty : SameLabel (bytes "b") (bytes "xn--") → ⊥
unfolding opened
b-not-empty (standing s t e) = let h : ◌≡◌ {A = ℕ} 0 99 = ap size (t refl) in omega (arith, h)
b-not-empty (decoding u v d f e) = no_true d.0
b-not-empty (first u v d t b e) = no_true d.0
b-not-empty (second [] v s b f e) = let h : ◌≡◌ {A = ℕ} 1 0 = ap length b in omega (arith, h)
b-not-empty (second (x ∷ u) v s b f e) = let h : ◌≡◌ {A = ℕ} 0 (length (map lower (x ∷ u))) = ap size f.1 ∙ ap length (sym e) in omega (arith, h)

-- what a label decodes to is not decoded again: the longer of these decodes to the text of the shorter, which decodes too
twice-not-once : SameLabel (bytes "xn--xn--bcher-kva-") (bytes "xn--bcher-kva") → ⊥
unfolding opened
twice-not-once (standing s t e) = let h : ◌≡◌ {A = ℕ} 13 99 = ap size (s refl) in omega (arith, h)
twice-not-once (decoding u v d f e) = let h : ◌≡◌ {A = ℕ} 13 6 = ap size d.1 ∙ (ap length e ∙ sym (ap size f.1)) in omega (arith, h)
twice-not-once (first u v d t b e) = let h : ◌≡◌ {A = ℕ} 6 99 = ap size (t refl) in omega (arith, h)
twice-not-once (second u v s b f e) = let h : ◌≡◌ {A = ℕ} 13 99 = ap size (s refl) in omega (arith, h)

once-not-twice : SameLabel (bytes "xn--bcher-kva") (bytes "xn--xn--bcher-kva-") → ⊥
unfolding opened
once-not-twice (standing s t e) = let h : ◌≡◌ {A = ℕ} 6 99 = ap size (s refl) in omega (arith, h)
once-not-twice (decoding u v d f e) = let h : ◌≡◌ {A = ℕ} 6 13 = ap size d.1 ∙ (ap length e ∙ sym (ap size f.1)) in omega (arith, h)
once-not-twice (first u v d t b e) = let h : ◌≡◌ {A = ℕ} 13 99 = ap size (t refl) in omega (arith, h)
once-not-twice (second u v s b f e) = let h : ◌≡◌ {A = ℕ} 6 99 = ap size (s refl) in omega (arith, h)

-- ==== all labels of a text

same-labels : SameLabels (labels (bytes "xn--bcher-kva.Example")) (labels (66 ∷ 195 ∷ 188 ∷ bytes "CHER.eXample"))
unfolding opened
same-labels = pair same_first (pair same-standing end)

-- one pair is another, the first or the second
not_first : SameLabels (labels (bytes "a.Example")) (labels (bytes "b.eXample")) → ⊥
unfolding opened
not_first (pair s w) = a-not-b s

not-second : SameLabels (labels (bytes "Example.a")) (labels (bytes "eXample.b")) → ⊥
unfolding opened
not-second (pair s (pair t w)) = a-not-b t

-- as many on both sides
as_many : {ls ms : List (List ℕ)} → SameLabels ls ms → length ls ≡ length ms
as_many end = refl
as_many (pair s w) = ap suc (as_many w)

not_more : SameLabels (labels (bytes "a")) (labels (bytes "a.")) → ⊥
unfolding opened
not_more w = let h : ◌≡◌ {A = ℕ} 1 2 = as_many w in omega (arith, h)
