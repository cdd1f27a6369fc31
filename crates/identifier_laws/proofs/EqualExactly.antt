-- 02, ticket [2]: when two identifiers are equal, exactly, and so also when they are not: they have as many labels, and each label of the one
-- is the same as its neighbour of the other. A text is its labels with dots between them, and neither decoding nor case makes or removes a dot.
use Prim.Native.Char.{code}
use Prim.Native.Nat.{ℕ}
use native.Mathlib.Omega.{arith}
use mathlib.Core.Path.{◌≡◌, refl, sym, ap, ◌∙◌}
use mathlib.Core.Bool.{Bool, true, false}
use mathlib.Core.List.{List, [], ◌∷◌, ◌++◌, map, head-eq_of_cons-eq, tail-eq_of_cons-eq}
use mathlib.Core.Option.{Option, none, some}
use lib.Dec.{eqb, lit<}
use lib.ListN.{length, drop}
use borrow.Author.Tests.{eqb-true, eqb-false, eq-eqb, ne_eqb}
use Rattle.base_sequences.proofs.Booleans.{no_true, both, or_right}
use Rattle.base_readers.specs.Texts.{bytes, one_of}
use Rattle.base_readers.specs.Lines.{on_first}
use Rattle.base_readers.proofs.Texts.{same_refl, same-eq}
use Rattle.lexis_rules.specs.Bytes.{lower, alike}
use Rattle.punycode_rules.specs.Unicode.{utf8s}
use Rattle.punycode_rules.specs.Labels.{decoded, prefixed, spelled, labels, joined, spelling}
use Rattle.punycode_laws.proofs.Lists.{lacks-cons, lacks-first, lacks_rest}
use Rattle.punycode_laws.proofs.Case.{eqb-case}
use Rattle.punycode_laws.proofs.Spelling.{spelled-plain, spelled-failed, spelled-some, labels-some}
use Rattle.punycode_laws.proofs.Absent.{dotless-spelling, spelled-lacks}
use Rattle.punycode_laws.proofs.Utf8ButForCase.{points-utf8s, utf8s-points, points-back}
use Rattle.identifier_rules.specs.Identifier.{same_identifier}
use Rattle.identifier_rules.specs.Terms.{Decodes, Stands, SameLabel, standing, decoding, first, second, SameLabels, end, pair}
use Rattle.identifier_rules.proofs.Unfolding.{opened}
use Rattle.identifier_laws.proofs.Parts.{lower-dot}

-- ==== two labels

-- every label is one of the two
data Kind (l : List ℕ) : Type 0 where
  stands : Stands l → Kind l
  decodes : (u : List ℕ) → Decodes l u → Kind l

kind : (l : List ℕ) → Kind l
kind l = go (prefixed l) refl (decoded (drop 4 l)) refl
  where
    go : (t : Bool) → prefixed l ≡ t → (o : Option (List ℕ)) → decoded (drop 4 l) ≡ o → Kind l
    go true p none e = stands (λ q. e)
    go true p (some u) e = decodes u (p, e)
    go false p o e = stands (λ q. absurd (both (prefixed l) p q))

spelled-stands : (l : List ℕ) → Stands l → spelled l ≡ l
spelled-stands l s = go (prefixed l) refl
  where
    go : (t : Bool) → prefixed l ≡ t → spelled l ≡ l
    go true p = spelled-failed l p (s p)
    go false p = spelled-plain l p

spelled-decodes : (l u : List ℕ) → Decodes l u → spelled l ≡ utf8s u
spelled-decodes l u d = spelled-some l d.0 u d.1

-- what is compared of a label
abbrev shown : List ℕ → List ℕ
shown l = map lower (spelled l)

shown-same : (l m : List ℕ) → shown l ≡ shown m → SameLabel l m
unfolding alike
shown-same l m e = go (kind l) (kind m)
  where
    by : {x y : List ℕ} → spelled l ≡ x → spelled m ≡ y → map lower x ≡ map lower y
    by a b = ap (map lower) (sym a) ∙ (e ∙ ap (map lower) b)

    go : Kind l → Kind m → SameLabel l m
    go (stands s) (stands t) = standing s t (rw (by (spelled-stands l s) (spelled-stands m t)) (same_refl (map lower m)))
    go (decodes u d) (decodes v f) = decoding u v d f (utf8s-points u v (by (spelled-decodes l u d) (spelled-decodes m v f)))
    go (decodes u d) (stands t) = let p = points-back u m (by (spelled-decodes l u d) (spelled-stands m t)) in first u p.points d t p.bytes p.same
    go (stands s) (decodes v f) = let p = points-back v l (sym (by (spelled-stands l s) (spelled-decodes m v f))) in second p.points v s p.bytes f (sym p.same)

same-shown : (l m : List ℕ) → SameLabel l m → shown l ≡ shown m
unfolding alike
same-shown l m (standing s t a) = rw (spelled-stands l s, spelled-stands m t) (same-eq (map lower l) (map lower m) a)
same-shown l m (decoding u v d f e) = rw (spelled-decodes l u d, spelled-decodes m v f) (points-utf8s u v e)
same-shown l m (first u v d t b e) = rw (spelled-decodes l u d, spelled-stands m t, b) (points-utf8s u v e)
same-shown l m (second u v s b f e) = rw (spelled-stands l s, spelled-decodes m v f, b) (points-utf8s u v e)

-- ==== labels without dots, joined

data Dotless : List (List ℕ) → Type 0 where
  no_label : Dotless []
  label : {l : List ℕ} {ls : List (List ℕ)} → one_of l 46 ≡ false → Dotless ls → Dotless (l ∷ ls)

labels-dotless : (t : List ℕ) → Dotless (labels t)
unfolding labels one_of
labels-dotless [] = label refl no_label
labels-dotless (x ∷ t) = go (eqb x 46) refl (labels-dotless t)
  where
    other : eqb x 46 ≡ false → eqb 46 x ≡ false
    other e = ne_eqb 46 x (λ q. eqb-false x 46 e (sym q))

    front : eqb x 46 ≡ false → {ls : List (List ℕ)} → Dotless ls → Dotless (on_first x ls)
    front e no_label = label (lacks-cons 46 x [] (other e) refl) no_label
    front e (label {l} h w) = label (lacks-cons 46 x l (other e) h) w

    go : (b : Bool) → eqb x 46 ≡ b → Dotless (labels t) → Dotless (labels (x ∷ t))
    go true e w = rw (labels, e) (label refl w)
    go false e w = rw (labels, e) (front e w)

lower-lacks : (t : List ℕ) → one_of t 46 ≡ false → one_of (map lower t) 46 ≡ false
unfolding one_of
lower-lacks [] h = refl
lower-lacks (x ∷ t) h = lacks-cons 46 (lower x) (map lower t) (dotless (lacks-first 46 x t h)) (lower-lacks t (lacks_rest 46 x t h))
  where
    dotless : eqb 46 x ≡ false → eqb 46 (lower x) ≡ false
    dotless e = ne_eqb 46 (lower x) (λ q. eqb-false 46 x e (sym (eqb-true x 46 (sym (eqb-case 46 x (omega arith)) ∙ eq-eqb (lower x) 46 (sym q)))))

shown-dotless : {ls : List (List ℕ)} → Dotless ls → Dotless (map shown ls)
shown-dotless no_label = no_label
shown-dotless (label {l} {ls} h w) = label (lower-lacks (spelled l) (spelled-lacks 46 (lit< tt) l h)) (shown-dotless w)

-- what stands before the first dot, and behind it
cut : (p q r s : List ℕ) → one_of p 46 ≡ false → one_of q 46 ≡ false → p ++ (46 ∷ r) ≡ q ++ (46 ∷ s) → (p ≡ q) × (r ≡ s)
unfolding one_of
cut [] [] r s h i e = (refl, tail-eq_of_cons-eq e)
cut [] (y ∷ q) r s h i e = absurd (eqb-false 46 y (lacks-first 46 y q i) (head-eq_of_cons-eq e))
cut (x ∷ p) [] r s h i e = absurd (eqb-false 46 x (lacks-first 46 x p h) (sym (head-eq_of_cons-eq e)))
cut (x ∷ p) (y ∷ q) r s h i e =
    let k = cut p q r s (lacks_rest 46 x p h) (lacks_rest 46 y q i) (tail-eq_of_cons-eq e) in
    (ap (λ (z : ℕ). z ∷ p) (head-eq_of_cons-eq e) ∙ ap (λ (z : List ℕ). y ∷ z) k.0, k.1)

-- a text with a dot is no label
dotted : (q s : List ℕ) → one_of (q ++ (46 ∷ s)) 46 ≡ true
unfolding one_of
dotted [] s = refl
dotted (y ∷ q) s = or_right (eqb 46 y) _ (dotted q s)

-- labels without dots are told by the text that they make
joined-told : (l m : List ℕ) (ls ms : List (List ℕ)) → Dotless (l ∷ ls) → Dotless (m ∷ ms) → joined (l ∷ ls) ≡ joined (m ∷ ms) → (l ∷ ls) ≡ (m ∷ ms)
unfolding joined
joined-told l m [] [] v w e = ap (λ (x : List ℕ). x ∷ []) e
joined-told l m [] (n ∷ ns) (label h v) w e = absurd (both _ h (ap (λ (t : List ℕ). one_of t 46) e ∙ dotted m (joined (n ∷ ns))))
joined-told l m (k ∷ ks) [] v (label i w) e = absurd (both _ i (ap (λ (t : List ℕ). one_of t 46) (sym e) ∙ dotted l (joined (k ∷ ks))))
joined-told l m (k ∷ ks) (n ∷ ns) (label h v) (label i w) e =
    let c = cut l m (joined (k ∷ ks)) (joined (n ∷ ns)) h i e in
    ap (λ (x : List ℕ). x ∷ k ∷ ks) c.0 ∙ ap (λ (r : List (List ℕ)). m ∷ r) (joined-told k n ks ns v w c.1)

-- ==== texts

-- what is compared of a text is what is compared of its labels
joined-shown : (ls : List (List ℕ)) → map lower (joined (map spelled ls)) ≡ joined (map shown ls)
unfolding joined
joined-shown [] = refl
joined-shown (l ∷ []) = refl
joined-shown (l ∷ m ∷ ms) = lower-dot (spelled l) (joined (map spelled (m ∷ ms))) ∙ ap (λ (t : List ℕ). shown l ++ (46 ∷ t)) (joined-shown (m ∷ ms))

spelling-shown : (t : List ℕ) → map lower (spelling t) ≡ joined (map shown (labels t))
unfolding spelling
spelling-shown t = joined-shown (labels t)

labels-same : (ls ms : List (List ℕ)) → map shown ls ≡ map shown ms → SameLabels ls ms
labels-same [] [] e = end
labels-same [] (m ∷ ms) e = let z : ◌≡◌ {A = ℕ} 0 (length (map shown (m ∷ ms))) = ap length e in absurd (omega (arith, z))
labels-same (l ∷ ls) [] e = let z : ◌≡◌ {A = ℕ} (length (map shown (l ∷ ls))) 0 = ap length e in absurd (omega (arith, z))
labels-same (l ∷ ls) (m ∷ ms) e = pair (shown-same l m (head-eq_of_cons-eq e)) (labels-same ls ms (tail-eq_of_cons-eq e))

same-labels : {ls ms : List (List ℕ)} → SameLabels ls ms → map shown ls ≡ map shown ms
same-labels end = refl
same-labels (pair {l} {m} {ls} {ms} s w) = ap (λ (x : List ℕ). x ∷ map shown ls) (same-shown l m s) ∙ ap (λ (r : List (List ℕ)). shown m ∷ r) (same-labels w)

-- equal identifiers have the same labels
pub identifier-same-when : (a b : List ℕ) → same_identifier a b ≡ true → SameLabels (labels a) (labels b)
unfolding same_identifier alike
identifier-same-when a b h =
    let e : joined (map shown (labels a)) ≡ joined (map shown (labels b)) = sym (spelling-shown a) ∙ (same-eq (map lower (spelling a)) (map lower (spelling b)) h ∙ spelling-shown b) in
    labels-same (labels a) (labels b) (go (labels a) (labels b) (labels-some a) (labels-some b) (labels-dotless a) (labels-dotless b) e)
  where
    go : (ls ms : List (List ℕ)) → (l : List ℕ) × (ks : List (List ℕ)) × (ls ≡ l ∷ ks) → (m : List ℕ) × (ns : List (List ℕ)) × (ms ≡ m ∷ ns) → Dotless ls → Dotless ms
        → joined (map shown ls) ≡ joined (map shown ms) → map shown ls ≡ map shown ms
    go [] ms s t v w e = absurd (let q : [] ≡ s.0 ∷ s.1 = s.2 in let z : ◌≡◌ {A = ℕ} 0 1 = cc in omega arith)
    go (l ∷ ls) [] s t v w e = absurd (let q : [] ≡ t.0 ∷ t.1 = t.2 in let z : ◌≡◌ {A = ℕ} 0 1 = cc in omega arith)
    go (l ∷ ls) (m ∷ ms) s t v w e = joined-told (shown l) (shown m) (map shown ls) (map shown ms) (shown-dotless v) (shown-dotless w) e

-- and identifiers with the same labels are equal
pub identifier-when-same : (a b : List ℕ) → SameLabels (labels a) (labels b) → same_identifier a b ≡ true
unfolding same_identifier alike
identifier-when-same a b w =
    let e : map lower (spelling a) ≡ map lower (spelling b) = spelling-shown a ∙ (ap joined (same-labels w) ∙ sym (spelling-shown b)) in
    rw e (same_refl (map lower (spelling b)))

-- a label that doesn't decode is compared as it stands, with every other label
pub identifier-stands : (l m : List ℕ) → one_of l (code ".") ≡ false → one_of m (code ".") ≡ false → Stands l → Stands m → same_identifier l m ≡ alike l m
unfolding same_identifier
identifier-stands l m h i s t = rw (dotless-spelling l h, dotless-spelling m i, spelled-stands l s, spelled-stands m t)

-- ==== instances

-- xn--bcher-kva.Example and bücher.example: the first label decodes on one side, the second stands on both
labels-instance : SameLabels (labels (bytes "xn--bcher-kva.Example")) (labels (98 ∷ 195 ∷ 188 ∷ bytes "cher.example"))
unfolding opened
labels-instance =
    pair (first (98 ∷ 252 ∷ bytes "cher") (98 ∷ 252 ∷ bytes "cher") (refl, refl) (λ p. absurd (no_true p)) refl refl)
    (pair (standing (λ p. absurd (no_true p)) (λ p. absurd (no_true p)) refl) end)

same-instance : same_identifier (bytes "xn--bcher-kva.Example") (98 ∷ 195 ∷ 188 ∷ bytes "cher.example") ≡ true
same-instance = identifier-when-same (bytes "xn--bcher-kva.Example") (98 ∷ 195 ∷ 188 ∷ bytes "cher.example") labels-instance

-- an A-label against bucher: no way of being the same is left
other-instance : SameLabels (labels (bytes "xn--bcher-kva")) (labels (bytes "bucher")) → ⊥
unfolding opened
other-instance w = no_true (identifier-when-same (bytes "xn--bcher-kva") (bytes "bucher") w)

-- neither xn--mller-k! nor XN--MLLER-K! decodes
stands-instance : same_identifier (bytes "xn--mller-k!") (bytes "XN--MLLER-K!") ≡ alike (bytes "xn--mller-k!") (bytes "XN--MLLER-K!")
unfolding opened
stands-instance = identifier-stands (bytes "xn--mller-k!") (bytes "XN--MLLER-K!") refl refl (λ p. refl) (λ p. refl)
