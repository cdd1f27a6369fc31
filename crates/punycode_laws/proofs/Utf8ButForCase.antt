-- A text that equals one in UTF-8 but for ASCII case is in UTF-8 itself, and its code points are the same but for ASCII case: no byte from
-- 128 up has another case, and no byte of ASCII becomes one.
use Prim.Native.Nat.{ℕ, ◌+◌, ◌≤◌, ◌<◌}
use native.Mathlib.Omega.{arith}
use mathlib.Core.Path.{◌≡◌, refl, sym, ap, subst, ◌∙◌}
use mathlib.Core.Bool.{Bool, true, false}
use mathlib.Core.List.{List, [], ◌∷◌, ◌++◌, map, head-eq_of_cons-eq, tail-eq_of_cons-eq}
use lib.Dec.{leb, ltb}
use lib.ListN.{length}
use borrow.Author.Tests.{leb-true, ltb-true, lt-ltb}
use Rattle.base_readers.specs.Texts.{within}
use Rattle.lexis_rules.specs.Bytes.{lower}
use Rattle.punycode_rules.specs.Unicode.{utf8, utf8s}
use Rattle.punycode_rules.proofs.Unfolding.{opened}
use Rattle.punycode_laws.proofs.BytesTellCodePoints.{utf8-low, Form, one, two, three, four, form, code-points-told}
use Rattle.punycode_laws.proofs.Case.{basic-case, high-case, utf8s-case}

-- ==== equal bytes are equal code points

-- texts in UTF-8 are equal but for ASCII case exactly where their code points are
pub points-utf8s : (u v : List ℕ) → map lower u ≡ map lower v → map lower (utf8s u) ≡ map lower (utf8s v)
points-utf8s u v e = utf8s-case u ∙ (ap utf8s e ∙ sym (utf8s-case v))

pub utf8s-points : (u v : List ℕ) → map lower (utf8s u) ≡ map lower (utf8s v) → map lower u ≡ map lower v
utf8s-points u v e = code-points-told (map lower u) (map lower v) (sym (utf8s-case u) ∙ (e ∙ utf8s-case v))

-- ==== a text that is known only but for case

-- a byte that is from 128 up in lower case
lower_high : (y : ℕ) → 128 ≤ lower y → lower y ≡ y
unfolding lower within
lower_high y = go (leb 65 y) (leb y 90) refl refl
  where
    go : (s t : Bool) → leb 65 y ≡ s → leb y 90 ≡ t → 128 ≤ lower y → lower y ≡ y
    go true true a b h = let k : 128 ≤ y + 32 = rw (lower, within, a, b) at h in let l : y ≤ 90 = leb-true y 90 b in absurd (omega (arith, k, l))
    go true false a b h = rw (lower, within, a, b)
    go false t a b h = rw (lower, within, a)

-- bytes from 128 up
data High : List ℕ → Type 0 where
  none : High []
  more : {b : ℕ} {bs : List ℕ} → 128 ≤ b → High bs → High (b ∷ bs)

utf8-high : (x : ℕ) → 128 ≤ x → High (utf8 x)
utf8-high x h = go (form x)
  where
    go : Form x → High (utf8 x)
    go (one l e) = absurd (omega (arith, l, h))
    go (two i j e) = subst High (sym e) (more (omega arith) (more (omega arith) none))
    go (three i j e) = subst High (sym e) (more (omega arith) (more (omega arith) (more (omega arith) none)))
    go (four i e) = subst High (sym e) (more (omega arith) (more (omega arith) (more (omega arith) (more (omega arith) none))))

no_more : {x : ℕ} {xs : List ℕ} → (x ∷ xs) ≡ [] → ⊥
no_more {x} {xs} e = let z : ◌≡◌ {A = ℕ} (length (x ∷ xs)) 0 = ap length e in omega (arith, z)

-- such bytes at the front stand there themselves
high-front : (bs t m : List ℕ) → High bs → map lower (bs ++ t) ≡ map lower m → (r : List ℕ) × ((m ≡ bs ++ r) × (map lower t ≡ map lower r))
high-front [] t m none e = (m, (refl, e))
high-front (b ∷ bs) t [] (more h w) e = absurd (no_more e)
high-front (b ∷ bs) t (y ∷ m) (more h w) e =
    let a : lower b ≡ lower y = head-eq_of_cons-eq e in
    let c : lower b ≡ b = high-case b h in
    let f : lower y ≡ y = lower_high y (omega (arith, a, c, h)) in
    let i : y ≡ b = sym f ∙ (sym a ∙ c) in
    let r = high-front bs t m w (tail-eq_of_cons-eq e) in
    (r.0, (ap (λ (z : ℕ). z ∷ m) i ∙ ap (λ (l : List ℕ). b ∷ l) r.1.0, r.1.1))

-- the code points of a text
pub record Points (m u : List ℕ) : Type 0 where
  pub points : List ℕ
  pub bytes : m ≡ utf8s points
  pub same : map lower u ≡ map lower points

pub points-back : (u m : List ℕ) → map lower (utf8s u) ≡ map lower m → Points m u
unfolding utf8s
points-back [] [] e = record { points = []; bytes = refl; same = refl }
points-back [] (y ∷ m) e = absurd (no_more (sym e))
points-back (x ∷ u) m e = go (points-back u) (form x)
  where
    high : ((n : List ℕ) → map lower (utf8s u) ≡ map lower n → Points n u) → 128 ≤ x → Points m (x ∷ u)
    high ih h =
        let f = high-front (utf8 x) (utf8s u) m (utf8-high x h) e in
        let r = ih f.0 f.1.1 in
        record { points = x ∷ r.points; bytes = f.1.0 ∙ ap (λ (l : List ℕ). utf8 x ++ l) r.bytes; same = ap (λ (l : List ℕ). lower x ∷ l) r.same }

    low : ((n : List ℕ) → map lower (utf8s u) ≡ map lower n → Points n u) → x < 128 → (n : List ℕ) → map lower (x ∷ utf8s u) ≡ map lower n → Points n (x ∷ u)
    low ih h [] q = absurd (no_more q)
    low ih h (y ∷ n) q =
        let a : lower x ≡ lower y = head-eq_of_cons-eq q in
        let r = ih n (tail-eq_of_cons-eq q) in
        let l : ltb y 128 ≡ true = sym (basic-case y) ∙ (ap (λ (z : ℕ). ltb z 128) (sym a) ∙ (basic-case x ∙ lt-ltb x 128 h)) in
        let b : utf8 y ≡ y ∷ [] = utf8-low y (ltb-true y 128 l) in
        record {
          points = y ∷ r.points;
          bytes = ap (λ (k : List ℕ). y ∷ k) r.bytes ∙ ap (λ (k : List ℕ). k ++ utf8s r.points) (sym b);
          same = ap (λ (z : ℕ). z ∷ map lower u) a ∙ ap (λ (k : List ℕ). lower y ∷ k) r.same;
        }

    go : ((n : List ℕ) → map lower (utf8s u) ≡ map lower n → Points n u) → Form x → Points m (x ∷ u)
    go ih (one h f) = low ih h m (ap (λ (l : List ℕ). map lower (l ++ utf8s u)) (sym f) ∙ e)
    go ih (two h i f) = high ih h
    go ih (three h i f) = high ih (omega (arith, h))
    go ih (four h f) = high ih (omega (arith, h))

-- BÜCHER in its bytes, by bÜcher: Ü has no other case here
points-instance : Points (66 ∷ 195 ∷ 156 ∷ []) (98 ∷ 220 ∷ [])
unfolding opened lower within
points-instance = points-back (98 ∷ 220 ∷ []) (66 ∷ 195 ∷ 156 ∷ []) refl
