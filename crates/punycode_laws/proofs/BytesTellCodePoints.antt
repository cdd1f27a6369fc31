-- RFC 3629: different code points have different bytes, and bytes in UTF-8 are those of one text of code points: what is compared in UTF-8 is
-- compared code point by code point. The first bytes of the four forms lie apart, and the others give the quotients and remainders back.
use Prim.Native.Nat.{ℕ, ◌+◌, ◌/◌, ◌%◌, ◌≤◌, ◌<◌}
use native.Mathlib.Omega.{arith}
use mathlib.Core.Path.{◌≡◌, refl, sym, ap, ◌∙◌}
use mathlib.Core.Bool.{Bool, true, false}
use mathlib.Core.List.{List, [], ◌∷◌, ◌++◌, head-eq_of_cons-eq, tail-eq_of_cons-eq}
use lib.Dec.{ltb}
use lib.ListN.{length}
use borrow.Author.Tests.{ltb-true, ltb-false, lt-ltb, le-ltb}
use Rattle.punycode_rules.specs.Unicode.{utf8, utf8s}
use Rattle.punycode_rules.proofs.Unfolding.{opened}

-- a byte of ASCII stands itself
pub utf8-low : (x : ℕ) → x < 0x80 → utf8 x ≡ x ∷ []
unfolding utf8
utf8-low x h = rw (utf8, lt-ltb x 0x80 h)

-- the four forms
pub data Form (x : ℕ) : Type 0 where
  one : x < 0x80 → utf8 x ≡ x ∷ [] → Form x
  two : 0x80 ≤ x → x < 0x800 → utf8 x ≡ (0xC0 + x / 64) ∷ (0x80 + x % 64) ∷ [] → Form x
  three : 0x800 ≤ x → x < 0x10000 → utf8 x ≡ (0xE0 + x / 4096) ∷ (0x80 + x / 64 % 64) ∷ (0x80 + x % 64) ∷ [] → Form x
  four : 0x10000 ≤ x → utf8 x ≡ (0xF0 + x / 262144) ∷ (0x80 + x / 4096 % 64) ∷ (0x80 + x / 64 % 64) ∷ (0x80 + x % 64) ∷ [] → Form x

pub form : (x : ℕ) → Form x
unfolding utf8
form x = by-80 (ltb x 0x80) refl
  where
    by-10000 : 0x80 ≤ x → 0x800 ≤ x → (t : Bool) → ltb x 0x10000 ≡ t → Form x
    by-10000 h i true e = three i (ltb-true x 0x10000 e) (rw (utf8, le-ltb x 0x80 h, le-ltb x 0x800 i, e))
    by-10000 h i false e = four (ltb-false x 0x10000 e) (rw (utf8, le-ltb x 0x80 h, le-ltb x 0x800 i, e))

    by-800 : 0x80 ≤ x → (t : Bool) → ltb x 0x800 ≡ t → Form x
    by-800 h true e = two h (ltb-true x 0x800 e) (rw (utf8, le-ltb x 0x80 h, e))
    by-800 h false e = by-10000 h (ltb-false x 0x800 e) (ltb x 0x10000) refl

    by-80 : (t : Bool) → ltb x 0x80 ≡ t → Form x
    by-80 true e = let h = ltb-true x 0x80 e in one h (utf8-low x h)
    by-80 false e = by-800 (ltb-false x 0x80 e) (ltb x 0x800) refl

-- a number is told by its quotient and its remainder
parts : (p q : ℕ) → p / 64 ≡ q / 64 → p % 64 ≡ q % 64 → p ≡ q
parts p q a b = omega (arith, a, b)

-- shifts in two steps
pub twice : (x : ℕ) → x / 64 / 64 ≡ x / 4096
twice x = omega arith

pub thrice : (x : ℕ) → x / 4096 / 64 ≡ x / 262144
thrice x = omega arith

drop-front : (k a b : ℕ) → k + a ≡ k + b → a ≡ b
drop-front k a b e = omega (arith, e)

-- the first bytes of the forms lie apart; behind equal bytes the same follows
pub code-point-told : (x y : ℕ) (t u : List ℕ) → utf8 x ++ t ≡ utf8 y ++ u → (x ≡ y) × (t ≡ u)
code-point-told x y t u q = go (form x) (form y)
  where
    Goal : Type 0
    Goal = (x ≡ y) × (t ≡ u)

    put : (a b : List ℕ) → utf8 x ≡ a → utf8 y ≡ b → a ++ t ≡ b ++ u
    put a b e f = ap (λ (l : List ℕ). l ++ t) (sym e) ∙ (q ∙ ap (λ (l : List ℕ). l ++ u) f)

    go : Form x → Form y → Goal
    go (one h e) (one i f) = let p = put _ _ e f in (head-eq_of_cons-eq p, tail-eq_of_cons-eq p)
    go (one h e) (two i j f) = let p : ◌≡◌ {A = ℕ} x (0xC0 + y / 64) = head-eq_of_cons-eq (put _ _ e f) in absurd (omega (arith, p))
    go (one h e) (three i j f) = let p : ◌≡◌ {A = ℕ} x (0xE0 + y / 4096) = head-eq_of_cons-eq (put _ _ e f) in absurd (omega (arith, p))
    go (one h e) (four i f) = let p : ◌≡◌ {A = ℕ} x (0xF0 + y / 262144) = head-eq_of_cons-eq (put _ _ e f) in absurd (omega (arith, p))
    go (two h i e) (one j f) = let p : ◌≡◌ {A = ℕ} (0xC0 + x / 64) y = head-eq_of_cons-eq (put _ _ e f) in absurd (omega (arith, p))
    go (two h i e) (two j k f) =
        let p = put _ _ e f in
        let a : ◌≡◌ {A = ℕ} (0xC0 + x / 64) (0xC0 + y / 64) = head-eq_of_cons-eq p in
        let r = tail-eq_of_cons-eq p in
        let b : ◌≡◌ {A = ℕ} (0x80 + x % 64) (0x80 + y % 64) = head-eq_of_cons-eq r in
        (parts x y (drop-front 0xC0 _ _ a) (drop-front 0x80 _ _ b), tail-eq_of_cons-eq r)
    go (two h i e) (three j k f) = let p : ◌≡◌ {A = ℕ} (0xC0 + x / 64) (0xE0 + y / 4096) = head-eq_of_cons-eq (put _ _ e f) in absurd (omega (arith, p))
    go (two h i e) (four j f) = let p : ◌≡◌ {A = ℕ} (0xC0 + x / 64) (0xF0 + y / 262144) = head-eq_of_cons-eq (put _ _ e f) in absurd (omega (arith, p))
    go (three h i e) (one j f) = let p : ◌≡◌ {A = ℕ} (0xE0 + x / 4096) y = head-eq_of_cons-eq (put _ _ e f) in absurd (omega (arith, p))
    go (three h i e) (two j k f) = let p : ◌≡◌ {A = ℕ} (0xE0 + x / 4096) (0xC0 + y / 64) = head-eq_of_cons-eq (put _ _ e f) in absurd (omega (arith, p))
    go (three h i e) (three j k f) =
        let p = put _ _ e f in
        let a : ◌≡◌ {A = ℕ} (0xE0 + x / 4096) (0xE0 + y / 4096) = head-eq_of_cons-eq p in
        let r = tail-eq_of_cons-eq p in
        let b : ◌≡◌ {A = ℕ} (0x80 + x / 64 % 64) (0x80 + y / 64 % 64) = head-eq_of_cons-eq r in
        let s = tail-eq_of_cons-eq r in
        let c : ◌≡◌ {A = ℕ} (0x80 + x % 64) (0x80 + y % 64) = head-eq_of_cons-eq s in
        let m : x / 64 ≡ y / 64 = parts (x / 64) (y / 64) (twice x ∙ (drop-front 0xE0 _ _ a ∙ sym (twice y))) (drop-front 0x80 _ _ b) in
        (parts x y m (drop-front 0x80 _ _ c), tail-eq_of_cons-eq s)
    go (three h i e) (four j f) = let p : ◌≡◌ {A = ℕ} (0xE0 + x / 4096) (0xF0 + y / 262144) = head-eq_of_cons-eq (put _ _ e f) in absurd (omega (arith, p))
    go (four h e) (one j f) = let p : ◌≡◌ {A = ℕ} (0xF0 + x / 262144) y = head-eq_of_cons-eq (put _ _ e f) in absurd (omega (arith, p))
    go (four h e) (two j k f) = let p : ◌≡◌ {A = ℕ} (0xF0 + x / 262144) (0xC0 + y / 64) = head-eq_of_cons-eq (put _ _ e f) in absurd (omega (arith, p))
    go (four h e) (three j k f) = let p : ◌≡◌ {A = ℕ} (0xF0 + x / 262144) (0xE0 + y / 4096) = head-eq_of_cons-eq (put _ _ e f) in absurd (omega (arith, p))
    go (four h e) (four j f) =
        let p = put _ _ e f in
        let a : ◌≡◌ {A = ℕ} (0xF0 + x / 262144) (0xF0 + y / 262144) = head-eq_of_cons-eq p in
        let r = tail-eq_of_cons-eq p in
        let b : ◌≡◌ {A = ℕ} (0x80 + x / 4096 % 64) (0x80 + y / 4096 % 64) = head-eq_of_cons-eq r in
        let s = tail-eq_of_cons-eq r in
        let c : ◌≡◌ {A = ℕ} (0x80 + x / 64 % 64) (0x80 + y / 64 % 64) = head-eq_of_cons-eq s in
        let v = tail-eq_of_cons-eq s in
        let d : ◌≡◌ {A = ℕ} (0x80 + x % 64) (0x80 + y % 64) = head-eq_of_cons-eq v in
        let n : x / 4096 ≡ y / 4096 = parts (x / 4096) (y / 4096) (thrice x ∙ (drop-front 0xF0 _ _ a ∙ sym (thrice y))) (drop-front 0x80 _ _ b) in
        let m : x / 64 ≡ y / 64 = parts (x / 64) (y / 64) (twice x ∙ (n ∙ sym (twice y))) (drop-front 0x80 _ _ c) in
        (parts x y m (drop-front 0x80 _ _ d), tail-eq_of_cons-eq v)

-- no code point has no bytes
some_bytes : (x : ℕ) (t : List ℕ) → utf8 x ++ t ≡ [] → ⊥
some_bytes x t q = go (form x)
  where
    size : (a : ℕ) (l : List ℕ) → (a ∷ l) ≡ [] → ⊥
    size a l e = let z : ◌≡◌ {A = ℕ} (length (a ∷ l)) 0 = ap length e in omega (arith, z)

    go : Form x → ⊥
    go (one h e) = size _ _ (ap (λ (l : List ℕ). l ++ t) (sym e) ∙ q)
    go (two h i e) = size _ _ (ap (λ (l : List ℕ). l ++ t) (sym e) ∙ q)
    go (three h i e) = size _ _ (ap (λ (l : List ℕ). l ++ t) (sym e) ∙ q)
    go (four h e) = size _ _ (ap (λ (l : List ℕ). l ++ t) (sym e) ∙ q)

-- texts of code points with the same bytes are the same, whatever the numbers
pub code-points-told : (u v : List ℕ) → utf8s u ≡ utf8s v → u ≡ v
unfolding utf8s
code-points-told [] [] q = refl
code-points-told [] (y ∷ v) q = absurd (some_bytes y (utf8s v) (sym q))
code-points-told (x ∷ u) [] q = absurd (some_bytes x (utf8s u) q)
code-points-told (x ∷ u) (y ∷ v) q = let r = code-point-told x y (utf8s u) (utf8s v) q in cons r.0 (code-points-told u v r.1)
  where
    cons : {a b : ℕ} {l m : List ℕ} → a ≡ b → l ≡ m → (a ∷ l) ≡ (b ∷ m)
    cons {a} {b} {l} {m} e f = ap (λ (z : ℕ). z ∷ l) e ∙ ap (λ (z : List ℕ). b ∷ z) f

-- ü is told by its two bytes
told-instance : (u : List ℕ) → utf8s u ≡ 0xC3 ∷ 0xBC ∷ [] → u ≡ 0xFC ∷ []
unfolding opened
told-instance u e = code-points-told u (0xFC ∷ []) e
