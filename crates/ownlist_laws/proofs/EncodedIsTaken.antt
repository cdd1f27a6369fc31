-- RFC 3629: the bytes that the encoder (`utf8` in punycode_rules/specs/Unicode.antt) writes for a scalar from 128 up are one sequence of the
-- recogniser (`sequence` in ownlist_rules/specs/Utf8.antt), whatever follows. Form by form.
use Prim.Native.Nat.{ℕ, ◌+◌, ◌/◌, ◌%◌, ◌≤◌, ◌<◌}
use native.Mathlib.Omega.{arith}
use mathlib.Core.Path.{◌≡◌, refl}
use mathlib.Core.Bool.{Bool, true, false, ◌&&◌, ◌||◌}
use mathlib.Core.List.{List, ◌∷◌, ◌++◌}
use lib.Dec.{leb, ltb, eqb, lit≤}
use lib.ListN.{length}
use borrow.Author.Tests.{ltb-true, ltb-false, leb-true, eqb-true, le-leb, lt-leb, le-ltb}
use Rattle.base_sequences.proofs.Booleans.{no_true}
use Rattle.base_readers.specs.Texts.{bytes, within}
use Rattle.punycode_rules.specs.Unicode.{scalar, utf8}
use Rattle.ownlist_rules.specs.Utf8.{lead, second, further, sequence}
use Rattle.ownlist_rules.proofs.Unfolding.{opened}

-- a number between two others
between : (a b x : ℕ) → a ≤ x → x ≤ b → within a b x ≡ true
unfolding within
between a b x h i = rw (within, le-leb a x h, le-leb x b i)

above : (a b x : ℕ) → b < x → within a b x ≡ false
unfolding within
above a b x h = go (leb a x)
  where
    go : (t : Bool) → (t && leb x b) ≡ false
    go true = lt-leb x b h
    go false = refl

lead-2 : (a : ℕ) → 0xC2 ≤ a → a ≤ 0xDF → lead a ≡ 2
unfolding lead
lead-2 a h i = rw (lead, between 0xC2 0xDF a h i)

lead-3 : (a : ℕ) → 0xE0 ≤ a → a ≤ 0xEF → lead a ≡ 3
unfolding lead
lead-3 a h i = rw (lead, above 0xC2 0xDF a (omega arith), between 0xE0 0xEF a h i)

lead-4 : (a : ℕ) → 0xF0 ≤ a → a ≤ 0xF4 → lead a ≡ 4
unfolding lead
lead-4 a h i = rw (lead, above 0xC2 0xDF a (omega arith), above 0xE0 0xEF a (omega arith), between 0xF0 0xF4 a h i)

-- the second byte: each of the four first bytes that narrow it, and every other
second-taken : (a b : ℕ) → 0x80 ≤ b → b ≤ 0xBF → (a ≡ 0xE0 → 0xA0 ≤ b) → (a ≡ 0xED → b ≤ 0x9F) → (a ≡ 0xF0 → 0x90 ≤ b) → (a ≡ 0xF4 → b ≤ 0x8F) → second a b ≡ true
unfolding second
second-taken a b h i p q r s = by-e0 (eqb a 0xE0) refl
  where
    by-f4 : eqb a 0xE0 ≡ false → eqb a 0xED ≡ false → eqb a 0xF0 ≡ false → (t : Bool) → eqb a 0xF4 ≡ t → second a b ≡ true
    by-f4 x y z true e = rw (second, x, y, z, e, between 0x80 0x8F b h (s (eqb-true a 0xF4 e)))
    by-f4 x y z false e = rw (second, x, y, z, e, between 0x80 0xBF b h i)

    by-f0 : eqb a 0xE0 ≡ false → eqb a 0xED ≡ false → (t : Bool) → eqb a 0xF0 ≡ t → second a b ≡ true
    by-f0 x y true e = rw (second, x, y, e, between 0x90 0xBF b (r (eqb-true a 0xF0 e)) i)
    by-f0 x y false e = by-f4 x y e (eqb a 0xF4) refl

    by-ed : eqb a 0xE0 ≡ false → (t : Bool) → eqb a 0xED ≡ t → second a b ≡ true
    by-ed x true e = rw (second, x, e, between 0x80 0x9F b h (q (eqb-true a 0xED e)))
    by-ed x false e = by-f0 x e (eqb a 0xF0) refl

    by-e0 : (t : Bool) → eqb a 0xE0 ≡ t → second a b ≡ true
    by-e0 true e = rw (second, e, between 0xA0 0xBF b (p (eqb-true a 0xE0 e)) i)
    by-e0 false e = by-ed e (eqb a 0xED) refl

sequence-2 : (a b : ℕ) (t : List ℕ) → lead a ≡ 2 → second a b ≡ true → sequence (a ∷ b ∷ t) ≡ 2
unfolding sequence further
sequence-2 a b t l s = rw (sequence, further, l, s)

sequence-3 : (a b c : ℕ) (t : List ℕ) → lead a ≡ 3 → second a b ≡ true → 0x80 ≤ c → c ≤ 0xBF → sequence (a ∷ b ∷ c ∷ t) ≡ 3
unfolding sequence further
sequence-3 a b c t l s h i = rw (sequence, further, l, s, between 0x80 0xBF c h i)

sequence-4 : (a b c d : ℕ) (t : List ℕ) → lead a ≡ 4 → second a b ≡ true → 0x80 ≤ c → c ≤ 0xBF → 0x80 ≤ d → d ≤ 0xBF → sequence (a ∷ b ∷ c ∷ d ∷ t) ≡ 4
unfolding sequence further
sequence-4 a b c d t l s h i j k = rw (sequence, further, l, s, between 0x80 0xBF c h i, between 0x80 0xBF d j k)

-- ==== what is written is taken

encoded-2 : (x : ℕ) (t : List ℕ) → 0x80 ≤ x → x < 0x800 → sequence ((0xC0 + x / 64) ∷ (0x80 + x % 64) ∷ t) ≡ 2
encoded-2 x t h i =
    sequence-2 _ _ t (lead-2 (0xC0 + x / 64) (omega arith) (omega arith))
    (second-taken (0xC0 + x / 64) (0x80 + x % 64) (omega arith) (omega arith) (λ e. omega (arith, e)) (λ e. omega (arith, e)) (λ e. omega (arith, e)) (λ e. omega (arith, e)))

-- the numbers of three bytes, with what is known of the surrogates
encoded-3 : (x : ℕ) (t : List ℕ) → 0x800 ≤ x → x < 0x10000 → (0xE0 + x / 4096 ≡ 0xED → 0x80 + x / 64 % 64 ≤ 0x9F)
    → sequence ((0xE0 + x / 4096) ∷ (0x80 + x / 64 % 64) ∷ (0x80 + x % 64) ∷ t) ≡ 3
encoded-3 x t h i q =
    sequence-3 _ _ _ t (lead-3 (0xE0 + x / 4096) (omega arith) (omega arith))
    (second-taken (0xE0 + x / 4096) (0x80 + x / 64 % 64) (omega arith) (omega arith) (λ e. omega (arith, e)) q (λ e. omega (arith, e)) (λ e. omega (arith, e))) (omega arith) (omega arith)

encoded-4 : (x : ℕ) (t : List ℕ) → 0x10000 ≤ x → x ≤ 0x10FFFF
    → sequence ((0xF0 + x / 262144) ∷ (0x80 + x / 4096 % 64) ∷ (0x80 + x / 64 % 64) ∷ (0x80 + x % 64) ∷ t) ≡ 4
encoded-4 x t h i =
    sequence-4 _ _ _ _ t (lead-4 (0xF0 + x / 262144) (omega arith) (omega arith))
    (second-taken (0xF0 + x / 262144) (0x80 + x / 4096 % 64) (omega arith) (omega arith) (λ e. omega (arith, e)) (λ e. omega (arith, e)) (λ e. omega (arith, e)) (λ e. omega (arith, e)))
    (omega arith) (omega arith) (omega arith) (omega arith)

-- a scalar is below the surrogates, or above them and at most 10FFFF
data Scalar (x : ℕ) : Type 0 where
  below : x < 0xD800 → Scalar x
  beyond : 0xE000 ≤ x → x ≤ 0x10FFFF → Scalar x

scalar_is : (x : ℕ) → scalar x ≡ true → Scalar x
unfolding scalar within
scalar_is x = go (ltb x 0xD800) refl
  where
    upper : (u v : Bool) → leb 0xE000 x ≡ u → leb x 0x10FFFF ≡ v → (u && v) ≡ true → Scalar x
    upper true true a b e = beyond (leb-true 0xE000 x a) (leb-true x 0x10FFFF b)
    upper true false a b e = absurd (no_true e)
    upper false v a b e = absurd (no_true e)

    go : (u : Bool) → ltb x 0xD800 ≡ u → (u || within 0xE000 0x10FFFF x) ≡ true → Scalar x
    go true a e = below (ltb-true x 0xD800 a)
    go false a e = upper (leb 0xE000 x) (leb x 0x10FFFF) refl refl e

-- RFC 3629: the bytes of a scalar from 128 up are one sequence, whatever follows
pub encoded-taken : (x : ℕ) (t : List ℕ) → 0x80 ≤ x → scalar x ≡ true → sequence (utf8 x ++ t) ≡ length (utf8 x)
unfolding utf8
encoded-taken x t h s = first (scalar_is x s) (ltb x 0x800) refl
  where
    last : Scalar x → 0x800 ≤ x → (u : Bool) → ltb x 0x10000 ≡ u → sequence (utf8 x ++ t) ≡ length (utf8 x)
    last (below k) i true a = rw (utf8, le-ltb x 0x80 h, le-ltb x 0x800 i, a) (encoded-3 x t i (ltb-true x 0x10000 a) (λ e. omega (arith, e)))
    last (beyond k l) i true a = rw (utf8, le-ltb x 0x80 h, le-ltb x 0x800 i, a) (encoded-3 x t i (ltb-true x 0x10000 a) (λ e. omega (arith, e)))
    last (below k) i false a = let j : 0x10000 ≤ x = ltb-false x 0x10000 a in absurd (omega (arith, j))
    last (beyond k l) i false a = rw (utf8, le-ltb x 0x80 h, le-ltb x 0x800 i, a) (encoded-4 x t (ltb-false x 0x10000 a) l)

    first : Scalar x → (u : Bool) → ltb x 0x800 ≡ u → sequence (utf8 x ++ t) ≡ length (utf8 x)
    first k true a = rw (utf8, le-ltb x 0x80 h, a) (encoded-2 x t h (ltb-true x 0x800 a))
    first k false a = last k (ltb-false x 0x800 a) (ltb x 0x10000) refl

-- ü, with other bytes behind it
encoded-instance : sequence (0xC3 ∷ 0xBC ∷ bytes "cher") ≡ 2
unfolding opened
encoded-instance = encoded-taken 0xFC (bytes "cher") (lit≤ tt) refl
