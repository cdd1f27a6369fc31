-- RFC 3629: every sequence that the recogniser (`sequence` in ownlist_rules/specs/Utf8.antt) takes is what the encoder (`utf8` in
-- punycode_rules/specs/Unicode.antt) writes for one scalar from 128 up: no surrogate, and nothing above 10FFFF. The number is put together
-- from the bytes, form by form.
use Prim.Native.Nat.{ℕ, suc, ◌+◌, ◌-◌, ◌*◌, ◌/◌, ◌%◌, ◌≤◌, ◌<◌}
use native.Mathlib.Omega.{arith}
use mathlib.Core.Path.{◌≡◌, refl, sym, ap, subst, ◌∙◌}
use mathlib.Core.Bool.{Bool, true, false}
use mathlib.Core.List.{List, [], ◌∷◌, ◌++◌}
use lib.Dec.{ltb, eqb}
use lib.ListN.{take, get_or}
use borrow.Author.Tests.{ltb-true, ltb-false, eqb-true, eqb-false, le-leb, le-ltb, lt-ltb}
use Rattle.base_sequences.proofs.Booleans.{and_left, and_right}
use Rattle.base_readers.specs.Texts.{bytes, within}
use Rattle.punycode_rules.specs.Unicode.{scalar, utf8}
use Rattle.punycode_laws.proofs.Digits.{within-inv, scalar-low, scalar-high}
use Rattle.punycode_laws.proofs.BytesTellCodePoints.{twice, thrice, code-point-told}
use Rattle.ownlist_rules.specs.Utf8.{lead, tail, second, further, sequence}
use Rattle.ownlist_rules.proofs.Unfolding.{opened}

-- ==== the first byte

data Lead (a : ℕ) : Type 0 where
  none : lead a ≡ 0 → Lead a
  two : 0xC2 ≤ a → a ≤ 0xDF → lead a ≡ 2 → Lead a
  three : 0xE0 ≤ a → a ≤ 0xEF → lead a ≡ 3 → Lead a
  four : 0xF0 ≤ a → a ≤ 0xF4 → lead a ≡ 4 → Lead a

lead-view : (a : ℕ) → Lead a
unfolding lead
lead-view a = by_2 (within 0xC2 0xDF a) refl
  where
    by_4 : within 0xC2 0xDF a ≡ false → within 0xE0 0xEF a ≡ false → (t : Bool) → within 0xF0 0xF4 a ≡ t → Lead a
    by_4 x y true e = let r = within-inv 0xF0 0xF4 a e in four r.0 r.1 (rw (lead, x, y, e))
    by_4 x y false e = none (rw (lead, x, y, e))

    by-3 : within 0xC2 0xDF a ≡ false → (t : Bool) → within 0xE0 0xEF a ≡ t → Lead a
    by-3 x true e = let r = within-inv 0xE0 0xEF a e in three r.0 r.1 (rw (lead, x, e))
    by-3 x false e = by_4 x e (within 0xF0 0xF4 a) refl

    by_2 : (t : Bool) → within 0xC2 0xDF a ≡ t → Lead a
    by_2 true e = let r = within-inv 0xC2 0xDF a e in two r.0 r.1 (rw (lead, e))
    by_2 false e = by-3 e (within 0xE0 0xEF a) refl

-- ==== the second byte

record Second (a b : ℕ) : Type 0 where
  low : 0x80 ≤ b
  high : b ≤ 0xBF
  by-e0 : a ≡ 0xE0 → 0xA0 ≤ b
  by-ed : a ≡ 0xED → b ≤ 0x9F
  by-f0 : a ≡ 0xF0 → 0x90 ≤ b
  by-f4 : a ≡ 0xF4 → b ≤ 0x8F

second-known : (a b : ℕ) → second a b ≡ true → Second a b
unfolding second
second-known a b e = at-e0 (eqb a 0xE0) refl
  where
    at-f4 : (a ≡ 0xE0 → ⊥) → (a ≡ 0xED → ⊥) → (a ≡ 0xF0 → ⊥) → eqb a 0xE0 ≡ false → eqb a 0xED ≡ false → eqb a 0xF0 ≡ false → (t : Bool) → eqb a 0xF4 ≡ t → Second a b
    at-f4 m n o x y z true q =
        let w : within 0x80 0x8F b ≡ true = sym (rw (second, x, y, z, q)) ∙ e in
        let r = within-inv 0x80 0x8F b w in
        record { low = r.0; high = omega (arith, r.1); by-e0 = λ k. absurd (m k); by-ed = λ k. absurd (n k); by-f0 = λ k. absurd (o k); by-f4 = λ k. r.1 }
    at-f4 m n o x y z false q =
        let w : within 0x80 0xBF b ≡ true = sym (rw (second, x, y, z, q)) ∙ e in
        let r = within-inv 0x80 0xBF b w in
        record { low = r.0; high = r.1; by-e0 = λ k. absurd (m k); by-ed = λ k. absurd (n k); by-f0 = λ k. absurd (o k); by-f4 = λ k. absurd (eqb-false a 0xF4 q k) }

    at-f0 : (a ≡ 0xE0 → ⊥) → (a ≡ 0xED → ⊥) → eqb a 0xE0 ≡ false → eqb a 0xED ≡ false → (t : Bool) → eqb a 0xF0 ≡ t → Second a b
    at-f0 m n x y true q =
        let w : within 0x90 0xBF b ≡ true = sym (rw (second, x, y, q)) ∙ e in
        let r = within-inv 0x90 0xBF b w in
        let i = eqb-true a 0xF0 q in
        record { low = omega (arith, r.0); high = r.1; by-e0 = λ k. absurd (m k); by-ed = λ k. absurd (n k); by-f0 = λ k. r.0; by-f4 = λ k. absurd (omega (arith, i, k)) }
    at-f0 m n x y false q = at-f4 m n (eqb-false a 0xF0 q) x y q (eqb a 0xF4) refl

    at-ed : (a ≡ 0xE0 → ⊥) → eqb a 0xE0 ≡ false → (t : Bool) → eqb a 0xED ≡ t → Second a b
    at-ed m x true q =
        let w : within 0x80 0x9F b ≡ true = sym (rw (second, x, q)) ∙ e in
        let r = within-inv 0x80 0x9F b w in
        let i = eqb-true a 0xED q in
        record { low = r.0; high = omega (arith, r.1); by-e0 = λ k. absurd (m k); by-ed = λ k. r.1; by-f0 = λ k. absurd (omega (arith, i, k)); by-f4 = λ k. absurd (omega (arith, i, k)) }
    at-ed m x false q = at-f0 m (eqb-false a 0xED q) x q (eqb a 0xF0) refl

    at-e0 : (t : Bool) → eqb a 0xE0 ≡ t → Second a b
    at-e0 true q =
        let w : within 0xA0 0xBF b ≡ true = sym (rw (second, q)) ∙ e in
        let r = within-inv 0xA0 0xBF b w in
        let i = eqb-true a 0xE0 q in
        record { low = omega (arith, r.0); high = r.1; by-e0 = λ k. r.0; by-ed = λ k. absurd (omega (arith, i, k)); by-f0 = λ k. absurd (omega (arith, i, k)); by-f4 = λ k. absurd (omega (arith, i, k)) }
    at-e0 false q = at-ed (eqb-false a 0xE0 q) q (eqb a 0xED) refl

-- ==== the number

quotient : (p r : ℕ) → r < 64 → (p * 64 + r) / 64 ≡ p
quotient p r h = omega (arith, h)

remainder : (p r : ℕ) → r < 64 → (p * 64 + r) % 64 ≡ r
remainder p r h = omega (arith, h)

-- one scalar from 128 up has these bytes
pub record Encodes (bs : List ℕ) : Type 0 where
  pub number : ℕ
  pub from : 0x80 ≤ number
  pub good : scalar number ≡ true
  pub bytes : bs ≡ utf8 number

low_scalar : (x : ℕ) → x < 0xD800 → scalar x ≡ true
low_scalar x h = sym (scalar-low x h)

high_scalar : (x : ℕ) → 0xE000 ≤ x → x ≤ 0x10FFFF → scalar x ≡ true
unfolding within
high_scalar x h i = sym (scalar-high x (omega (arith, h)) true (rw (le-leb 0xE000 x h, le-leb x 0x10FFFF i)))

encodes-2 : (a b : ℕ) → 0xC2 ≤ a → a ≤ 0xDF → Second a b → Encodes (a ∷ b ∷ [])
unfolding utf8
encodes-2 a b h i s =
    let p = a - 0xC0 in
    let r = b - 0x80 in
    let x = p * 64 + r in
    let l = s.low in
    let m = s.high in
    let k : r < 64 = omega (arith, l, m) in
    let f : 0x80 ≤ x = omega (arith, h) in
    let g : x < 0x800 = omega (arith, i, k) in
    let c : 0xC0 + x / 64 ≡ a = ap (λ (y : ℕ). 0xC0 + y) (quotient p r k) ∙ omega (arith, h) in
    let d : 0x80 + x % 64 ≡ b = ap (λ (y : ℕ). 0x80 + y) (remainder p r k) ∙ omega (arith, l) in
    record { number = x; from = f; good = low_scalar x (omega (arith, g)); bytes = rw (utf8, le-ltb x 0x80 f, lt-ltb x 0x800 g, c, d) }

encodes-3 : (a b c : ℕ) → 0xE0 ≤ a → a ≤ 0xEF → Second a b → 0x80 ≤ c → c ≤ 0xBF → Encodes (a ∷ b ∷ c ∷ [])
unfolding utf8
encodes-3 a b c h i s l m = record { number = x; from = omega (arith, f); good = good (eqb a 0xED) refl; bytes = rw (utf8, le-ltb x 0x80 (omega (arith, f)), le-ltb x 0x800 f, lt-ltb x 0x10000 g, e1, e2, e3) }
  where
    p : ℕ
    p = a - 0xE0

    q : ℕ
    q = b - 0x80

    r : ℕ
    r = c - 0x80

    x : ℕ
    x = (p * 64 + q) * 64 + r

    jq : q < 64
    jq = let u = s.low in let v = s.high in omega (arith, u, v)

    jr : r < 64
    jr = omega (arith, l, m)

    first : (t : Bool) → eqb a 0xE0 ≡ t → 0x800 ≤ x
    first true e = let u = s.by-e0 (eqb-true a 0xE0 e) in omega (arith, u)
    first false e = let n = above a h (eqb-false a 0xE0 e) in omega (arith, n)
      where
        above : (y : ℕ) → 0xE0 ≤ y → (y ≡ 0xE0 → ⊥) → 0xE1 ≤ y
        above y u v = omega (arith, u, v)

    f : 0x800 ≤ x
    f = first (eqb a 0xE0) refl

    g : x < 0x10000
    g = omega (arith, i, jq, jr)

    e3 : 0x80 + x % 64 ≡ c
    e3 = ap (λ (y : ℕ). 0x80 + y) (remainder (p * 64 + q) r jr) ∙ omega (arith, l)

    e2 : 0x80 + x / 64 % 64 ≡ b
    e2 = ap (λ (y : ℕ). 0x80 + y % 64) (quotient (p * 64 + q) r jr) ∙ (ap (λ (y : ℕ). 0x80 + y) (remainder p q jq) ∙ (let u = s.low in omega (arith, u)))

    e1 : 0xE0 + x / 4096 ≡ a
    e1 = ap (λ (y : ℕ). 0xE0 + y) (sym (twice x) ∙ (ap (λ (y : ℕ). y / 64) (quotient (p * 64 + q) r jr) ∙ quotient p q jq)) ∙ omega (arith, h)

    good : (t : Bool) → eqb a 0xED ≡ t → scalar x ≡ true
    good true e = let u = s.by-ed (eqb-true a 0xED e) in let k = eqb-true a 0xED e in low_scalar x (omega (arith, u, k, jr))
    good false e = side (ltb a 0xED) refl
      where
        side : (t : Bool) → ltb a 0xED ≡ t → scalar x ≡ true
        side true n = let k = ltb-true a 0xED n in low_scalar x (omega (arith, k, jq, jr))
        side false n = let k : 0xEE ≤ a = past a (ltb-false a 0xED n) (eqb-false a 0xED e) in high_scalar x (omega (arith, k)) (omega (arith, g))
          where
            past : (y : ℕ) → 0xED ≤ y → (y ≡ 0xED → ⊥) → 0xEE ≤ y
            past y u v = omega (arith, u, v)

encodes-4 : (a b c d : ℕ) → 0xF0 ≤ a → a ≤ 0xF4 → Second a b → 0x80 ≤ c → c ≤ 0xBF → 0x80 ≤ d → d ≤ 0xBF → Encodes (a ∷ b ∷ c ∷ d ∷ [])
unfolding utf8
encodes-4 a b c d h i s l m n o =
    record { number = x; from = omega (arith, f); good = high_scalar x (omega (arith, f)) g; bytes = rw (utf8, le-ltb x 0x80 (omega (arith, f)), le-ltb x 0x800 (omega (arith, f)), le-ltb x 0x10000 f, e1, e2, e3, e4) }
  where
    p : ℕ
    p = a - 0xF0

    q : ℕ
    q = b - 0x80

    r : ℕ
    r = c - 0x80

    v : ℕ
    v = d - 0x80

    x : ℕ
    x = ((p * 64 + q) * 64 + r) * 64 + v

    jq : q < 64
    jq = let u = s.low in let w = s.high in omega (arith, u, w)

    jr : r < 64
    jr = omega (arith, l, m)

    jv : v < 64
    jv = omega (arith, n, o)

    first : (t : Bool) → eqb a 0xF0 ≡ t → 0x10000 ≤ x
    first true e = let u = s.by-f0 (eqb-true a 0xF0 e) in omega (arith, u)
    first false e = let k = above a h (eqb-false a 0xF0 e) in omega (arith, k)
      where
        above : (y : ℕ) → 0xF0 ≤ y → (y ≡ 0xF0 → ⊥) → 0xF1 ≤ y
        above y u w = omega (arith, u, w)

    f : 0x10000 ≤ x
    f = first (eqb a 0xF0) refl

    last : (t : Bool) → eqb a 0xF4 ≡ t → x ≤ 0x10FFFF
    last true e = let u = s.by-f4 (eqb-true a 0xF4 e) in let k = eqb-true a 0xF4 e in omega (arith, u, k, jr, jv)
    last false e = let k = below a i (eqb-false a 0xF4 e) in omega (arith, k, jq, jr, jv)
      where
        below : (y : ℕ) → y ≤ 0xF4 → (y ≡ 0xF4 → ⊥) → y ≤ 0xF3
        below y u w = omega (arith, u, w)

    g : x ≤ 0x10FFFF
    g = last (eqb a 0xF4) refl

    by-64 : x / 64 ≡ (p * 64 + q) * 64 + r
    by-64 = quotient ((p * 64 + q) * 64 + r) v jv

    by-4096 : x / 4096 ≡ p * 64 + q
    by-4096 = sym (twice x) ∙ (ap (λ (y : ℕ). y / 64) by-64 ∙ quotient (p * 64 + q) r jr)

    e4 : 0x80 + x % 64 ≡ d
    e4 = ap (λ (y : ℕ). 0x80 + y) (remainder ((p * 64 + q) * 64 + r) v jv) ∙ omega (arith, n)

    e3 : 0x80 + x / 64 % 64 ≡ c
    e3 = ap (λ (y : ℕ). 0x80 + y % 64) by-64 ∙ (ap (λ (y : ℕ). 0x80 + y) (remainder (p * 64 + q) r jr) ∙ omega (arith, l))

    e2 : 0x80 + x / 4096 % 64 ≡ b
    e2 = ap (λ (y : ℕ). 0x80 + y % 64) by-4096 ∙ (ap (λ (y : ℕ). 0x80 + y) (remainder p q jq) ∙ (let u = s.low in omega (arith, u)))

    e1 : 0xF0 + x / 262144 ≡ a
    e1 = ap (λ (y : ℕ). 0xF0 + y) (sym (thrice x) ∙ (ap (λ (y : ℕ). y / 64) by-4096 ∙ quotient p q jq)) ∙ omega (arith, h)

-- ==== what is taken is written

-- what a sequence that is taken says of its bytes
record Parts (xs : List ℕ) (n : ℕ) : Type 0 where
  size : lead (get_or xs 0 0) ≡ n
  next : second (get_or xs 0 0) (get_or xs 1 0) ≡ true
  rest : further (lead (get_or xs 0 0)) xs ≡ true

parts : (xs : List ℕ) (n : ℕ) → sequence xs ≡ suc n → Parts xs (suc n)
unfolding sequence
parts xs n e = go (second (get_or xs 0 0) (get_or xs 1 0)) (further (lead (get_or xs 0 0)) xs) refl refl
  where
    go : (s t : Bool) → second (get_or xs 0 0) (get_or xs 1 0) ≡ s → further (lead (get_or xs 0 0)) xs ≡ t → Parts xs (suc n)
    go true true p q = record { size = sym (rw (sequence, p, q)) ∙ e; next = p; rest = q }
    go true false p q = let z : ◌≡◌ {A = ℕ} 0 (suc n) = sym (rw (sequence, p, q)) ∙ e in absurd (omega (arith, z))
    go false t p q = let z : ◌≡◌ {A = ℕ} 0 (suc n) = sym (rw (sequence, p)) ∙ e in absurd (omega (arith, z))

-- RFC 3629: a sequence that is taken is what is written for one scalar from 128 up
pub taken-encoded : (xs : List ℕ) (n : ℕ) → sequence xs ≡ suc n → Encodes (take (suc n) xs)
unfolding further
taken-encoded xs n e = shape xs (parts xs n e)
  where
    shape : (ys : List ℕ) → Parts ys (suc n) → Encodes (take (suc n) ys)
    shape [] w = let k = second-known 0 0 w.next in let l = k.low in absurd (omega (arith, l))
    shape (a ∷ []) w = let k = second-known a 0 w.next in let l = k.low in absurd (omega (arith, l))
    shape (a ∷ b ∷ t) w = by (lead-view a)
      where
        s : Second a b
        s = second-known a b w.next

        sized : (k : ℕ) → lead a ≡ k → suc n ≡ k
        sized k q = sym w.size ∙ q

        -- the third byte, in a sequence of three
        third : 0xE0 ≤ a → a ≤ 0xEF → lead a ≡ 3 → (t : List ℕ) → further 3 (a ∷ b ∷ t) ≡ true → Encodes (take 3 (a ∷ b ∷ t))
        third h i q [] r = let v = within-inv 0x80 0xBF 0 (and_left (tail 0) true r) in let l = v.0 in absurd (omega (arith, l))
        third h i q (c ∷ t) r = let v = within-inv 0x80 0xBF c (and_left (tail c) true r) in encodes-3 a b c h i s v.0 v.1

        -- the third and the fourth, in one of four
        fourth : 0xF0 ≤ a → a ≤ 0xF4 → lead a ≡ 4 → (t : List ℕ) → further 4 (a ∷ b ∷ t) ≡ true → Encodes (take 4 (a ∷ b ∷ t))
        fourth h i q [] r = let v = within-inv 0x80 0xBF 0 (and_left (tail 0) (tail 0) r) in let l = v.0 in absurd (omega (arith, l))
        fourth h i q (c ∷ []) r = let v = within-inv 0x80 0xBF 0 (and_right (tail c) (tail 0) r) in let l = v.0 in absurd (omega (arith, l))
        fourth h i q (c ∷ d ∷ t) r =
            let v = within-inv 0x80 0xBF c (and_left (tail c) (tail d) r) in
            let z = within-inv 0x80 0xBF d (and_right (tail c) (tail d) r) in
            encodes-4 a b c d h i s v.0 v.1 z.0 z.1

        by : Lead a → Encodes (take (suc n) (a ∷ b ∷ t))
        by (none q) = let z = sized 0 q in absurd (omega (arith, z))
        by (two h i q) = subst (λ (k : ℕ). Encodes (take k (a ∷ b ∷ t))) (sym (sized 2 q)) (encodes-2 a b h i s)
        by (three h i q) = subst (λ (k : ℕ). Encodes (take k (a ∷ b ∷ t))) (sym (sized 3 q)) (third h i q t (sym (ap (λ (k : ℕ). further k (a ∷ b ∷ t)) q) ∙ w.rest))
        by (four h i q) = subst (λ (k : ℕ). Encodes (take k (a ∷ b ∷ t))) (sym (sized 4 q)) (fourth h i q t (sym (ap (λ (k : ℕ). further k (a ∷ b ∷ t)) q) ∙ w.rest))

-- and of no other number: a sequence says exactly one code point
pub encodes-once : (bs : List ℕ) (e f : Encodes bs) → e.number ≡ f.number
encodes-once bs e f = (code-point-told e.number f.number [] [] (ap (λ (l : List ℕ). l ++ []) (sym e.bytes ∙ f.bytes))).0

-- the bytes of ü, with others behind them
taken-instance : Encodes (0xC3 ∷ 0xBC ∷ [])
unfolding opened
taken-instance = taken-encoded (0xC3 ∷ 0xBC ∷ bytes "cher") 1 refl
