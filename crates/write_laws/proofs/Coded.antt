-- Texts as the report writes them: what is written is read back, for bytes; and what is read is what is written. For one byte by computing it
-- for all 256, for a text by repeating that.
use Prim.Native.Char.{code}
use Prim.Native.Nat.{ℕ, suc, ◌+◌, ◌*◌, ◌/◌, ◌%◌, ◌≤◌, ◌<◌, zero-le, suc-le-suc}
use native.Mathlib.Nat.{le_refl}
use native.Mathlib.Omega.{arith}
use mathlib.Core.Path.{◌≡◌, refl, sym, ◌∙◌}
use mathlib.Core.Bool.{Bool, true, false, not, ◌&&◌, ◌||◌}
use mathlib.Core.List.{List, [], ◌∷◌, ◌++◌}
use lib.Dec.{T, eqb, ltb, leb}
use lib.ListN.{length, take}
use borrow.Author.Tests.{eqb-true, ltb-true, lt-ltb, leb-true, le-leb}
use Rattle.base_sequences.proofs.Booleans.{no_true, both, and_left, and_right, true-not}
use Rattle.base_sequences.proofs.Tables.{tested, tested_at}
use Rattle.base_readers.specs.Texts.{within, starts}
use Rattle.base_readers.specs.Parsers.{nothing, got, Parser, when, byte, either}
use Rattle.base_readers.specs.Locality.{Any, Starts, Within}
use Rattle.base_readers.proofs.Sequencing.{no-got, bind-none, byte-not, either_second}
use Rattle.base_readers.proofs.Bounds.{bind-within, within-weaker, give-within, when-within, byte-within, either-within}
use Rattle.lexis_rules.specs.Bytes.{in_class}
use Rattle.report_rules.specs.Report.{hex_digit, plain, escape}
use Rattle.write_rules.specs.Entries.{each, single, is_hex, hex_value, escaped, coded}
use Rattle.write_rules.specs.Promise.{Bytes}
use Rattle.write_laws.proofs.Readback.{Reads, Each, bind-reads, none_reads, last-reads, give-reads, when-reads, byte_reads, first_reads, second_reads, joined, several-reads}
use Rattle.write_laws.proofs.Finds.{Finds, bind-finds, give-finds, when-finds, byte-finds, either-finds, several-finds}

-- ==== one byte

pub single_reads : (c : ℕ → Bool) (x : ℕ) → c x ≡ true → Reads (single c) (x ∷ []) x Any
unfolding single
single_reads c x e t g = rw (single, e)

pub single-none : (c : ℕ → Bool) (xs : List ℕ) → starts c xs ≡ false → single c xs ≡ nothing
unfolding single starts
single-none c [] e = refl
single-none c (x ∷ xs) e = rw (single, e)

pub single-finds : (c : ℕ → Bool) → Finds (single c) (λ a u. (u ≡ a ∷ []) × (c a ≡ true))
unfolding single
single-finds c [] a n h = absurd (no-got h)
single-finds c (x ∷ xs) a n h = go (c x) refl
  where
    go : (t : Bool) → c x ≡ t → (take n (x ∷ xs) ≡ a ∷ []) × (c a ≡ true)
    go true e =
        let w : got x 1 ≡ got a n = rw (single, e) at h in
        let i : x ≡ a = cc in
        let l : 1 ≡ n = cc in
        (rw (← l, i), rw (← i) e)
    go false e = absurd (no-got (rw (single, e) at h))

pub single-within : (c : ℕ → Bool) → Within 1 (single c)
unfolding single
single-within c [] a n h = absurd (no-got h)
single-within c (x ∷ xs) a n h = go (c x) refl
  where
    go : (t : Bool) → c x ≡ t → (n ≤ suc (length xs)) × (1 ≤ n)
    go true e =
        let w : got x 1 ≡ got a n = rw (single, e) at h in
        let l : 1 ≡ n = cc in
        (omega arith, omega arith)
    go false e = absurd (no-got (rw (single, e) at h))

-- ==== hex digits: by a computed test of all bytes, or of all pairs of digits

-- what holds of a byte and its two digits
abbrev pair_of : ℕ → Bool
pair_of b = is_hex (hex_digit (b / 16)) && (is_hex (hex_digit (b % 16)) && eqb (hex_value (hex_digit (b / 16)) * 16 + hex_value (hex_digit (b % 16))) b)

pairs : T (tested pair_of 0 256)
unfolding is_hex hex_value within
pairs = tt

T_true : (b : Bool) → T b → b ≡ true
T_true true t = refl
T_true false t = absurd t

pair_is : (b : ℕ) → b < 256 → pair_of b ≡ true
pair_is b h = T_true (pair_of b) (tested_at pair_of 256 b pairs h)

-- two digits, and the byte that they write
abbrev back_of : ℕ → ℕ → Bool
back_of h l =
    not (is_hex h && is_hex l)
    || (ltb (hex_value h * 16 + hex_value l) 256
    && (eqb (hex_digit ((hex_value h * 16 + hex_value l) / 16)) h && eqb (hex_digit ((hex_value h * 16 + hex_value l) % 16)) l))

backs : T (tested (λ h. tested (back_of h) 0 71) 0 71)
unfolding is_hex hex_value within
backs = tt

hex-bound : (x : ℕ) → is_hex x ≡ true → x < 71
unfolding is_hex within
hex-bound x e = go (leb x 70) refl
  where
    upper : (a b c d : Bool) → ((a && b) || (c && d)) ≡ true → b ≡ false → d ≡ false → ⊥
    upper true true c d e p q = no_true (sym p)
    upper true false c true e p q = no_true (sym q)
    upper true false true false e p q = no_true e
    upper true false false false e p q = no_true e
    upper false b true true e p q = no_true (sym q)
    upper false b true false e p q = no_true e
    upper false b false d e p q = no_true e

    go : (t : Bool) → leb x 70 ≡ t → x < 71
    go true q = suc-le-suc (leb-true x 70 q)
    go false q = absurd (upper (leb 48 x) (leb x 57) (leb 65 x) (leb x 70) e (lower (leb x 57) refl) q)
      where
        lower : (t : Bool) → leb x 57 ≡ t → leb x 57 ≡ false
        lower true r = absurd (both (leb x 70) q (le-leb x 70 (omega (arith, leb-true x 57 r))))
        lower false r = r

back_is : (h l : ℕ) → is_hex h ≡ true → is_hex l ≡ true → back_of h l ≡ true
back_is h l p q =
    T_true (back_of h l) (tested_at (back_of h) 71 l (tested_at (λ h. tested (back_of h) 0 71) 71 h backs (hex-bound h p)) (hex-bound l q))

abbrev value_of : ℕ → ℕ → ℕ
value_of h l = hex_value h * 16 + hex_value l

back-all : (h l : ℕ) → is_hex h ≡ true → is_hex l ≡ true → (ltb (value_of h l) 256 ≡ true) × (hex_digit (value_of h l / 16) ≡ h) × (hex_digit (value_of h l % 16) ≡ l)
back-all h l p q =
    let v = value_of h l in
    let e : (ltb v 256 && (eqb (hex_digit (v / 16)) h && eqb (hex_digit (v % 16)) l)) ≡ true = rw (p, q) at (back_is h l p q) in
    let r = and_right (ltb v 256) _ e in
    (and_left (ltb v 256) _ e, eqb-true _ _ (and_left (eqb (hex_digit (v / 16)) h) _ r), eqb-true _ _ (and_right (eqb (hex_digit (v / 16)) h) _ r))

-- ==== a byte as the report writes it

abbrev pub spelt : ℕ → List ℕ
spelt b = escape (b ∷ [])

spelt-plain : (b : ℕ) → plain b ≡ true → spelt b ≡ b ∷ []
unfolding escape
spelt-plain b e = rw (escape, e)

spelt-other : (b : ℕ) → plain b ≡ false → spelt b ≡ 37 ∷ hex_digit (b / 16) ∷ hex_digit (b % 16) ∷ []
unfolding escape
spelt-other b e = rw (escape, e)

pub escape-joined : (t : List ℕ) → escape t ≡ joined spelt t
unfolding escape
escape-joined [] = refl
escape-joined (x ∷ xs) = go (plain x) refl (escape-joined xs)
  where
    go : (b : Bool) → plain x ≡ b → escape xs ≡ joined spelt xs → escape (x ∷ xs) ≡ spelt x ++ joined spelt xs
    go true e ih = rw (spelt-plain x e, escape, e, ih)
    go false e ih = rw (spelt-other x e, escape, e, ih)

abbrev pub coded_byte : Parser ℕ
coded_byte = either (single plain) escaped

no_plain : plain 37 ≡ false
unfolding plain in_class within
no_plain = refl

escaped-reads : (b : ℕ) → b < 256 → plain b ≡ false → Reads escaped (37 ∷ hex_digit (b / 16) ∷ hex_digit (b % 16) ∷ []) b Any
unfolding escaped
escaped-reads b i e =
    let h = hex_digit (b / 16) in
    let l = hex_digit (b % 16) in
    let p = pair_is b i in
    let q = and_right (is_hex h) _ p in
    let v : value_of h l ≡ b = eqb-true _ _ (and_right (is_hex l) _ q) in
    let n : not (plain (value_of h l)) ≡ true = rw v (true-not (plain b) e) in
    bind-reads (byte 37) _ (37 ∷ []) (h ∷ l ∷ []) tt b Any Any (byte_reads 37)
    (bind-reads (single is_hex) _ (h ∷ []) (l ∷ []) h b Any Any (single_reads is_hex h (and_left (is_hex h) _ p))
    (last-reads (single is_hex) _ (l ∷ []) l b Any (single_reads is_hex l (and_left (is_hex l) _ q))
    (none_reads (when (not (plain (value_of h l)))) _ [] tt b Any Any (when-reads (not (plain (value_of h l))) Any n) (rw v (give-reads b Any)) (λ t g. tt)))
    (λ t g. tt))
    (λ t g. tt)

pub byte-coded : (b : ℕ) → b < 256 → Reads coded_byte (spelt b) b Any
unfolding starts
byte-coded b i = go (plain b) refl
  where
    go : (t : Bool) → plain b ≡ t → Reads coded_byte (spelt b) b Any
    go true e = rw (spelt-plain b e) (first_reads (single plain) escaped (b ∷ []) b Any (single_reads plain b e))
    go false e =
        let w : List ℕ = 37 ∷ hex_digit (b / 16) ∷ hex_digit (b % 16) ∷ [] in
        rw (spelt-other b e) (second_reads (single plain) escaped w b Any (λ t g. single-none plain (w ++ t) no_plain) (escaped-reads b i e))

pub spelt-long : (b : ℕ) → 1 ≤ length (spelt b)
spelt-long b = go (plain b) refl
  where
    go : (t : Bool) → plain b ≡ t → 1 ≤ length (spelt b)
    go true e = rw (spelt-plain b e) (le_refl _)
    go false e = rw (spelt-other b e) (suc-le-suc zero-le)

-- ==== texts

-- LF comes next
abbrev pub Fed : List ℕ → Type 0
Fed = Starts (λ b. eqb b (code "\n"))

pub fed-none : (t : List ℕ) → Fed t → coded_byte t ≡ nothing
unfolding starts plain in_class within escaped
fed-none [] g = absurd (no_true g)
fed-none (x ∷ t) g =
    let e : x ≡ 10 = eqb-true x 10 g in
    rw e (either_second (single plain) escaped (10 ∷ t) (single-none plain (10 ∷ t) refl) ∙ bind-none (byte 37) _ (10 ∷ t) (byte-not 37 (10 ∷ t) refl))

pub bytes-each : (t : List ℕ) → Bytes t → Each (λ b. b < 256) t
unfolding each
bytes-each [] e = tt
bytes-each (x ∷ t) e = (ltb-true x 256 (and_left (ltb x 256) _ e), bytes-each t (and_right (ltb x 256) _ e))

pub coded-reads : (t : List ℕ) → Bytes t → Reads coded (escape t) t Fed
unfolding coded
coded-reads t h =
    rw (escape-joined t)
    (several-reads coded_byte spelt (λ b. b < 256) Any Fed byte-coded (λ a i t. tt) (λ a i. spelt-long a) (λ t g. (tt, fed-none t g)) t (bytes-each t h))

plain-bound : (b : ℕ) → plain b ≡ true → ltb b 256 ≡ true
unfolding plain in_class within
plain-bound b e =
    lt-ltb b 256 (omega (arith, leb-true b 126 (and_right (leb 33 b) (leb b 126) (and_left (leb 33 b && leb b 126) _ e))))

abbrev Spelt : ℕ → List ℕ → Type 0
Spelt b u = (u ≡ spelt b) × (ltb b 256 ≡ true)

abbrev Hexed : ℕ → List ℕ → Type 0
Hexed a u = (u ≡ a ∷ []) × (is_hex a ≡ true)

escaped-finds : Finds escaped Spelt
unfolding escaped
escaped-finds =
    bind-finds (byte 37) _ (λ b u. u ≡ 37 ∷ []) Spelt (byte-finds 37)
    (λ a u i. bind-finds (single is_hex) _ Hexed (λ b y. Spelt b (u ++ y)) (single-finds is_hex)
    (λ h v j. bind-finds (single is_hex) _ Hexed (λ b y. Spelt b (u ++ (v ++ y))) (single-finds is_hex)
    (λ l w k. bind-finds (when (not (plain (value_of h l)))) _ (λ b u. (not (plain (value_of h l)) ≡ true) × (u ≡ [])) (λ b y. Spelt b (u ++ (v ++ (w ++ y)))) (when-finds (not (plain (value_of h l))))
    (λ c x m xs b n e. found h l u v w x i j k m (take n xs) b (give-finds (value_of h l) xs b n e)))))
  where
    not_plain : (b : Bool) → not b ≡ true → b ≡ false
    not_plain true e = absurd (no_true e)
    not_plain false e = refl

    found : (h l : ℕ) (u v w x : List ℕ) → u ≡ 37 ∷ [] → (v ≡ h ∷ []) × (is_hex h ≡ true) → (w ≡ l ∷ []) × (is_hex l ≡ true)
        → (not (plain (value_of h l)) ≡ true) × (x ≡ []) → (y : List ℕ) (b : ℕ) → (value_of h l ≡ b) × (y ≡ []) → (u ++ (v ++ (w ++ (x ++ y))) ≡ spelt b) × (ltb b 256 ≡ true)
    found h l u v w x i j k m y b n =
        let z = back-all h l j.1 k.1 in
        let s : spelt (value_of h l) ≡ 37 ∷ h ∷ l ∷ [] = spelt-other (value_of h l) (not_plain _ m.0) ∙ rw (z.1, z.2) in
        (rw (i, j.0, k.0, m.1, n.1, ← n.0, s), rw (← n.0) z.0)

pub coded-byte-finds : Finds coded_byte (λ b u. (u ≡ spelt b) × (ltb b 256 ≡ true))
coded-byte-finds =
    either-finds (single plain) escaped Spelt (λ xs a n h. let v = single-finds plain xs a n h in (v.0 ∙ sym (spelt-plain a v.1), plain-bound a v.1)) escaped-finds

pub coded-byte-within : Within 1 coded_byte
unfolding escaped
coded-byte-within =
    either-within 1 (single plain) escaped (single-within plain)
    (bind-within 1 (byte 37) _ (byte-within 37)
    (λ u. bind-within 0 (single is_hex) _ (within-weaker 0 1 (single is_hex) (single-within is_hex) zero-le)
    (λ h. bind-within 0 (single is_hex) _ (within-weaker 0 1 (single is_hex) (single-within is_hex) zero-le)
    (λ l. bind-within 0 (when _) _ (when-within _) (λ u. give-within _)))))

pub coded-finds : Finds coded (λ t u. (u ≡ escape t) × Bytes t)
unfolding coded each
coded-finds =
    several-finds coded_byte coded-byte-within (λ b u. (u ≡ spelt b) × (ltb b 256 ≡ true)) (λ t u. (u ≡ escape t) × Bytes t) coded-byte-finds (unfold escape in (refl, refl))
    (λ a u l v r s. (rw (r.0, s.0, escape-joined l, escape-joined (a ∷ l)), rw r.1 s.1))
