-- Texts, a byte at a time: a code of the report and what it stands for, a byte between quotes, a word. What holds of each byte below a bound holds because a
-- test that is computed holds at all of them.
use Prim.Native.Nat.{ℕ, zero, suc, ◌+◌, ◌*◌, ◌/◌, ◌%◌, ◌≤◌, ◌<◌}
use native.Mathlib.Omega.{arith}
use mathlib.Core.Path.{◌≡◌, refl}
use mathlib.Core.Bool.{Bool, true, false, not, ◌&&◌, ◌||◌}
use mathlib.Core.List.{List, [], ◌∷◌, ◌++◌}
use lib.Dec.{T, eqb, leb}
use lib.ListN.{length, get_or, drop}
use borrow.Author.Tests.{eqb-true, leb-true, leb-false, lt-leb, ne_eqb}
use Rattle.base_sequences.proofs.Booleans.{no_true, both, and_left, and_right, and_none}
use Rattle.base_sequences.proofs.Tables.{tested, tested_at}
use Rattle.base_readers.specs.Texts.{within, one_of}
use Rattle.report_rules.specs.Report.{hex_digit}
use Rattle.write_rules.specs.Entries.{each, is_hex, hex_value}
use Rattle.explain_rules.specs.Texts.{is_code, code_byte, code_more, decoded_past, decoded, in_word, is_word, quoted_byte, quoted_bytes, shown_text}

pub T_true : (b : Bool) → T b → b ≡ true
T_true true t = refl
T_true false t = absurd t

-- ==== hex digits

-- a byte's two digits, and the byte that they stand for
abbrev pair_of : ℕ → Bool
pair_of b = is_hex (hex_digit (b / 16)) && (is_hex (hex_digit (b % 16)) && eqb (hex_value (hex_digit (b / 16)) * 16 + hex_value (hex_digit (b % 16))) b)

pairs : T (tested pair_of 0 256)
unfolding is_hex hex_value within
pairs = tt

module _ (b : ℕ) (h : b < 256) where
  pair_is : pair_of b ≡ true
  pair_is = T_true (pair_of b) (tested_at pair_of 256 b pairs h)

  pair-rest : (is_hex (hex_digit (b % 16)) && eqb (hex_value (hex_digit (b / 16)) * 16 + hex_value (hex_digit (b % 16))) b) ≡ true
  pair-rest = and_right (is_hex (hex_digit (b / 16))) _ pair_is

  pub high-hex : is_hex (hex_digit (b / 16)) ≡ true
  high-hex = and_left (is_hex (hex_digit (b / 16))) (is_hex (hex_digit (b % 16)) && eqb (hex_value (hex_digit (b / 16)) * 16 + hex_value (hex_digit (b % 16))) b) pair_is

  pub low-hex : is_hex (hex_digit (b % 16)) ≡ true
  low-hex = and_left (is_hex (hex_digit (b % 16))) (eqb (hex_value (hex_digit (b / 16)) * 16 + hex_value (hex_digit (b % 16))) b) pair-rest

  pub digits_value : hex_value (hex_digit (b / 16)) * 16 + hex_value (hex_digit (b % 16)) ≡ b
  digits_value = eqb-true (hex_value (hex_digit (b / 16)) * 16 + hex_value (hex_digit (b % 16))) b (and_right (is_hex (hex_digit (b % 16))) (eqb (hex_value (hex_digit (b / 16)) * 16 + hex_value (hex_digit (b % 16))) b) pair-rest)

-- ==== the text of a column

pub past-drop : (k : ℕ) (l : List ℕ) → decoded_past k l ≡ decoded (drop k l)
unfolding decoded_past
past-drop zero l = refl
past-drop (suc k) [] = refl
past-drop (suc k) (x ∷ xs) = past-drop k xs

pub decoded-step : (l : List ℕ) → 0 < length l → decoded l ≡ code_byte l ∷ decoded (drop (suc (code_more l)) l)
unfolding decoded_past
decoded-step [] h = absurd (omega arith)
decoded-step (x ∷ xs) h = rw (past-drop (code_more (x ∷ xs)) xs)

module _ (l : List ℕ) where
  pub byte-code : is_code l ≡ true → code_byte l ≡ hex_value (get_or l 1 0) * 16 + hex_value (get_or l 2 0)
  unfolding code_byte
  byte-code e = rw e

  pub more-code : is_code l ≡ true → code_more l ≡ 2
  unfolding code_more
  more-code e = rw e

  pub byte-itself : is_code l ≡ false → code_byte l ≡ get_or l 0 0
  unfolding code_byte
  byte-itself e = rw e

  pub more-itself : is_code l ≡ false → code_more l ≡ 0
  unfolding code_more
  more-itself e = rw e

-- a code has its two digits
zero-hex : is_hex 0 ≡ false
unfolding is_hex within
zero-hex = refl

pub code-long : (l : List ℕ) → is_code l ≡ true → 3 ≤ length l
unfolding is_code
code-long [] e = absurd (both (is_hex 0) zero-hex (and_left (is_hex 0) (is_hex 0) (and_right (eqb 0 37) (is_hex 0 && is_hex 0) e)))
code-long (x ∷ []) e = absurd (both (is_hex 0) zero-hex (and_left (is_hex 0) (is_hex 0) (and_right (eqb x 37) (is_hex 0 && is_hex 0) e)))
code-long (x ∷ (y ∷ [])) e = absurd (both (is_hex 0) zero-hex (and_right (is_hex y) (is_hex 0) (and_right (eqb x 37) (is_hex y && is_hex 0) e)))
code-long (x ∷ (y ∷ (z ∷ l))) e = omega arith

-- ==== a byte between quotes

module _ (x : ℕ) where
  pub quoted-mark : (eqb x 34 || eqb x 92) ≡ true → quoted_byte x ≡ 92 ∷ x ∷ []
  unfolding quoted_byte
  quoted-mark e = rw e

  module _ (f : (eqb x 34 || eqb x 92) ≡ false) where
    pub quoted-itself : within 32 126 x ≡ true → quoted_byte x ≡ x ∷ []
    unfolding quoted_byte
    quoted-itself e = rw (f, e)

    pub quoted-hex : within 32 126 x ≡ false → quoted_byte x ≡ 92 ∷ 120 ∷ hex_digit (x / 16 % 16) ∷ hex_digit (x % 16) ∷ []
    unfolding quoted_byte
    quoted-hex e = rw (f, e)

-- ==== words

-- no byte of a word is from 123 up
word-above : (x : ℕ) → 122 < x → in_word x ≡ false
unfolding in_word within one_of
word-above x h =
    let a : 57 < x = omega arith in
    let b : 90 < x = omega arith in
    rw (lt-leb x 57 a, and_none (leb 48 x), lt-leb x 90 b, and_none (leb 65 x), lt-leb x 122 h, and_none (leb 97 x), ne_eqb x 43 (λ q. omega (arith, q)), ne_eqb x 45 (λ q. omega (arith, q)), ne_eqb x 46 (λ q. omega (arith, q)), ne_eqb x 47 (λ q. omega (arith, q)), ne_eqb x 64 (λ q. omega (arith, q)), ne_eqb x 95 (λ q. omega (arith, q)))

word_below : (x : ℕ) → in_word x ≡ true → x < 123
word_below x e = go (leb x 122) refl
  where
    go : (t : Bool) → leb x 122 ≡ t → x < 123
    go true q = omega (arith, leb-true x 122 q)
    go false q = absurd (both (in_word x) (word-above x (omega (arith, leb-false x 122 q))) e)

-- a byte of a word stands for itself between quotes too
abbrev alike_of : ℕ → Bool
alike_of x = not (in_word x) || (not (eqb x 34 || eqb x 92) && within 32 126 x)

alikes : T (tested alike_of 0 123)
unfolding in_word within one_of
alikes = tt

pub word-quoted : (x : ℕ) → in_word x ≡ true → quoted_byte x ≡ x ∷ []
word-quoted x e =
    let a : alike_of x ≡ true = T_true (alike_of x) (tested_at alike_of 123 x alikes (word_below x e)) in
    let b : (not (eqb x 34 || eqb x 92) && within 32 126 x) ≡ true = rw e at a in
    quoted-itself x (flip (eqb x 34 || eqb x 92) (and_left (not (eqb x 34 || eqb x 92)) (within 32 126 x) b)) (and_right (not (eqb x 34 || eqb x 92)) (within 32 126 x) b)
  where
    flip : (t : Bool) → not t ≡ true → t ≡ false
    flip true q = absurd (no_true q)
    flip false q = refl

each-quoted : (t : List ℕ) → each in_word t ≡ true → quoted_bytes t ≡ t
unfolding each quoted_bytes
each-quoted [] e = refl
each-quoted (x ∷ t) e =
    rw (word-quoted x (and_left (in_word x) (each in_word t) e), each-quoted t (and_right (in_word x) (each in_word t) e))

pub word_each : (t : List ℕ) → is_word t ≡ true → each in_word t ≡ true
unfolding is_word
word_each [] e = absurd (no_true e)
word_each (x ∷ t) e = e

-- a word is shown with the bytes that it would have between quotes
pub words-alike : (t : List ℕ) → is_word t ≡ true → quoted_bytes t ≡ t
words-alike t e = each-quoted t (word_each t e)

module _ (t : List ℕ) where
  pub shown-word : is_word t ≡ true → shown_text t ≡ t
  unfolding shown_text
  shown-word e = rw e

  pub shown-quoted : is_word t ≡ false → shown_text t ≡ 34 ∷ (quoted_bytes t ++ (34 ∷ []))
  unfolding shown_text
  shown-quoted e = rw e
