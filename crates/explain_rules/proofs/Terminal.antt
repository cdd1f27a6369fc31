-- Every byte of what is said is one that a terminal can be shown: our own words by computing them, texts because any other byte of them is shown by digits.
use Prim.Native.Nat.{ℕ, ◌≤◌, ◌<◌, zero, suc, ◌/◌, ◌%◌}
use native.Mathlib.Omega.{arith}
use native.Mathlib.Nat.{le_of_suc-le-suc}
use mathlib.Core.Path.{◌≡◌, refl}
use mathlib.Core.Bool.{Bool, true, false, cond, ◌&&◌, ◌||◌}
use mathlib.Core.List.{List, [], ◌∷◌, ◌++◌}
use mathlib.Core.Logic.{◌⊎◌, inl, inr}
use lib.Dec.{T, eqb, leb}
use lib.ListN.{length, get_or}
use borrow.Author.Tests.{eqb-true, leb-true}
use Rattle.base_sequences.proofs.Booleans.{and_left, and_right, or_right}
use Rattle.base_sequences.proofs.Tables.{tested, tested_at}
use Rattle.base_readers.specs.Texts.{bytes, within, same}
use Rattle.base_readers.proofs.Texts.{all}
use Rattle.report_rules.specs.Report.{hex_digit}
use Rattle.explain_rules.specs.declared.Line.{Line}
use Rattle.explain_rules.specs.declared.Line.TheVariants.{Field, Identifier, Version, NoResult, Method, Reason, Property, Other}
use Rattle.explain_rules.specs.Explained.{column, behind, kind_of_line, shown, text, whose_words, answer_words, count_words, field_words, method_words, property_words, words, goes_on, ended, lines_words}
use Rattle.explain_rules.specs.Texts.{decoded, is_word, quoted_byte, quoted_bytes, shown_text}
use Rattle.explain_rules.specs.Promise.{plain}
use Rattle.explain_rules.proofs.Texts.{T_true, quoted-mark, quoted-itself, quoted-hex, words-alike, shown-word, shown-quoted}

-- ==== lists

pub record AllPlain (l : List ℕ) : Type 0 where
  pub holds : all plain l ≡ true

-- by computing it
spelled : {l : List ℕ} → all plain l ≡ true → AllPlain l
spelled e = record { holds = e }

all_both : (a b : List ℕ) → AllPlain a → AllPlain b → AllPlain (a ++ b)
all_both [] b p q = q
all_both (x ∷ a) b p q =
    let r = all_both a b (record { holds = and_right (plain x) (all plain a) p.holds }) q in
    record { holds = rw (and_left (plain x) (all plain a) p.holds) r.holds }

all-cond : (t : Bool) (a b : List ℕ) → AllPlain a → AllPlain b → AllPlain (cond t a b)
all-cond true a b p q = p
all-cond false a b p q = q

-- a byte of such a list
pub all-at : (l : List ℕ) → all plain l ≡ true → (k : ℕ) → k < length l → plain (get_or l k 0) ≡ true
all-at [] p k h = absurd (omega arith)
all-at (x ∷ l) p zero h = and_left (plain x) (all plain l) p
all-at (x ∷ l) p (suc k) h = all-at l (and_right (plain x) (all plain l) p) k (le_of_suc-le-suc h)

-- ==== texts

-- a hex digit, whatever byte it is of
abbrev digit_of : ℕ → Bool
digit_of n = plain (hex_digit n)

digits : T (tested digit_of 0 16)
unfolding plain within
digits = tt

digit-plain : (n : ℕ) → plain (hex_digit (n % 16)) ≡ true
digit-plain n = T_true (digit_of (n % 16)) (tested_at digit_of 16 (n % 16) digits (omega arith))

mark-plain : (x : ℕ) → (eqb x 34 || eqb x 92) ≡ true → plain x ≡ true
unfolding plain within
mark-plain x e = go (eqb x 34) refl
  where
    go : (b : Bool) → eqb x 34 ≡ b → plain x ≡ true
    go true q = rw (eqb-true x 34 q)
    go false q = let p : eqb x 92 ≡ true = rw q at e in rw (eqb-true x 92 p)

within-plain : (x : ℕ) → within 32 126 x ≡ true → plain x ≡ true
unfolding plain
within-plain x e = or_right (eqb x 10) (within 32 126 x) e

hex-plain : (x : ℕ) → AllPlain (92 ∷ 120 ∷ hex_digit (x / 16 % 16) ∷ hex_digit (x % 16) ∷ [])
unfolding plain within
hex-plain x = spelled (rw (digit-plain (x / 16), digit-plain x))

byte-plain : (x : ℕ) → AllPlain (quoted_byte x)
unfolding plain within
byte-plain x = go (eqb x 34 || eqb x 92) (within 32 126 x) refl refl
  where
    go : (a b : Bool) → (eqb x 34 || eqb x 92) ≡ a → within 32 126 x ≡ b → AllPlain (quoted_byte x)
    go true b e q = rw (quoted-mark x e) (spelled (rw (mark-plain x e)))
    go false true f q = rw (quoted-itself x f q) (spelled (rw (within-plain x q)))
    go false false f q = rw (quoted-hex x f q) (hex-plain x)

quoted-plain : (t : List ℕ) → AllPlain (quoted_bytes t)
unfolding quoted_bytes
quoted-plain [] = spelled refl
quoted-plain (x ∷ t) = all_both (quoted_byte x) (quoted_bytes t) (byte-plain x) (quoted-plain t)

shown-plain : (t : List ℕ) → AllPlain (shown_text t)
unfolding plain within
shown-plain t = go (is_word t) refl
  where
    go : (b : Bool) → is_word t ≡ b → AllPlain (shown_text t)
    go true e = rw (shown-word t e) (rw (words-alike t e) at (quoted-plain t))
    go false e = rw (shown-quoted t e) (all_both (34 ∷ []) _ (spelled refl) (all_both (quoted_bytes t) (34 ∷ []) (quoted-plain t) (spelled refl)))

text-plain : (l : List ℕ) → AllPlain (text l)
text-plain l = shown-plain (decoded (column l))

-- ==== words

whose-plain : (w : List ℕ) → AllPlain (whose_words w)
unfolding whose_words plain within
whose-plain w =
    all-cond (same w (bytes "own")) _ _ (spelled refl) (all-cond (same w (bytes "other")) _ _ (spelled refl) (spelled refl))

answer-plain : (w : List ℕ) → AllPlain (answer_words w)
unfolding answer_words plain within
answer-plain w = all-cond (same w (bytes "8")) _ _ (spelled refl) (all-cond (same w (bytes "9")) _ _ (spelled refl) (spelled refl))

count-plain : (w : List ℕ) → AllPlain (count_words w)
unfolding count_words plain within
count-plain w =
    all-cond (same w (bytes "0")) _ _ (spelled refl)
    (all_both (bytes "; ") _ (spelled refl) (all_both (shown w) _ (shown-plain (decoded w)) (all_both (cond (same w (bytes "1")) (bytes " result") (bytes " results")) _ (all-cond (same w (bytes "1")) _ _ (spelled refl) (spelled refl)) (spelled refl))))

field_plain : (l : List ℕ) → AllPlain (field_words l)
unfolding field_words plain within
field_plain l =
    all_both (bytes "Field ") _ (spelled refl)
    (all_both (text l) _ (text-plain l)
    (all_both (bytes ": ") _ (spelled refl)
    (all_both (whose_words (column (behind l))) _ (whose-plain _)
    (all_both (answer_words (column (behind (behind l)))) _ (answer-plain _) (count-plain _)))))

method-plain : (l : List ℕ) → AllPlain (method_words l)
unfolding method_words plain within
method-plain l = all_both (bytes "  says ") _ (spelled refl) (all_both (text l) _ (text-plain l) (all_both (bytes ": ") _ (spelled refl) (text-plain (behind l))))

property-plain : (l : List ℕ) → AllPlain (property_words l)
unfolding property_words plain within
property-plain l =
    all_both (bytes ", ") _ (spelled refl)
    (all_both (text l) _ (text-plain l)
    (all_both (bytes ".") _ (spelled refl)
    (all_both (text (behind l)) _ (text-plain (behind l)) (all_both (bytes ": ") _ (spelled refl) (text-plain (behind (behind (behind l))))))))

words-plain : (k : Line) (l : List ℕ) → AllPlain (words k l)
unfolding words plain within
words-plain Field l = field_plain l
words-plain Identifier l = all_both (bytes "  says it was checked by ") _ (spelled refl) (text-plain l)
words-plain Version l = all_both (bytes "  says header version ") _ (spelled refl) (text-plain l)
words-plain NoResult l = spelled refl
words-plain Method l = method-plain l
words-plain Reason l = all_both (bytes ", reason: ") _ (spelled refl) (text-plain l)
words-plain Property l = property-plain l
words-plain Other l = spelled refl

ended-plain : (ls : List (List ℕ)) → AllPlain (ended ls)
unfolding ended plain
ended-plain [] = spelled refl
ended-plain (l ∷ ls) = all-cond (goes_on (kind_of_line l)) _ _ (spelled refl) (spelled refl)

pub lines-plain : (ls : List (List ℕ)) → AllPlain (lines_words ls)
unfolding lines_words
lines-plain [] = spelled refl
lines-plain (l ∷ ls) = all_both (words (kind_of_line l) (behind l)) _ (words-plain (kind_of_line l) (behind l)) (all_both (ended ls) _ (ended-plain ls) (lines-plain ls))

-- ==== one byte

pub plain-when : (x : ℕ) → plain x ≡ true → (x ≡ 10) ⊎ ((32 ≤ x) × (x ≤ 126))
unfolding plain within
plain-when x e = go (eqb x 10) refl
  where
    go : (t : Bool) → eqb x 10 ≡ t → (x ≡ 10) ⊎ ((32 ≤ x) × (x ≤ 126))
    go true q = inl (eqb-true x 10 q)
    go false q =
        let w : (leb 32 x && leb x 126) ≡ true = rw (plain, q) at e in
        inr (leb-true 32 x (and_left (leb 32 x) (leb x 126) w), leb-true x 126 (and_right (leb 32 x) (leb x 126) w))
