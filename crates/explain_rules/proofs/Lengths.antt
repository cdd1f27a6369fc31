-- How long what is said is: a line adds at most our own words for its kind to what its own bytes weigh.
use Prim.Native.Nat.{ℕ, zero, suc, ◌+◌, ◌*◌, ◌≤◌}
use native.Mathlib.Omega.{arith}
use mathlib.Core.Path.{◌≡◌, refl, ap}
use mathlib.Core.Bool.{Bool, true, false, cond, ◌||◌}
use mathlib.Core.List.{List, [], ◌∷◌, ◌++◌}
use lib.Dec.{eqb, lit≤}
use lib.ListN.{length, take, drop, length-append}
use borrow.Author.Tests.{eqb-true}
use Rattle.base_readers.specs.Readers.{run}
use Rattle.base_readers.specs.Texts.{bytes, within, same}
use Rattle.base_readers.specs.Lines.{on_first, lines_of}
use Rattle.explain_rules.specs.declared.Line.{Line}
use Rattle.explain_rules.specs.declared.Line.TheVariants.{Field, Identifier, Version, NoResult, Method, Reason, Property, Other}
use Rattle.explain_rules.specs.Texts.{is_code, code_byte, code_more, decoded_past, decoded, is_word, quoted_byte, quoted_bytes}
use Rattle.explain_rules.specs.Explained.{in_column, column, behind, kind_of_line, shown, text, whose_words, answer_words, count_words, field_words, method_words, property_words, words, line_words, goes_on, ended, lines_words}
use Rattle.explain_rules.specs.Promise.{weight, weighed, most, added, is_field, is_head, field_lines, head_lines}
use Rattle.explain_rules.proofs.Texts.{more-code, byte-itself, more-itself, code-long, quoted-mark, quoted-itself, quoted-hex, words-alike, shown-word, shown-quoted}

-- ==== what bytes weigh

two-least : (x : ℕ) → 2 ≤ weight x
unfolding weight
two-least x = go (within 32 126 x) refl
  where
    go : (b : Bool) → within 32 126 x ≡ b → 2 ≤ weight x
    go true e = rw (weight, e) (lit≤ tt)
    go false e = rw (weight, e) (lit≤ tt)

four-most : (x : ℕ) → weight x ≤ 4
unfolding weight
four-most x = go (within 32 126 x) refl
  where
    go : (b : Bool) → within 32 126 x ≡ b → weight x ≤ 4
    go true e = rw (weight, e) (lit≤ tt)
    go false e = rw (weight, e) (lit≤ tt)

pub weighed-most : (l : List ℕ) → weighed l ≤ 4 * length l
unfolding weighed
weighed-most [] = omega arith
weighed-most (x ∷ l) = omega (arith, four-most x, weighed-most l)

weighed-drop : (k : ℕ) (l : List ℕ) → weighed (drop k l) ≤ weighed l
unfolding weighed
weighed-drop zero l = omega arith
weighed-drop (suc k) [] = omega arith
weighed-drop (suc k) (x ∷ l) = omega (arith, weighed-drop k l)

weighed-both : (k : ℕ) (l : List ℕ) → weighed (take k l) + weighed (drop k l) ≡ weighed l
unfolding weighed
weighed-both zero l = omega arith
weighed-both (suc k) [] = omega arith
weighed-both (suc k) (x ∷ l) = omega (arith, weighed-both k l)

weighed-past : (k : ℕ) (l : List ℕ) → weighed (drop (suc k) l) ≤ weighed (drop k l)
unfolding weighed
weighed-past zero [] = omega arith
weighed-past zero (x ∷ l) = omega arith
weighed-past (suc k) [] = omega arith
weighed-past (suc k) (x ∷ l) = weighed-past k l

-- ==== texts

-- a mark is one of 32 to 126
mark-light : (x : ℕ) → (eqb x 34 || eqb x 92) ≡ true → weight x ≡ 2
unfolding weight within
mark-light x e = go (eqb x 34) refl
  where
    go : (b : Bool) → eqb x 34 ≡ b → weight x ≡ 2
    go true q = rw (eqb-true x 34 q)
    go false q = let p : eqb x 92 ≡ true = rw q at e in rw (eqb-true x 92 p)

byte-short : (x : ℕ) → length (quoted_byte x) ≤ weight x
unfolding weight
byte-short x = go (eqb x 34 || eqb x 92) (within 32 126 x) refl refl
  where
    go : (a b : Bool) → (eqb x 34 || eqb x 92) ≡ a → within 32 126 x ≡ b → length (quoted_byte x) ≤ weight x
    go true b e q = rw (quoted-mark x e, mark-light x e) (lit≤ tt)
    go false true f q = rw (quoted-itself x f q, weight, q) (lit≤ tt)
    go false false f q = rw (quoted-hex x f q, weight, q) (lit≤ tt)

code-short : (x : ℕ) (xs : List ℕ) → length (quoted_byte (code_byte (x ∷ xs))) + weighed (drop (code_more (x ∷ xs)) xs) ≤ weight x + weighed xs
unfolding weighed
code-short x xs = go (is_code (x ∷ xs)) refl
  where
    two : (ys : List ℕ) → 2 ≤ length ys → 2 + weighed (drop 2 ys) ≤ weighed ys
    two [] h = absurd (omega arith)
    two (y ∷ ys) h = omega (arith, weighed-drop 1 ys, two-least y)

    go : (t : Bool) → is_code (x ∷ xs) ≡ t → length (quoted_byte (code_byte (x ∷ xs))) + weighed (drop (code_more (x ∷ xs)) xs) ≤ weight x + weighed xs
    go true e = rw (more-code (x ∷ xs) e) (omega (arith, byte-short (code_byte (x ∷ xs)), four-most (code_byte (x ∷ xs)), two-least x, two xs (omega (arith, code-long (x ∷ xs) e))))
    go false e = rw (byte-itself (x ∷ xs) e, more-itself (x ∷ xs) e) (omega (arith, byte-short x))

-- what is decoded of a list is shown with no more than it weighs: a code of three bytes weighs 6 at least
quoted-short : (k : ℕ) (l : List ℕ) → length (quoted_bytes (decoded_past k l)) ≤ weighed (drop k l)
unfolding decoded_past quoted_bytes weighed
quoted-short k [] = omega arith
quoted-short (suc k) (x ∷ xs) = quoted-short k xs
quoted-short zero (x ∷ xs) =
    let b = code_byte (x ∷ xs) in
    let m = code_more (x ∷ xs) in
    omega (arith, length-append (quoted_byte b) (quoted_bytes (decoded_past m xs)), quoted-short m xs, code-short x xs)

column-short : (l : List ℕ) → length (shown l) ≤ weighed l + 2
column-short l = go (is_word (decoded l)) refl
  where
    go : (b : Bool) → is_word (decoded l) ≡ b → length (shown l) ≤ weighed l + 2
    go true e = omega (arith, ap length (shown-word (decoded l) e), ap length (words-alike (decoded l) e), quoted-short 0 l)
    go false e = omega (arith, ap length (shown-quoted (decoded l) e), length-append (quoted_bytes (decoded l)) (34 ∷ []), quoted-short 0 l)

-- a column and what stands behind it are at most the line
long-both : (l : List ℕ) → length (text l) + weighed (behind l) ≤ weighed l + 2
long-both l = omega (arith, column-short (column l), weighed-both (run in_column l) l, weighed-past (run in_column l) l)

long-cond : (t : Bool) (a b : List ℕ) (m : ℕ) → length a ≤ m → length b ≤ m → length (cond t a b) ≤ m
long-cond true a b m p q = p
long-cond false a b m p q = q

-- ==== words

whose-short : (w : List ℕ) → length (whose_words w) ≤ 63
unfolding whose_words
whose-short w = long-cond (same w (bytes "own")) _ _ 63 (lit≤ tt) (long-cond (same w (bytes "other")) _ _ 63 (lit≤ tt) (lit≤ tt))

answer-short : (w : List ℕ) → length (answer_words w) ≤ 47
unfolding answer_words
answer-short w = long-cond (same w (bytes "8")) _ _ 47 (lit≤ tt) (long-cond (same w (bytes "9")) _ _ 47 (lit≤ tt) (lit≤ tt))

count-short : (w : List ℕ) → length (count_words w) ≤ 55 + weighed w
unfolding count_words
count-short w =
    let o = bytes " of a newer version or not known: not shown" in
    let s = cond (same w (bytes "1")) (bytes " result") (bytes " results") in
    let c : length s ≤ 8 = long-cond (same w (bytes "1")) (bytes " result") (bytes " results") 8 (lit≤ tt) (lit≤ tt) in
    long-cond (same w (bytes "0")) _ _ (55 + weighed w) (omega arith) (omega (arith, column-short w, length-append (shown w) (s ++ o), length-append s o, c))

field-short : (l : List ℕ) → length (field_words l) ≤ weighed l + 175
unfolding field_words
field-short l =
    let a = whose_words (column (behind l)) in
    let b = answer_words (column (behind (behind l))) in
    let w = column (behind (behind (behind l))) in
    let c = count_words w in
    omega (
      arith,
      length-append (text l) (bytes ": " ++ (a ++ (b ++ c))),
      length-append a (b ++ c),
      length-append b c,
      whose-short (column (behind l)),
      answer-short (column (behind (behind l))),
      count-short w,
      long-both l,
      weighed-both (run in_column (behind (behind (behind l)))) (behind (behind (behind l))),
      weighed-drop (suc (run in_column (behind l))) (behind l),
      weighed-drop (suc (run in_column (behind (behind l)))) (behind (behind l)),
    )

method-short : (l : List ℕ) → length (method_words l) ≤ weighed l + 13
unfolding method_words
method-short l = omega (arith, length-append (text l) (bytes ": " ++ text (behind l)), long-both l, long-both (behind l))

property-short : (l : List ℕ) → length (property_words l) ≤ weighed l + 11
unfolding property_words
property-short l =
    let v = text (behind (behind (behind l))) in
    omega (
      arith,
      length-append (text l) (bytes "." ++ (text (behind l) ++ (bytes ": " ++ v))),
      length-append (text (behind l)) (bytes ": " ++ v),
      long-both l,
      long-both (behind l),
      weighed-drop (suc (run in_column (behind (behind l)))) (behind (behind l)),
      long-both (behind (behind (behind l))),
    )

words-short : (k : Line) (l : List ℕ) → length (words k l) ≤ weighed l + most k
unfolding words most
words-short Field l = field-short l
words-short Identifier l = omega (arith, long-both l)
words-short Version l = omega (arith, long-both l)
words-short NoResult l = omega arith
words-short Method l = method-short l
words-short Reason l = omega (arith, long-both l)
words-short Property l = property-short l
words-short Other l = omega arith

line-short : (l : List ℕ) → length (line_words l) ≤ weighed l + most (kind_of_line l)
line-short l = omega (arith, words-short (kind_of_line l) (behind l), weighed-drop (suc (run in_column l)) l)

ended-short : (ls : List (List ℕ)) → length (ended ls) ≤ 1
unfolding ended
ended-short [] = lit≤ tt
ended-short (l ∷ ls) = long-cond (goes_on (kind_of_line l)) _ _ 1 (lit≤ tt) (lit≤ tt)

-- ==== lines

-- what lines weigh, each with its end
unfoldable size : List (List ℕ) → ℕ
size [] = 0
size (l ∷ ls) = weighed l + 4 + size ls

size-first : (x : ℕ) (ls : List (List ℕ)) (n : ℕ) → size ls ≤ n + 4 → size (on_first x ls) ≤ weight x + n + 4
unfolding size weighed
size-first x [] n h = omega arith
size-first x (l ∷ ls) n h = omega arith

feed-heavy : weight 10 ≡ 4
unfolding weight within
feed-heavy = refl

size-lines : (l : List ℕ) → size (lines_of l) ≤ weighed l + 4
unfolding size lines_of weighed
size-lines [] = omega arith
size-lines (x ∷ xs) = go (eqb x 10) refl (size-lines xs)
  where
    go : (t : Bool) → eqb x 10 ≡ t → size (lines_of xs) ≤ weighed xs + 4 → size (lines_of (x ∷ xs)) ≤ weighed (x ∷ xs) + 4
    go true e h = rw (lines_of, e, size) (omega (arith, feed-heavy, ap weight (eqb-true x 10 e)))
    go false e h = rw (lines_of, e) (omega (arith, size-first x (lines_of xs) (weighed xs) h))

words-all : (ls : List (List ℕ)) → length (lines_words ls) ≤ size ls + added ls
unfolding lines_words size added
words-all [] = omega arith
words-all (l ∷ ls) = omega (arith, length-append (line_words l) (ended ls ++ lines_words ls), length-append (ended ls) (lines_words ls), line-short l, ended-short ls, words-all ls)

pub lines_long : (l : List ℕ) → length (lines_words (lines_of l)) ≤ weighed l + 4 + added (lines_of l)
lines_long l = omega (arith, words-all (lines_of l), size-lines l)

-- ==== by the number of lines

most-head : (k : Line) → most k ≤ 13 + 18 * cond (is_head k) 1 0 + 144 * cond (is_field k) 1 0
unfolding most is_head is_field
most-head Field = lit≤ tt
most-head Identifier = lit≤ tt
most-head Version = lit≤ tt
most-head NoResult = lit≤ tt
most-head Method = lit≤ tt
most-head Reason = lit≤ tt
most-head Property = lit≤ tt
most-head Other = lit≤ tt

one_line : (t : Bool) → cond t 1 0 ≤ 1
one_line true = lit≤ tt
one_line false = lit≤ tt

pub added-most : (ls : List (List ℕ)) → added ls ≤ 13 * length ls + 18 * head_lines ls + 144 * field_lines ls
unfolding added head_lines field_lines
added-most [] = omega arith
added-most (l ∷ ls) = omega (arith, most-head (kind_of_line l), added-most ls)

pub fields-few : (ls : List (List ℕ)) → field_lines ls ≤ length ls
unfolding field_lines
fields-few [] = omega arith
fields-few (l ∷ ls) = omega (arith, one_line (is_field (kind_of_line l)), fields-few ls)

pub heads-few : (ls : List (List ℕ)) → head_lines ls ≤ length ls
unfolding head_lines
heads-few [] = omega arith
heads-few (l ∷ ls) = omega (arith, one_line (is_head (kind_of_line l)), heads-few ls)
