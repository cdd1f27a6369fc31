-- Texts that are equal but for ASCII case have spellings that are.
use Prim.Native.Nat.{ℕ, zero, suc, ◌+◌, ◌-◌, ◌*◌, ◌/◌, ◌%◌, ◌≤◌, ◌<◌}
use native.Mathlib.Omega.{arith}
use mathlib.Core.Path.{◌≡◌, refl, sym, ap, ◌∙◌}
use mathlib.Core.Bool.{Bool, true, false, ◌||◌}
use mathlib.Core.List.{List, [], ◌∷◌, ◌++◌, map}
use mathlib.Core.Option.{Option, none, some}
use lib.Dec.{ltb, eqb}
use lib.ListN.{length, get_or, take, drop, length-map, get_or-map}
use borrow.Author.Tests.{lt-ltb, le-ltb, le-leb, lt-leb, eq-eqb, ne_eqb, eqb-true, ltb-true, ltb-false}
use Rattle.base_readers.specs.Texts.{within, one_of}
use Rattle.lexis_rules.specs.Bytes.{lower}
use Rattle.punycode_rules.specs.Punycode.{State, start, insert, last, more, digit_of, threshold, numbers, before_last, basic, consumed, punycode}
use Rattle.punycode_rules.specs.Unicode.{scalar, scalars, utf8, utf8s}
use Rattle.base_readers.specs.Lines.{on_first}
use Rattle.punycode_rules.specs.Labels.{kept, decoded, prefixed, spelled, labels, joined, spelling}
use Rattle.punycode_laws.proofs.Digits.{within-inv, scalar-low}
use Rattle.punycode_laws.proofs.Decoding.{kept-good, kept-bad, numbers-none, numbers-last, numbers_more}
use Rattle.punycode_laws.proofs.Spelling.{spelled-plain, spelled-failed, spelled-some}

-- ==== a byte

-- a capital, or not
data Cased (x : ℕ) : Type 0 where
  capital : 65 ≤ x → x ≤ 90 → lower x ≡ x + 32 → Cased x
  other : (65 ≤ x → x ≤ 90 → ⊥) → lower x ≡ x → Cased x

cased : (x : ℕ) → Cased x
unfolding lower
cased x = go (within 65 90 x) refl
  where
    go : (t : Bool) → within 65 90 x ≡ t → Cased x
    go true e = capital (within-inv 65 90 x e).0 (within-inv 65 90 x e).1 (rw e)
    go false e = other (λ a b. Rattle.base_sequences.proofs.Booleans.both (within 65 90 x) e (unfold within in rw (le-leb 65 x a, le-leb x 90 b))) (rw e)

-- a mark that is no letter
pub eqb-case : (c x : ℕ) → c < 65 → eqb (lower x) c ≡ eqb x c
eqb-case c x h = go (cased x)
  where
    go : Cased x → eqb (lower x) c ≡ eqb x c
    go (capital a b e) = rw e (ne_eqb (x + 32) c (λ z. omega arith) ∙ sym (ne_eqb x c (λ z. omega arith)))
    go (other n e) = rw e

-- a letter, small or capital
letter-case : (c x : ℕ) → 65 ≤ c → c ≤ 90 → one_of ((c + 32) ∷ c ∷ []) (lower x) ≡ one_of ((c + 32) ∷ c ∷ []) x
unfolding one_of
letter-case c x h g = go (cased x)
  where
    go : Cased x → one_of ((c + 32) ∷ c ∷ []) (lower x) ≡ one_of ((c + 32) ∷ c ∷ []) x
    go (capital a b e) = rw e (at (eqb x c) refl)
      where
        at : (t : Bool) → eqb x c ≡ t → (eqb (x + 32) (c + 32) || (eqb (x + 32) c || false)) ≡ (eqb x (c + 32) || (eqb x c || false))
        at true z = let w : x ≡ c = eqb-true x c z in rw (eq-eqb (x + 32) (c + 32) (omega arith), ne_eqb x (c + 32) (λ z. omega arith), z)
        at false z =
            let n = borrow.Author.Tests.eqb-false x c z in
            rw (ne_eqb (x + 32) (c + 32) (λ y. n (omega arith)), ne_eqb (x + 32) c (λ y. omega arith), ne_eqb x (c + 32) (λ y. omega arith), z)
    go (other n e) = rw e

digit-case : (x : ℕ) → digit_of (lower x) ≡ digit_of x
unfolding digit_of within
digit-case x = go (cased x)
  where
    go : Cased x → digit_of (lower x) ≡ digit_of x
    go (capital a b e) =
        let d : x + 32 - 97 ≡ x - 65 = omega arith in
        rw (e, le-leb 97 (x + 32) (omega arith), le-leb (x + 32) 122 (omega arith), lt-leb 97 x (omega arith), le-leb 65 x a, le-leb x 90 b, d)
    go (other n e) = rw e

pub basic-case : (x : ℕ) → ltb (lower x) 128 ≡ ltb x 128
basic-case x = go (cased x)
  where
    go : Cased x → ltb (lower x) 128 ≡ ltb x 128
    go (capital a b e) = rw (e, lt-ltb (x + 32) 128 (omega arith), lt-ltb x 128 (omega arith))
    go (other n e) = rw e

scalar-case : (x : ℕ) → scalar (lower x) ≡ scalar x
scalar-case x = go (cased x)
  where
    go : Cased x → scalar (lower x) ≡ scalar x
    go (capital a b e) = rw e (sym (scalar-low (x + 32) (omega arith)) ∙ scalar-low x (omega arith))
    go (other n e) = rw e

pub high-case : (x : ℕ) → 128 ≤ x → lower x ≡ x
high-case x h = go (cased x)
  where
    go : Cased x → lower x ≡ x
    go (capital a b e) = absurd (omega arith)
    go (other n e) = e

-- ==== lists

map-insert : (at x : ℕ) (a : List ℕ) → map lower (insert at x a) ≡ insert at (lower x) (map lower a)
map-insert zero x a = refl
map-insert (suc at) x [] = refl
map-insert (suc at) x (y ∷ a) = ap (λ (l : List ℕ). lower y ∷ l) (map-insert at x a)

map-take : (n : ℕ) (a : List ℕ) → map lower (take n a) ≡ take n (map lower a)
map-take zero a = refl
map-take (suc n) [] = refl
map-take (suc n) (x ∷ a) = ap (λ (l : List ℕ). lower x ∷ l) (map-take n a)

map-drop : (n : ℕ) (a : List ℕ) → map lower (drop n a) ≡ drop n (map lower a)
map-drop zero a = refl
map-drop (suc n) [] = refl
map-drop (suc n) (x ∷ a) = map-drop n a

lower-twice : (x : ℕ) → lower (lower x) ≡ lower x
lower-twice x = go (cased x) (cased (lower x))
  where
    go : Cased x → Cased (lower x) → lower (lower x) ≡ lower x
    go (capital a b e) (capital c d f) = absurd (omega arith)
    go (capital a b e) (other n f) = f
    go (other n e) c = ap lower e

twice : (a : List ℕ) → map lower (map lower a) ≡ map lower a
twice [] = refl
twice (x ∷ a) = rw (lower-twice x, twice a)

map-join : (a b : List ℕ) → map lower (a ++ b) ≡ map lower a ++ map lower b
map-join [] b = refl
map-join (x ∷ a) b = ap (λ (l : List ℕ). lower x ∷ l) (map-join a b)

before-case : (xs : List ℕ) (found at : ℕ) → before_last found at (map lower xs) ≡ before_last found at xs
unfolding before_last
before-case [] found at = refl
before-case (x ∷ xs) found at = go (eqb x 45) refl (before-case xs at (suc at)) (before-case xs found (suc at))
  where
    go : (t : Bool) → eqb x 45 ≡ t → before_last at (suc at) (map lower xs) ≡ before_last at (suc at) xs → before_last found (suc at) (map lower xs) ≡ before_last found (suc at) xs
        → before_last found at (lower x ∷ map lower xs) ≡ before_last found at (x ∷ xs)
    go true e a b = rw (before_last, eqb-case 45 x (omega arith), e) a
    go false e a b = rw (before_last, eqb-case 45 x (omega arith), e) b

basics-case : (xs : List ℕ) → basic (map lower xs) ≡ basic xs
unfolding basic
basics-case [] = refl
basics-case (x ∷ xs) = rw (basic-case x, basics-case xs)

scalars-case : (xs : List ℕ) → scalars (map lower xs) ≡ scalars xs
unfolding scalars
scalars-case [] = refl
scalars-case (x ∷ xs) = rw (scalar-case x, scalars-case xs)

-- ==== the code points

abbrev lowered : Option (List ℕ) → Option (List ℕ)
lowered none = none
lowered (some u) = some (map lower u)

abbrev with : State → List ℕ → State
with s o = record { output = o; n = s.n; i = s.i; bias = s.bias; oldi = s.oldi; w = s.w; k = s.k }

length-case : (a b : List ℕ) → map lower a ≡ map lower b → length a ≡ length b
length-case a b e = sym (length-map a lower) ∙ (ap length e ∙ length-map b lower)

insert-case : (at x : ℕ) (a b : List ℕ) → map lower a ≡ map lower b → map lower (insert at x a) ≡ map lower (insert at x b)
insert-case at x a b e = map-insert at x a ∙ (ap (insert at (lower x)) e ∙ sym (map-insert at x b))

last-with : (s : State) (o : List ℕ) (d : ℕ) → length o ≡ length s.output
    → last (with s o) d ≡ with (last s d) (insert ((s.i + d * s.w) % (length s.output + 1)) (last s d).n o)
last-with s o d l = rw l

numbers-case : (xs : List ℕ) (s : State) (o : List ℕ) → map lower s.output ≡ map lower o → lowered (numbers s xs) ≡ lowered (numbers (with s o) (map lower xs))
unfolding numbers
numbers-case [] s o e = go (eqb s.k 36)
  where
    go : (t : Bool) → lowered (elim t [ true ↦ some s.output | false ↦ none ]) ≡ lowered (elim t [ true ↦ some o | false ↦ none ])
    go true = ap some e
    go false = refl
numbers-case (x ∷ xs) s o e =
    first (ltb (digit_of x) 36) refl
    (numbers-case xs (last s (digit_of x)) (insert ((s.i + digit_of x * s.w) % (length s.output + 1)) (last s (digit_of x)).n o)
    (insert-case ((s.i + digit_of x * s.w) % (length s.output + 1)) (last s (digit_of x)).n s.output o e))
    (numbers-case xs (more s (digit_of x)) o e)
  where
    l : length o ≡ length s.output
    l = sym (length-case s.output o e)

    d : digit_of (lower x) ≡ digit_of x
    d = digit-case x

    second : digit_of x < 36 → (t : Bool) → ltb (digit_of x) (threshold s.k s.bias) ≡ t
        → lowered (numbers (last s (digit_of x)) xs) ≡ lowered (numbers (with (last s (digit_of x)) (insert ((s.i + digit_of x * s.w) % (length s.output + 1)) (last s (digit_of x)).n o)) (map lower xs))
        → lowered (numbers (more s (digit_of x)) xs) ≡ lowered (numbers (with (more s (digit_of x)) o) (map lower xs))
        → lowered (numbers s (x ∷ xs)) ≡ lowered (numbers (with s o) (lower x ∷ map lower xs))
    second h true k a b =
        let f : digit_of x < threshold s.k s.bias = ltb-true _ _ k in
        let q : last (with s o) (digit_of (lower x)) ≡ with (last s (digit_of x)) (insert ((s.i + digit_of x * s.w) % (length s.output + 1)) (last s (digit_of x)).n o) = rw d (last-with s o (digit_of x) l) in
        ap lowered (numbers-last s x xs h f)
        ∙ (a ∙ sym (ap lowered (numbers-last (with s o) (lower x) (map lower xs) (rw d h) (rw d f) ∙ ap (λ (st : State). numbers st (map lower xs)) q)))
    second h false k a b =
        let f : threshold s.k s.bias ≤ digit_of x = ltb-false _ _ k in
        let q : numbers (more (with s o) (digit_of (lower x))) (map lower xs) ≡ numbers (with (more s (digit_of x)) o) (map lower xs) = rw d in
        ap lowered (numbers_more s x xs h f)
        ∙ (b ∙ sym (ap lowered (numbers_more (with s o) (lower x) (map lower xs) (rw d h) (rw d f) ∙ q)))

    first : (t : Bool) → ltb (digit_of x) 36 ≡ t
        → lowered (numbers (last s (digit_of x)) xs) ≡ lowered (numbers (with (last s (digit_of x)) (insert ((s.i + digit_of x * s.w) % (length s.output + 1)) (last s (digit_of x)).n o)) (map lower xs))
        → lowered (numbers (more s (digit_of x)) xs) ≡ lowered (numbers (with (more s (digit_of x)) o) (map lower xs))
        → lowered (numbers s (x ∷ xs)) ≡ lowered (numbers (with s o) (lower x ∷ map lower xs))
    first true k a b = second (ltb-true _ _ k) (ltb (digit_of x) (threshold s.k s.bias)) refl a b
    first false k a b =
        let f : 36 ≤ digit_of x = ltb-false _ _ k in
        ap lowered (numbers-none s x xs f) ∙ sym (ap lowered (numbers-none (with s o) (lower x) (map lower xs) (rw d f)))

pun-yes : (xs : List ℕ) (b : ℕ) → b ≡ before_last 0 0 xs → basic (take b xs) ≡ true → punycode xs ≡ numbers (start (take b xs)) (drop (consumed b) xs)
unfolding punycode
pun-yes xs b q h = let g : basic (take (before_last 0 0 xs) xs) ≡ true = (rw q at h) in rw (q, punycode, g)

pun-no : (xs : List ℕ) (b : ℕ) → b ≡ before_last 0 0 xs → basic (take b xs) ≡ false → punycode xs ≡ none
unfolding punycode
pun-no xs b q h = let g : basic (take (before_last 0 0 xs) xs) ≡ false = (rw q at h) in rw (punycode, g)

punycode-case : (xs : List ℕ) → lowered (punycode xs) ≡ lowered (punycode (map lower xs))
punycode-case xs = go (before_last 0 0 xs) refl (basic (take (before_last 0 0 xs) xs)) refl
  where
    go : (b : ℕ) → b ≡ before_last 0 0 xs → (t : Bool) → basic (take (before_last 0 0 xs) xs) ≡ t → lowered (punycode xs) ≡ lowered (punycode (map lower xs))
    go b q true h =
        let g : basic (take b xs) ≡ true = rw q h in
        let g' : basic (take b (map lower xs)) ≡ true = rw (← map-take b xs) (basics-case (take b xs) ∙ g) in
        let e : numbers (start (take b (map lower xs))) (drop (consumed b) (map lower xs)) ≡ numbers (with (start (take b xs)) (map lower (take b xs))) (map lower (drop (consumed b) xs)) =
        rw (map-take b xs, map-drop (consumed b) xs) in
        ap lowered (pun-yes xs b q g)
        ∙ (numbers-case (drop (consumed b) xs) (start (take b xs)) (map lower (take b xs)) (sym (twice (take b xs))) ∙ sym (ap lowered (pun-yes (map lower xs) b (q ∙ sym (before-case xs 0 0)) g' ∙ e)))
    go b q false h =
        let g : basic (take b xs) ≡ false = rw q h in
        let g' : basic (take b (map lower xs)) ≡ false = rw (← map-take b xs) (basics-case (take b xs) ∙ g) in
        ap lowered (pun-no xs b q g) ∙ sym (ap lowered (pun-no (map lower xs) b (q ∙ sym (before-case xs 0 0)) g'))

kept_case : (o p : Option (List ℕ)) → lowered o ≡ lowered p → lowered (kept o) ≡ lowered (kept p)
unfolding kept
kept_case none none e = refl
kept_case none (some v) e = absurd (let z : ◌≡◌ {A = ℕ} 0 1 = cc in omega arith)
kept_case (some u) none e = absurd (let z : ◌≡◌ {A = ℕ} 0 1 = cc in omega arith)
kept_case (some u) (some v) e =
    let m : map lower u ≡ map lower v = cc in
    let s : scalars u ≡ scalars v = sym (scalars-case u) ∙ (ap scalars m ∙ scalars-case v) in
    go s (scalars u) refl
  where
    go : scalars u ≡ scalars v → (t : Bool) → scalars u ≡ t → lowered (kept (some u)) ≡ lowered (kept (some v))
    go s true h = ap lowered (kept-good u h) ∙ (e ∙ sym (ap lowered (kept-good v (sym s ∙ h))))
    go s false h = ap lowered (kept-bad u h) ∙ sym (ap lowered (kept-bad v (sym s ∙ h)))

decoded-case : (xs ys : List ℕ) → map lower xs ≡ ys → lowered (decoded xs) ≡ lowered (decoded ys)
unfolding decoded
decoded-case xs ys e = rw (← e) (kept_case (punycode xs) (punycode (map lower xs)) (punycode-case xs))

-- ==== UTF-8

pub utf8-case : (x : ℕ) → map lower (utf8 x) ≡ utf8 (lower x)
unfolding utf8
utf8-case x = first (ltb x 128) refl
  where
    third : 128 ≤ x → 2048 ≤ x → (t : Bool) → ltb x 65536 ≡ t → map lower (utf8 x) ≡ utf8 x
    third h i true e = rw (utf8, le-ltb x 128 h, le-ltb x 2048 i, e, high-case (224 + x / 4096) (omega arith), high-case (128 + x / 64 % 64) (omega arith), high-case (128 + x % 64) (omega arith))
    third h i false e = rw (utf8, le-ltb x 128 h, le-ltb x 2048 i, e, high-case (240 + x / 262144) (omega arith), high-case (128 + x / 4096 % 64) (omega arith), high-case (128 + x / 64 % 64) (omega arith), high-case (128 + x % 64) (omega arith))

    second : 128 ≤ x → (t : Bool) → ltb x 2048 ≡ t → map lower (utf8 x) ≡ utf8 x
    second h true e = rw (utf8, le-ltb x 128 h, e, high-case (192 + x / 64) (omega arith), high-case (128 + x % 64) (omega arith))
    second h false e = third h (ltb-false _ _ e) (ltb x 65536) refl

    first : (t : Bool) → ltb x 128 ≡ t → map lower (utf8 x) ≡ utf8 (lower x)
    first true e = let a : utf8 x ≡ x ∷ [] = rw (utf8, e) in let b : utf8 (lower x) ≡ lower x ∷ [] = rw (utf8, basic-case x, e) in rw (a, b)
    first false e = let h : 128 ≤ x = ltb-false _ _ e in rw (high-case x h) (second h (ltb x 2048) refl)

pub utf8s-case : (u : List ℕ) → map lower (utf8s u) ≡ utf8s (map lower u)
unfolding utf8s
utf8s-case [] = refl
utf8s-case (x ∷ u) = map-join (utf8 x) (utf8s u) ∙ rw (utf8-case x, utf8s-case u)

-- ==== labels and texts

prefix-case : (l : List ℕ) → prefixed (map lower l) ≡ prefixed l
unfolding prefixed lower within
prefix-case l =
    rw (at 0, at 1, at 2, at 3, letter-case 88 (get_or l 0 0) (omega arith) (omega arith), letter-case 78 (get_or l 1 0) (omega arith) (omega arith), eqb-case 45 (get_or l 2 0) (omega arith), eqb-case 45 (get_or l 3 0) (omega arith))
  where
    at : (k : ℕ) → get_or (map lower l) k 0 ≡ lower (get_or l k 0)
    at k = get_or-map lower l k 0

spelled-case : (l : List ℕ) → map lower (spelled l) ≡ map lower (spelled (map lower l))
spelled-case l = first (prefixed l) refl
  where
    second : prefixed l ≡ true → (o p : Option (List ℕ)) → decoded (drop 4 l) ≡ o → decoded (drop 4 (map lower l)) ≡ p → lowered o ≡ lowered p → map lower (spelled l) ≡ map lower (spelled (map lower l))
    second h none none e f g = rw (spelled-failed l h e, spelled-failed (map lower l) (prefix-case l ∙ h) f) (sym (twice l))
    second h none (some v) e f g = absurd (let z : ◌≡◌ {A = ℕ} 0 1 = cc in omega arith)
    second h (some u) none e f g = absurd (let z : ◌≡◌ {A = ℕ} 0 1 = cc in omega arith)
    second h (some u) (some v) e f g =
        let m : map lower u ≡ map lower v = cc in
        rw (spelled-some l h u e, spelled-some (map lower l) (prefix-case l ∙ h) v f) (utf8s-case u ∙ (ap utf8s m ∙ sym (utf8s-case v)))

    first : (t : Bool) → prefixed l ≡ t → map lower (spelled l) ≡ map lower (spelled (map lower l))
    first true h = second h (decoded (drop 4 l)) (decoded (drop 4 (map lower l))) refl refl (decoded-case (drop 4 l) (drop 4 (map lower l)) (map-drop 4 l))
    first false h = rw (spelled-plain l h, spelled-plain (map lower l) (prefix-case l ∙ h)) (sym (twice l))

labels-case : (t : List ℕ) → labels (map lower t) ≡ map (map lower) (labels t)
unfolding labels
labels-case [] = refl
labels-case (x ∷ t) = go (eqb x 46) refl (labels-case t)
  where
    front : (ls : List (List ℕ)) → on_first (lower x) (map (map lower) ls) ≡ map (map lower) (on_first x ls)
    front [] = refl
    front (l ∷ ls) = refl

    go : (b : Bool) → eqb x 46 ≡ b → labels (map lower t) ≡ map (map lower) (labels t) → labels (lower x ∷ map lower t) ≡ map (map lower) (labels (x ∷ t))
    go true e ih = rw (labels, eqb-case 46 x (omega arith), e, ih)
    go false e ih = rw (labels, eqb-case 46 x (omega arith), e, ih) (front (labels t))

joined-case : (ls : List (List ℕ)) → map lower (joined (map spelled ls)) ≡ map lower (joined (map spelled (map (map lower) ls)))
unfolding joined
joined-case [] = refl
joined-case (l ∷ []) = spelled-case l
joined-case (l ∷ m ∷ ms) =
    map-join (spelled l) _ ∙ (rw (spelled-case l) (ap (λ (r : List ℕ). map lower (spelled (map lower l)) ++ (lower 46 ∷ r)) (joined-case (m ∷ ms))) ∙ sym (map-join (spelled (map lower l)) _))

-- the case of a text doesn't matter
pub spelling-lower : (t : List ℕ) → map lower (spelling t) ≡ map lower (spelling (map lower t))
unfolding spelling
spelling-lower t = joined-case (labels t) ∙ rw (labels-case t)
