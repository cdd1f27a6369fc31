-- How long a text is beside its spelling: no more than four times as short, and no more than eleven times as long and five bytes more.
use Prim.Native.Nat.{ℕ, zero, suc, ◌+◌, ◌-◌, ◌*◌, ◌%◌, ◌≤◌, ◌<◌, ◌^◌}
use native.Mathlib.Nat.{mul-le-mul_left, mul-le-mul_right, pow-le-pow_right, pow-suc}
use native.Mathlib.Omega.{arith}
use mathlib.Core.Path.{◌≡◌, refl, sym, ap, ◌∙◌}
use mathlib.Core.Bool.{Bool, true, false}
use mathlib.Core.List.{List, [], ◌∷◌, map}
use mathlib.Core.Option.{Option, none, some}
use lib.Dec.{leb, eqb, lit≤}
use lib.ListN.{length, take, drop, length-append, length-drop}
use lib.Seq.{length-take-le}
use borrow.Author.Tests.{leb-true, leb-false, eqb-true, eqb-false}
use Rattle.punycode_rules.specs.Punycode.{State, start, last, more, digit_of, threshold, numbers, before_last, basic, consumed}
use Rattle.base_readers.specs.Lines.{on_first}
use Rattle.punycode_rules.specs.Labels.{kept, decoded, prefixed, spelled, labels, joined, spelling, spelling_limit}
use Rattle.punycode_laws.proofs.Lists.{absurd-some}
use Rattle.punycode_laws.proofs.Digits.{threshold-bounds}
use Rattle.punycode_laws.proofs.Decoding.{numbers-cut, by_cases, kept-none, kept-some, digit-fails, counted, length-insert}
use Rattle.punycode_laws.proofs.Basics.{before-inside, decoded-yes, decoded-no}
use Rattle.punycode_laws.proofs.Spelling.{spelled-plain, spelled-failed, spelled-some}
use Rattle.punycode_laws.proofs.Encoding.{utf8s-bounds}

-- ten to the power of the digits read is at most the weight, so there are ten of them at most
few : (j w : ℕ) → 10 ^ j ≤ w → w ≤ 40000000000 → j ≤ 10
few j w h g = go (leb j 10) refl
  where
    go : (t : Bool) → leb j 10 ≡ t → j ≤ 10
    go true e = leb-true j 10 e
    go false e = absurd (omega (arith, pow-le-pow_right {n = 10} (lit≤ tt) (leb-false j 10 e)))

-- a code point takes eleven digits at most
numbers-length : (xs : List ℕ) (s : State) (j : ℕ) → s.k ≡ 36 * j + 36 → 10 ^ j ≤ s.w → s.w ≤ 35 * s.i + 1 → (u : List ℕ) → length u ≤ spelling_limit
    → kept (numbers s xs) ≡ some u → length xs + j + 11 * length s.output ≤ 11 * length u
numbers-length [] s j k h g u l e = go (eqb s.k 36) refl
  where
    go : (t : Bool) → eqb s.k 36 ≡ t → 0 + j + 11 * length s.output ≤ 11 * length u
    go true t = omega (arith, eqb-true s.k 36 t, (counted [] s).least u (kept-some _ u e))
    go false t = absurd-some u (sym (ap kept (numbers-cut s (eqb-false s.k 36 t)) ∙ kept-none) ∙ e)
numbers-length (x ∷ xs) s j k h g u l e = go (leb (1114112 * (length s.output + 1)) (s.i + digit_of x * s.w)) refl (λ s j a b c. numbers-length xs s j a b c u l)
  where
    ends : length xs + 0 + 11 * length (last s (digit_of x)).output ≤ 11 * length u → length (last s (digit_of x)).output ≤ length u → s.i + digit_of x * s.w < 1114112 * (length s.output + 1)
        → length (x ∷ xs) + j + 11 * length s.output ≤ 11 * length u
    ends ih c b =
        let n = length-insert ((s.i + digit_of x * s.w) % (length s.output + 1)) (last s (digit_of x)).n s.output in
        let f : j ≤ 10 = few j s.w h (omega (arith, n)) in
        omega (arith, n)

    go : (t : Bool) → leb (1114112 * (length s.output + 1)) (s.i + digit_of x * s.w) ≡ t → ((s : State) (j : ℕ) → s.k ≡ 36 * j + 36 → 10 ^ j ≤ s.w → s.w ≤ 35 * s.i + 1 → kept (numbers s xs) ≡ some u → length xs + j + 11 * length s.output ≤ 11 * length u) → length (x ∷ xs) + j + 11 * length s.output ≤ 11 * length u
    go true t ih = absurd-some u (sym (digit-fails x xs s (omega arith) (leb-true _ _ t)) ∙ e)
    go false t ih =
        by_cases s x xs (λ o. kept o ≡ some u → length (x ∷ xs) + j + 11 * length s.output ≤ 11 * length u)
        (λ f. absurd-some u (sym kept-none ∙ f))
        (λ f. ends (ih (last s (digit_of x)) 0 refl (lit≤ tt) (omega arith) f) ((counted xs (last s (digit_of x))).least u (kept-some _ u f)) (leb-false _ _ t))
        (λ a b f. (let i = ih (more s (digit_of x)) (suc j) (omega arith) (wide (threshold-bounds s.k s.bias).1) (narrow b (threshold-bounds s.k s.bias).0) f in omega arith))
        e
      where
        weight : (t : ℕ) → t ≤ 26 → 10 ≤ 36 - t
        weight t h = omega arith

        wide : threshold s.k s.bias ≤ 26 → 10 ^ suc j ≤ s.w * (36 - threshold s.k s.bias)
        wide t = rw pow-suc (omega (arith, mul-le-mul_left s.w (weight (threshold s.k s.bias) t)))

        light : (t : ℕ) → 1 ≤ t → 36 - t ≤ 35
        light t h = omega arith

        narrow : threshold s.k s.bias ≤ digit_of x → 1 ≤ threshold s.k s.bias → s.w * (36 - threshold s.k s.bias) ≤ 35 * (s.i + digit_of x * s.w) + 1
        narrow b t =
            let o : 1 * s.w ≤ digit_of x * s.w = mul-le-mul_right s.w (omega arith) in
            omega (arith, mul-le-mul_left s.w (light (threshold s.k s.bias) t))

-- ==== a label

decoded-length : (xs u : List ℕ) → length u ≤ spelling_limit → decoded xs ≡ some u → length xs ≤ 11 * length u + 1
decoded-length xs u l e = go (basic (take (before_last 0 0 xs) xs)) refl
  where
    go : (t : Bool) → basic (take (before_last 0 0 xs) xs) ≡ t → length xs ≤ 11 * length u + 1
    go true t =
        let f : kept (numbers (start (take (before_last 0 0 xs) xs)) (drop (consumed (before_last 0 0 xs)) xs)) ≡ some u = sym (decoded-yes xs (before_last 0 0 xs) refl t) ∙ e in
        let n = numbers-length (drop (consumed (before_last 0 0 xs)) xs) (start (take (before_last 0 0 xs) xs)) 0 refl (lit≤ tt) (lit≤ tt) u l f in
        after (before_last 0 0 xs) (before-inside xs) n
      where
        after : (b : ℕ) → b ≤ length xs - 1 → length (drop (consumed b) xs) + 0 + 11 * length (take b xs) ≤ 11 * length u → length xs ≤ 11 * length u + 1
        after zero i n = omega (arith, n)
        after (suc b) i n = omega (arith, n, length-drop (suc (suc b)) xs, length-take-le (suc b) xs (omega arith))
    go false t = absurd-some u (sym (decoded-no xs (before_last 0 0 xs) refl t) ∙ e)

-- a label has no more code points than it has bytes behind its prefix
pub decoded-most : (xs u : List ℕ) → decoded xs ≡ some u → length u ≤ length xs
decoded-most xs u e = go (basic (take (before_last 0 0 xs) xs)) refl
  where
    go : (t : Bool) → basic (take (before_last 0 0 xs) xs) ≡ t → length u ≤ length xs
    go true t =
        let f : kept (numbers (start (take (before_last 0 0 xs) xs)) (drop (consumed (before_last 0 0 xs)) xs)) ≡ some u = sym (decoded-yes xs (before_last 0 0 xs) refl t) ∙ e in
        let n = (counted (drop (consumed (before_last 0 0 xs)) xs) (start (take (before_last 0 0 xs) xs))).most u (kept-some _ u f) in
        after (before_last 0 0 xs) (before-inside xs) n
      where
        after : (b : ℕ) → b ≤ length xs - 1 → length u ≤ length (take b xs) + length (drop (consumed b) xs) → length u ≤ length xs
        after zero i n = omega (arith, n)
        after (suc b) i n = omega (arith, n, length-drop (suc (suc b)) xs, length-take-le (suc b) xs (omega arith))
    go false t = absurd-some u (sym (decoded-no xs (before_last 0 0 xs) refl t) ∙ e)

pub spelled-bounds : (l : List ℕ) → (length (spelled l) ≤ 4 * length l) × (length (spelled l) ≤ spelling_limit → length l ≤ 11 * length (spelled l) + 5)
spelled-bounds l = first (prefixed l) refl
  where
    same : spelled l ≡ l → (length (spelled l) ≤ 4 * length l) × (length (spelled l) ≤ spelling_limit → length l ≤ 11 * length (spelled l) + 5)
    same e = rw e (omega arith, λ h. omega arith)

    second : prefixed l ≡ true → (o : Option (List ℕ)) → decoded (drop 4 l) ≡ o → (length (spelled l) ≤ 4 * length l) × (length (spelled l) ≤ spelling_limit → length l ≤ 11 * length (spelled l) + 5)
    second p none e = same (spelled-failed l p e)
    second p (some u) e =
        let b = utf8s-bounds u in
        let d = length-drop 4 l in
        rw (spelled-some l p u e) (omega (arith, decoded-most (drop 4 l) u e), λ h. omega (arith, decoded-length (drop 4 l) u (omega arith) e))

    first : (t : Bool) → prefixed l ≡ t → (length (spelled l) ≤ 4 * length l) × (length (spelled l) ≤ spelling_limit → length l ≤ 11 * length (spelled l) + 5)
    first true p = second p (decoded (drop 4 l)) refl
    first false p = same (spelled-plain l p)

-- ==== a text, by its labels

all-labels : List (List ℕ) → ℕ
all-labels [] = 0
all-labels (l ∷ ls) = suc (length l) + all-labels ls

labels_length : (xs : List ℕ) → all-labels (labels xs) ≡ suc (length xs)
unfolding labels all-labels
labels_length [] = refl
labels_length (x ∷ xs) = go (eqb x 46) refl (labels_length xs)
  where
    first-longer : (ls : List (List ℕ)) → 0 < all-labels ls → all-labels (on_first x ls) ≡ suc (all-labels ls)
    first-longer [] h = absurd (omega arith)
    first-longer (l ∷ ls) h = omega arith

    go : (t : Bool) → eqb x 46 ≡ t → all-labels (labels xs) ≡ suc (length xs) → all-labels (labels (x ∷ xs)) ≡ suc (suc (length xs))
    go true e ih = rw (labels, e) (omega arith)
    go false e ih = rw (labels, e) (first-longer (labels xs) (omega arith) ∙ ap suc ih)

joined_length : (ls : List (List ℕ)) → 0 < all-labels ls → suc (length (joined ls)) ≡ all-labels ls
unfolding joined all-labels
joined_length [] h = absurd (omega arith)
joined_length (l ∷ []) h = omega arith
joined_length (l ∷ m ∷ ms) h = omega (arith, length-append l (46 ∷ joined (m ∷ ms)), joined_length (m ∷ ms) (omega arith))

spelled-all : (ls : List (List ℕ)) → (all-labels (map spelled ls) + 3 * length ls ≤ 4 * all-labels ls) × (all-labels (map spelled ls) ≤ spelling_limit + 1 → all-labels ls ≤ 11 * all-labels (map spelled ls))
unfolding all-labels
spelled-all [] = (omega arith, λ h. omega arith)
spelled-all (l ∷ ls) =
    let b = spelled-bounds l in
    let c = spelled-all ls in
    (omega (arith, b.0, c.0), λ h. omega (arith, b.1 (omega arith), c.1 (omega arith)))

one_label : (ls : List (List ℕ)) → 0 < all-labels ls → 1 ≤ length ls
unfolding all-labels
one_label [] h = h
one_label (l ∷ ls) h = omega arith

spelled-some-label : (ls : List (List ℕ)) → 0 < all-labels ls → 0 < all-labels (map spelled ls)
unfolding all-labels
spelled-some-label [] h = h
spelled-some-label (l ∷ ls) h = omega arith

-- a spelling is at most four times as long as its text, and a text at most eleven times as long as its spelling and ten bytes more
pub spelling-most : (t : List ℕ) → length (spelling t) ≤ 4 * length t
unfolding spelling
spelling-most t = omega (arith, labels_length t, (spelled-all (labels t)).0, one_label (labels t) (omega (arith, labels_length t)), joined_length (map spelled (labels t)) (spelled-some-label (labels t) (omega (arith, labels_length t))))

pub spelling-least : (t : List ℕ) → length (spelling t) ≤ spelling_limit → length t ≤ 11 * length (spelling t) + 10
unfolding spelling
spelling-least t h =
    let j = joined_length (map spelled (labels t)) (spelled-some-label (labels t) (omega (arith, labels_length t))) in
    omega (arith, labels_length t, (spelled-all (labels t)).1 (omega (arith, j)), j)
