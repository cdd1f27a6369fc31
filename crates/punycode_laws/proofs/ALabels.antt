-- A label that starts with xn-- and decodes, and the label that it decodes to, have the same spelling: the second is its own.
use Prim.Native.Nat.{ℕ, zero, suc, ◌+◌, ◌-◌, ◌/◌, ◌%◌, ◌≤◌, ◌<◌}
use native.Mathlib.Omega.{arith}
use mathlib.Core.Path.{◌≡◌, refl, sym, ap, ◌∙◌}
use mathlib.Core.Bool.{Bool, true, false, ◌&&◌}
use mathlib.Core.Logic.{◌⊎◌, inl, inr, ⊎_elim}
use mathlib.Core.List.{List, [], ◌∷◌, ◌++◌}
use mathlib.Core.Option.{none, some}
use lib.Dec.{eqb, ltb, lit<}
use lib.ListN.{length, get_or, take, drop}
use lib.Seq.{drop-cons}
use borrow.Author.Tests.{le-leb, lt-leb, le-ltb, ne_eqb, eqb-true, ltb-false}
use Rattle.base_sequences.proofs.Booleans.{no_true, both, and_left, and_right}
use Rattle.base_readers.specs.Texts.{within, one_of}
use Rattle.base_readers.proofs.Texts.{all, one_in}
use Rattle.punycode_rules.specs.Punycode.{State, start, last, more, digit_of, numbers, before_last, basic, consumed}
use Rattle.punycode_rules.specs.Unicode.{utf8, utf8s}
use Rattle.punycode_rules.specs.Labels.{kept, decoded, prefixed, spelled, spelling}
use Rattle.punycode_laws.proofs.Lists.{and-false-left, and-false-right, basic-behind, lacks-drop}
use Rattle.punycode_laws.proofs.Decoding.{numbers-none, by_cases, kept-none}
use Rattle.punycode_laws.proofs.Basics.{before-inside, decoded-yes, decoded-no}
use Rattle.punycode_laws.proofs.Spelling.{spelled-plain, spelled-failed, spelled-some}
use Rattle.punycode_laws.proofs.Absent.{dotless-spelling, decoded-lacks, utf8s-lacks}

-- ==== a label that is not of ASCII does not decode

digit-high : (x : ℕ) → 128 ≤ x → 36 ≤ digit_of x
unfolding digit_of within
digit-high x h = rw (le-leb 97 x (omega arith), lt-leb x 122 (omega arith), le-leb 65 x (omega arith), lt-leb x 90 (omega arith), le-leb 48 x (omega arith), lt-leb x 57 (omega arith)) (omega arith)

numbers-high : (xs : List ℕ) (s : State) → basic xs ≡ false → numbers s xs ≡ none
unfolding basic
numbers-high [] s h = absurd (no_true (sym h))
numbers-high (x ∷ xs) s h = go (ltb x 128) refl (numbers-high xs)
  where
    go : (t : Bool) → ltb x 128 ≡ t → ((s : State) → basic xs ≡ false → numbers s xs ≡ none) → numbers s (x ∷ xs) ≡ none
    go true e ih =
        let g : basic xs ≡ false = and-false-right (ltb x 128) (basic xs) h e in
        by_cases s x xs (λ o. o ≡ none) refl (ih (last s (digit_of x)) g) (λ a b. ih (more s (digit_of x)) g)
    go false e ih = numbers-none s x xs (digit-high x (ltb-false _ _ e))

-- where the basic code points end, if there are any, stands a hyphen
before-hyphen : (xs : List ℕ) (found at b : ℕ) → before_last found at xs ≡ b → (b ≡ found) ⊎ ((at ≤ b) × (get_or xs (b - at) 0 ≡ 45))
unfolding before_last
before-hyphen [] found at b e = inl (sym e)
before-hyphen (x ∷ xs) found at b e = go (eqb x 45) refl (λ found. before-hyphen xs found (suc at) b)
  where
    later : (suc at ≤ b) × (get_or xs (b - suc at) 0 ≡ 45) → (b ≡ found) ⊎ ((at ≤ b) × (get_or (x ∷ xs) (b - at) 0 ≡ 45))
    later p = let z : b - at ≡ suc (b - suc at) = omega (arith, p.0) in inr (omega (arith, p.0), rw z p.1)

    here : eqb x 45 ≡ true → b ≡ at → (b ≡ found) ⊎ ((at ≤ b) × (get_or (x ∷ xs) (b - at) 0 ≡ 45))
    here h w = let z : b - at ≡ 0 = omega arith in inr (omega arith, rw z (eqb-true x 45 h))

    go : (t : Bool) → eqb x 45 ≡ t → ((found : ℕ) → before_last found (suc at) xs ≡ b → (b ≡ found) ⊎ ((suc at ≤ b) × (get_or xs (b - suc at) 0 ≡ 45))) → (b ≡ found) ⊎ ((at ≤ b) × (get_or (x ∷ xs) (b - at) 0 ≡ 45))
    go true h ih = ⊎_elim (λ w. here h w) later (ih at (rw (before_last, h) at e))
    go false h ih = ⊎_elim (λ w. inl w) later (ih found (rw (before_last, h) at e))

rest-high : (xs : List ℕ) (b : ℕ) → b ≡ before_last 0 0 xs → basic xs ≡ false → basic (take b xs) ≡ true → basic (drop (consumed b) xs) ≡ false
unfolding basic
rest-high xs zero q h g = h
rest-high xs (suc b) q h g =
    let in-it : suc b < length xs = omega (arith, q, before-inside xs) in
    let r : basic (drop (suc b) xs) ≡ false = basic-behind (suc b) xs h g in
    let y : get_or xs (suc b) 0 ≡ 45 = ⊎_elim {C = get_or xs (suc b) 0 ≡ 45} (λ z. absurd (omega arith)) (λ p. (let z : suc b - 0 ≡ suc b = omega arith in rw z at p.1)) (before-hyphen xs 0 0 (suc b) (sym q)) in
    let d : drop (suc b) xs ≡ 45 ∷ drop (suc (suc b)) xs = drop-cons {A = ℕ} xs (suc b) 0 in-it ∙ rw y in
    rw d at r

pub high-decoded : (xs : List ℕ) → basic xs ≡ false → decoded xs ≡ none
high-decoded xs h = go (before_last 0 0 xs) refl (basic (take (before_last 0 0 xs) xs)) refl
  where
    go : (b : ℕ) → b ≡ before_last 0 0 xs → (t : Bool) → basic (take (before_last 0 0 xs) xs) ≡ t → decoded xs ≡ none
    go b q true t =
        let g : basic (take b xs) ≡ true = rw q t in
        decoded-yes xs b q g ∙ (ap kept (numbers-high (drop (consumed b) xs) (start (take b xs)) (rest-high xs b q h g)) ∙ kept-none)
    go b q false t = decoded-no xs b q (rw q t)

-- ==== a label and its UTF-8 start with xn-- or not, and are of ASCII or not, together

utf8s-low : (x : ℕ) (u : List ℕ) → ltb x 128 ≡ true → utf8s (x ∷ u) ≡ x ∷ utf8s u
unfolding utf8s utf8
utf8s-low x u h = let e : utf8 x ≡ x ∷ [] = rw (utf8, h) in rw e

-- the first byte of a code point from 128 up is one itself
utf8s-first : (x : ℕ) (u : List ℕ) → ltb x 128 ≡ false → (y : ℕ) × (ys : List ℕ) × (utf8s (x ∷ u) ≡ y ∷ ys) × (128 ≤ y)
unfolding utf8s utf8
utf8s-first x u h = second (ltb x 2048) refl
  where
    third : ltb x 2048 ≡ false → (t : Bool) → ltb x 65536 ≡ t → (y : ℕ) × (ys : List ℕ) × (utf8s (x ∷ u) ≡ y ∷ ys) × (128 ≤ y)
    third g true e = let z : utf8 x ≡ (224 + x / 4096) ∷ (128 + x / 64 % 64) ∷ (128 + x % 64) ∷ [] = rw (utf8, h, g, e) in (_, _, ap (λ (l : List ℕ). l ++ utf8s u) z, omega arith)
    third g false e = let z : utf8 x ≡ (240 + x / 262144) ∷ (128 + x / 4096 % 64) ∷ (128 + x / 64 % 64) ∷ (128 + x % 64) ∷ [] = rw (utf8, h, g, e) in (_, _, ap (λ (l : List ℕ). l ++ utf8s u) z, omega arith)

    second : (t : Bool) → ltb x 2048 ≡ t → (y : ℕ) × (ys : List ℕ) × (utf8s (x ∷ u) ≡ y ∷ ys) × (128 ≤ y)
    second true e = let z : utf8 x ≡ (192 + x / 64) ∷ (128 + x % 64) ∷ [] = rw (utf8, h, e) in (_, _, ap (λ (l : List ℕ). l ++ utf8s u) z, omega arith)
    second false e = third e (ltb x 65536) refl

basic-utf8s : (u : List ℕ) → basic u ≡ false → basic (utf8s u) ≡ false
unfolding basic utf8s
basic-utf8s [] h = h
basic-utf8s (x ∷ u) h = go (ltb x 128) refl (basic-utf8s u)
  where
    go : (t : Bool) → ltb x 128 ≡ t → (basic u ≡ false → basic (utf8s u) ≡ false) → basic (utf8s (x ∷ u)) ≡ false
    go true e ih = ap basic (utf8s-low x u e) ∙ rw e (ih (and-false-right (ltb x 128) (basic u) h e))
    go false e ih = let f = utf8s-first x u e in ap basic f.2 ∙ rw (le-ltb f.0 128 f.3)

four : (p q r s : Bool) → (p && q && r && s) ≡ (p && (q && (r && (s && true))))
four true true true true = refl
four true true true false = refl
four true true false s = refl
four true false r s = refl
four false q r s = refl

-- the first bytes pass these tests, one each
fronts : List (ℕ → Bool) → List ℕ → Bool
fronts [] l = true
fronts (p ∷ ps) l = p (get_or l 0 0) && fronts ps (drop 1 l)

-- tests that no byte from 128 up passes
data Low : List (ℕ → Bool) → Type 0 where
  no_test : Low []
  test : {p : ℕ → Bool} {ps : List (ℕ → Bool)} → ((x : ℕ) → 128 ≤ x → p x ≡ false) → Low ps → Low (p ∷ ps)

fronts-utf8s : (ps : List (ℕ → Bool)) (u : List ℕ) → Low ps → fronts ps (utf8s u) ≡ fronts ps u
unfolding fronts utf8s
fronts-utf8s [] u w = refl
fronts-utf8s (p ∷ ps) [] (test h w) = refl
fronts-utf8s (p ∷ ps) (x ∷ u) (test h w) = go (ltb x 128) refl (fronts-utf8s ps u w)
  where
    go : (t : Bool) → ltb x 128 ≡ t → fronts ps (utf8s u) ≡ fronts ps u → fronts (p ∷ ps) (utf8s (x ∷ u)) ≡ fronts (p ∷ ps) (x ∷ u)
    go true e ih = ap (fronts (p ∷ ps)) (utf8s-low x u e) ∙ rw ih
    go false e ih =
        let f = utf8s-first x u e in
        let a : p f.0 ≡ false = h f.0 f.3 in
        let b : p x ≡ false = h x (ltb-false _ _ e) in
        ap (fronts (p ∷ ps)) f.2 ∙ rw (a, b)

-- bytes that pass such tests are of ASCII
fronts-basic : (ps : List (ℕ → Bool)) (l : List ℕ) → Low ps → fronts ps l ≡ true → basic (take (length ps) l) ≡ true
unfolding fronts basic
fronts-basic [] l w h = refl
fronts-basic (p ∷ ps) [] (test n w) h = refl
fronts-basic (p ∷ ps) (x ∷ l) (test n w) h = go (ltb x 128) refl (fronts-basic ps l w (and_right (p x) (fronts ps l) h))
  where
    go : (t : Bool) → ltb x 128 ≡ t → basic (take (length ps) l) ≡ true → (ltb x 128 && basic (take (length ps) l)) ≡ true
    go true e ih = rw e ih
    go false e ih = absurd (both (p x) (n x (ltb-false _ _ e)) (and_left (p x) (fronts ps l) h))

-- the four tests of the prefix xn--
prefix : List (ℕ → Bool)
prefix = one_of (120 ∷ 88 ∷ []) ∷ one_of (110 ∷ 78 ∷ []) ∷ (λ x. eqb x 45) ∷ (λ x. eqb x 45) ∷ []

prefixed-fronts : (l : List ℕ) → prefixed l ≡ fronts prefix l
unfolding prefixed fronts prefix one_of
prefixed-fronts [] = refl
prefixed-fronts (a ∷ []) = four (one_of (120 ∷ 88 ∷ []) a) false false false
prefixed-fronts (a ∷ b ∷ []) = four (one_of (120 ∷ 88 ∷ []) a) (one_of (110 ∷ 78 ∷ []) b) false false
prefixed-fronts (a ∷ b ∷ c ∷ []) = four (one_of (120 ∷ 88 ∷ []) a) (one_of (110 ∷ 78 ∷ []) b) (eqb c 45) false
prefixed-fronts (a ∷ b ∷ c ∷ d ∷ l) = four (one_of (120 ∷ 88 ∷ []) a) (one_of (110 ∷ 78 ∷ []) b) (eqb c 45) (eqb d 45)

prefix-low : Low prefix
unfolding prefix
prefix-low = test (λ x h. listed (120 ∷ 88 ∷ []) x h refl) (test (λ x h. listed (110 ∷ 78 ∷ []) x h refl) (test (λ x h. hyphen x h) (test (λ x h. hyphen x h) no_test)))
  where
    listed : (l : List ℕ) (x : ℕ) → 128 ≤ x → all (λ b. ltb b 128) l ≡ true → one_of l x ≡ false
    listed l x h e = go (one_of l x) refl
      where
        go : (t : Bool) → one_of l x ≡ t → one_of l x ≡ false
        go true q = absurd (both (ltb x 128) (le-ltb x 128 h) (one_in l (λ b. ltb b 128) e x q))
        go false q = q

    hyphen : (x : ℕ) → 128 ≤ x → eqb x 45 ≡ false
    hyphen x h = ne_eqb x 45 (λ e. omega arith)

prefixed-utf8s : (u : List ℕ) → prefixed (utf8s u) ≡ prefixed u
prefixed-utf8s u = prefixed-fronts (utf8s u) ∙ (fronts-utf8s prefix u prefix-low ∙ sym (prefixed-fronts u))

-- the prefix is of ASCII
prefixed-basic : (l : List ℕ) → prefixed l ≡ true → basic (take 4 l) ≡ true
unfolding basic prefix
prefixed-basic l h = fronts-basic prefix l prefix-low (sym (prefixed-fronts l) ∙ h)

-- ==== the spellings

-- a label that is not of ASCII, or does not start with xn--, is its own spelling in UTF-8
pub u-label-spelled : (u : List ℕ) → (basic u && prefixed u) ≡ false → spelled (utf8s u) ≡ utf8s u
u-label-spelled u h = go (prefixed (utf8s u)) refl
  where
    go : (t : Bool) → prefixed (utf8s u) ≡ t → spelled (utf8s u) ≡ utf8s u
    go true e =
        let p : prefixed u ≡ true = sym (prefixed-utf8s u) ∙ e in
        let b : basic u ≡ false = and-false-left (basic u) (prefixed u) h p in
        spelled-failed (utf8s u) e (high-decoded (drop 4 (utf8s u)) (basic-behind 4 (utf8s u) (basic-utf8s u b) (prefixed-basic (utf8s u) e)))
    go false e = spelled-plain (utf8s u) e

pub a-label-spelling : (l u : List ℕ) → one_of l 46 ≡ false → prefixed l ≡ true → decoded (drop 4 l) ≡ some u → (basic u && prefixed u) ≡ false
    → spelling l ≡ spelling (utf8s u)
a-label-spelling l u d p e h =
    let dotless : one_of (utf8s u) 46 ≡ false = utf8s-lacks 46 (lit< tt) u (decoded-lacks 46 (lit< tt) (drop 4 l) u e (lacks-drop 46 4 l d)) in
    dotless-spelling l d ∙ (spelled-some l p u e ∙ sym (dotless-spelling (utf8s u) dotless ∙ u-label-spelled u h))
