-- A value at a place: a quoted string where the first byte is a quote, else a token; and its text is the one that the parser of values
-- yields, since the text of a quoted string hangs on nothing behind it.
use Prim.Native.Nat.{ℕ, zero, suc, ◌+◌, ◌-◌, ◌<◌}
use native.Mathlib.Nat.{add_comm}
use native.Mathlib.Omega.{arith}
use mathlib.Core.Path.{◌≡◌, refl, sym, ap, ◌∙◌}
use mathlib.Core.Bool.{Bool, true, false, cond}
use mathlib.Core.List.{List, [], ◌∷◌, ◌++◌, append-nil}
use lib.Dec.{eqb}
use lib.ListN.{length, get_or, take, drop, take-append-drop, length-drop}
use lib.Seq.{length-take-le, get_or-drop}
use borrow.Author.Tests.{eqb-true}
use Rattle.base_sequences.proofs.Booleans.{no_true}
use Rattle.base_sequences.proofs.Lists.{get_or-behind, drop-take}
use Rattle.base_readers.specs.Readers.{Reader, many, lasts}
use Rattle.base_readers.specs.Parsers.{nothing, got, give, text}
use Rattle.base_readers.specs.Places.{from}
use Rattle.base_readers.specs.Locality.{Ends}
use Rattle.base_readers.proofs.Readers.{choose_yes, choose_no, between_is, between_first}
use Rattle.base_readers.proofs.Local.{lasts-at}
use Rattle.base_readers.proofs.Places.{goes_on, stops, gives, text_at, text-none}
use Rattle.lexis_rules.specs.declared.Class.TheVariants as class
use Rattle.lexis_rules.specs.declared.Value.TheVariants.{Token, Quoted, Nothing}
use Rattle.lexis_rules.specs.Pieces.{item, token, quoted, value}
use Rattle.lexis_rules.specs.Words.{quoted_text, value_text, read_value}
use Rattle.lexis_rules.specs.Answers.{value_at, value_got}
use Rattle.lexis_laws.proofs.Pieces.{quoted-fits}
use Rattle.lexis_laws.proofs.Locality.{item-local, quoted-shut}

module _ (s : List ℕ) (at : ℕ) (r : Bool) (h : r ≡ eqb (get_or (drop at s) 0 0) 34) where
  module _ (t : r ≡ true) (e : ℕ) (q : e ≡ at + quoted (drop at s)) where
    opened : eqb (get_or (drop at s) 0 0) 34 ≡ true
    opened = sym h ∙ t

    pub value-unclosed : e ≡ at → Nothing ≡ value_at s at
    unfolding value_at
    value-unclosed z = let n : quoted (drop at s) ≡ 0 = omega arith in rw (value_at, opened, n)

    pub value-quoted : (e ≡ at → ⊥) → Quoted at e ≡ value_at s at
    unfolding value_at
    value-quoted ne = go (quoted (drop at s)) refl
      where
        go : (n : ℕ) → quoted (drop at s) ≡ n → Quoted at e ≡ value_at s at
        go zero z = absurd (ne (omega arith))
        go (suc n) z = let j : e ≡ at + suc n = omega arith in rw (value_at, opened, z, j)

  module _ (t : r ≡ false) (e : ℕ) (q : e ≡ at + token (drop at s)) where
    bare : eqb (get_or (drop at s) 0 0) 34 ≡ false
    bare = sym h ∙ t

    pub value_none : e ≡ at → Nothing ≡ value_at s at
    unfolding value_at
    value_none z = let n : token (drop at s) ≡ 0 = omega arith in rw (value_at, bare, n)

    pub value-token : (e ≡ at → ⊥) → Token at e ≡ value_at s at
    unfolding value_at
    value-token ne = go (token (drop at s)) refl
      where
        go : (n : ℕ) → token (drop at s) ≡ n → Token at e ≡ value_at s at
        go zero z = absurd (ne (omega arith))
        go (suc n) z = let j : e ≡ at + suc n = omega arith in rw (value_at, bare, z, j)

-- ==== the text

module _ (xs : List ℕ) (n : ℕ) (e : quoted xs ≡ suc n) where
  items : Reader
  items = many (item class.Quoted) 0

  -- the items, and the quote behind them
  closed : (eqb (get_or xs (items (drop 1 xs) + 1) 0) 34 ≡ true) × (items (drop 1 xs) + 1 ≡ n)
  unfolding items
  closed = go (eqb (get_or xs (m + 1) 0) 34) refl
    where
      m : ℕ
      m = many (item class.Quoted) 0 (drop 1 xs)

      is : quoted xs ≡ cond (eqb (get_or xs (m + 1) 0) 34) (m + 2) 0
      is = between_is 34 34 (many (item class.Quoted) 0) xs (between_first 34 34 (many (item class.Quoted) 0) xs n e)

      go : (t : Bool) → eqb (get_or xs (m + 1) 0) 34 ≡ t → (eqb (get_or xs (m + 1) 0) 34 ≡ true) × (m + 1 ≡ n)
      go true q = let w : m + 2 ≡ suc n = rw q at (sym is ∙ e) in (q, omega arith)
      go false q = let w : 0 ≡ suc n = rw q at (sym is ∙ e) in absurd (omega arith)

  -- the text of a quoted string is that of its own bytes
  pub quoted-text : quoted_text (take (suc n) xs) ≡ quoted_text xs
  unfolding quoted_text items
  quoted-text =
      let ys = drop 1 xs in
      let p = take n ys in
      let x = drop n ys in
      let m = many (item class.Quoted) 0 ys in
      let l : length p ≡ n = length-take-le n ys (omega (arith, rw e at (quoted-fits xs), length-drop 1 xs)) in
      let c : p ++ x ≡ ys = take-append-drop n ys in
      let k : m < length p = omega (arith, closed.1) in
      let b : get_or (p ++ x) m 0 ≡ 34 = rw (c, get_or-drop 1 xs m 0, add_comm 1 m) (eqb-true _ _ closed.0) in
      let z : Ends (item class.Quoted) (drop m p ++ x) = quoted-shut (drop m p ++ x) (get_or-behind p x x m 0 k ∙ b) in
      let w : Ends (item class.Quoted) (drop m p ++ []) = quoted-shut (drop m p ++ []) (get_or-behind p x [] m 0 k ∙ b) in
      let j : suc n - 1 ≡ n = omega arith in
      let t : lasts (item class.Quoted) 0 (p ++ []) ≡ lasts (item class.Quoted) 0 (p ++ x) = lasts-at (item class.Quoted) (item-local class.Quoted) p x [] 0 m (ap items c) (omega arith) z w in
      rw (drop-take 1 (suc n) xs, j, ← append-nil p, t, c)

-- the text of a token is the token
pub token-text : (xs : List ℕ) (n : ℕ) → eqb (get_or xs 0 0) 34 ≡ false → value_text (take (suc n) xs) ≡ take (suc n) xs
unfolding value_text
token-text [] n q = refl
token-text (x ∷ xs) n q = rw (value_text, q)

pub quote-text : (xs : List ℕ) (n : ℕ) → eqb (get_or xs 0 0) 34 ≡ true → value_text (take (suc n) xs) ≡ quoted_text (take (suc n) xs)
unfolding value_text
quote-text [] n q = absurd (no_true q)
quote-text (x ∷ xs) n q = rw (value_text, q)

-- what the code finds is what the parser of values yields
pub value-got : (s : List ℕ) (at : ℕ) → value_got s (value_at s at) ≡ from read_value s at
unfolding read_value
value-got s at = go (eqb (get_or (drop at s) 0 0) 34) refl
  where
    there : (n : ℕ) → value (drop at s) ≡ suc n → got (value_text (take (at + suc n - at) (drop at s))) (at + suc n) ≡ from read_value s at
    there n z =
        let a = take (at + suc n - at) (drop at s) in
        goes_on (text value) (λ v. give (value_text v)) s at a (at + suc n) (got (value_text a) (at + suc n))
        (text_at value s at (at + suc n) (omega arith) (λ i. omega arith)) (gives (value_text a) s (at + suc n))

    none : value (drop at s) ≡ 0 → nothing ≡ from read_value s at
    none z = stops (text value) (λ v. give (value_text v)) s at (text-none value s at at (omega arith) refl)

    quote : eqb (get_or (drop at s) 0 0) 34 ≡ true → (n : ℕ) → quoted (drop at s) ≡ n → value_got s (value_at s at) ≡ from read_value s at
    quote q zero z =
        ap (value_got s) (sym (value-unclosed s at true (sym q) refl at (omega arith) refl)) ∙ none (choose_yes 34 quoted token (drop at s) q ∙ z)
    quote q (suc n) z =
        let j : at + suc n - at ≡ suc n = omega arith in
        let t : value_text (take (at + suc n - at) (drop at s)) ≡ quoted_text (drop at s) = rw j (quote-text (drop at s) n q ∙ quoted-text (drop at s) n z) in
        ap (value_got s) (sym (value-quoted s at true (sym q) refl (at + suc n) (omega arith) (λ i. omega arith)))
        ∙ (ap (λ (a : List ℕ). got a (at + suc n)) (sym t) ∙ there n (choose_yes 34 quoted token (drop at s) q ∙ z))

    bare : eqb (get_or (drop at s) 0 0) 34 ≡ false → (n : ℕ) → token (drop at s) ≡ n → value_got s (value_at s at) ≡ from read_value s at
    bare q zero z =
        ap (value_got s) (sym (value_none s at false (sym q) refl at (omega arith) refl)) ∙ none (choose_no 34 quoted token (drop at s) q ∙ z)
    bare q (suc n) z =
        let j : at + suc n - at ≡ suc n = omega arith in
        let t : value_text (take (at + suc n - at) (drop at s)) ≡ take (at + suc n - at) (drop at s) = rw j (token-text (drop at s) n q) in
        ap (value_got s) (sym (value-token s at false (sym q) refl (at + suc n) (omega arith) (λ i. omega arith)))
        ∙ (ap (λ (a : List ℕ). got a (at + suc n)) (sym t) ∙ there n (choose_no 34 quoted token (drop at s) q ∙ z))

    go : (t : Bool) → eqb (get_or (drop at s) 0 0) 34 ≡ t → value_got s (value_at s at) ≡ from read_value s at
    go true q = quote q (quoted (drop at s)) refl
    go false q = bare q (token (drop at s)) refl
