-- Keyword columns: one law for each way out of the code, and the two cases that its answer tells.
use Prim.Native.Nat.{ℕ, zero, suc, ◌+◌, ◌≤◌, ◌<◌}
use native.Mathlib.Omega.{arith}
use mathlib.Core.Path.{◌≡◌, refl, sym, ◌∙◌}
use mathlib.Core.Bool.{Bool, true, false, cond, ◌&&◌}
use mathlib.Core.List.{List, [], ◌∷◌, map}
use lib.Dec.{eqb}
use lib.ListN.{length, drop, get_or}
use lib.Seq.{drop-drop}
use native.Mathlib.Nat.{add-zero, zero-add}
use borrow.Author.Tests.{eq-eqb, ne_eqb}
use Rattle.base_sequences.proofs.Booleans.{both}
use Rattle.base_readers.specs.Texts.{same}
use Rattle.base_readers.specs.Parsers.{nothing, byte, text}
use Rattle.base_readers.proofs.Texts.{same-eq, same_refl}
use Rattle.base_readers.proofs.Readers.{there-at}
use Rattle.base_readers.proofs.Places.{goes_on, stops, byte_at, byte-none, text_at, text-none}
use Rattle.lexis_rules.specs.Bytes.{lower}
use Rattle.lexis_rules.specs.Pieces.{keyword}
use Rattle.result_rules.specs.Table.{table, tabled}
use Rattle.base_sequences.specs.Spans.{span}
use Rattle.write_rules.specs.Entries.{whole, is_keyword}
use Rattle.write_laws.proofs.Keywords.{keyword-is, tabled-keywords}
use Rattle.std.specs.List.{list_all}
use mathlib.Core.Path.{ap}
use Rattle.write_columns.specs.Internal.{column_size, ColumnEnd, column, unclosed}

-- ==== one column

module _ (s : List ℕ) (at c e : ℕ) (h : e ≡ at + keyword (drop at s)) (r : Bool) (p : r ≡ eqb (get_or (drop e s) 0 0) c) where
  size_is : column_size c (drop at s) ≡ cond r (keyword (drop at s)) 0
  unfolding column_size
  size_is =
      let d : drop (keyword (drop at s)) (drop at s) ≡ drop e s = drop-drop (keyword (drop at s)) at s ∙ rw h in
      rw (column_size, d, p)

  pub column-closed : r ≡ true → e ≡ at + column_size c (drop at s)
  column-closed t = h ∙ rw (size_is, t)

  pub column-open : r ≡ false → at ≡ at + column_size c (drop at s)
  column-open f = rw (size_is, f) (sym (add-zero at))

-- as the code answers
module _ (s : List ℕ) (at c e : ℕ) (h : e ≡ at + keyword (drop at s)) where
  pub column-found : at < e → (r : Bool) → r ≡ eqb (get_or (drop e s) 0 0) c → r ≡ true → (e ≡ at + column_size c (drop at s)) × (at < e)
  column-found l r p t = (column-closed s at c e h r p t, l)

  pub column-open-none : (r : Bool) → r ≡ eqb (get_or (drop e s) 0 0) c → r ≡ false → column_size c (drop at s) ≡ 0
  column-open-none r p f = omega (arith, column-open s at c e h r p f)

  pub column-empty : e ≤ at → column_size c (drop at s) ≡ 0
  column-empty l = go (eqb (get_or (drop e s) 0 0) c) refl
    where
      go : (b : Bool) → b ≡ eqb (get_or (drop e s) 0 0) c → column_size c (drop at s) ≡ 0
      go true p = omega (arith, column-closed s at c e h true p refl)
      go false p = omega (arith, column-open s at c e h false p refl)

-- its answer: a keyword stands and is closed there, or not
pub column-ends : (s : List ℕ) (at c : ℕ) → 0 < c → (r : ℕ) → r ≡ at + column_size c (drop at s) → ColumnEnd s at c r
column-ends s at c o r k = word (keyword (drop at s)) refl
  where
    e : ℕ
    e = at + keyword (drop at s)

    z : eqb 0 c ≡ false
    z = ne_eqb 0 c (λ q. omega arith)

    word : (n : ℕ) → keyword (drop at s) ≡ n → ColumnEnd s at c r
    word zero w =
        unclosed (λ q. stops (text keyword) _ s at (text-none keyword s at e refl (omega (arith, w))))
        (k ∙ go (eqb (get_or (drop e s) 0 0) c) refl)
      where
        go : (b : Bool) → b ≡ eqb (get_or (drop e s) 0 0) c → at + column_size c (drop at s) ≡ at
        go true p = sym (column-closed s at c e refl true p refl) ∙ omega (arith, w)
        go false p = sym (column-open s at c e refl false p refl)
    word (suc n) w = go (eqb (get_or (drop e s) 0 0) c) refl
      where
        ne : e ≡ at → ⊥
        ne q = omega (arith, w, q)

        go : (b : Bool) → b ≡ eqb (get_or (drop e s) 0 0) c → ColumnEnd s at c r
        go true p =
            let j : r ≡ e = k ∙ sym (column-closed s at c e refl true p refl) in
            rw j
            (column (λ q x X. goes_on (text keyword) _ s at (span s at e) e x (text_at keyword s at e refl ne) (goes_on (byte c) _ s e tt (e + 1) x (byte_at c s e true p refl z) X))
            (omega (arith, w)) (omega (arith, there-at (λ b. eqb b c) z s e 0 (sym p))))
        go false p =
            unclosed (λ q. goes_on (text keyword) _ s at (span s at e) e nothing (text_at keyword s at e refl ne) (stops (byte c) _ s e (byte-none c s e false p refl)))
            (k ∙ sym (column-open s at c e refl false p refl))

-- ==== all of a text is a keyword in lower case

pub keyword-empty : (k : List ℕ) → length k ≡ 0 → false ≡ is_keyword k
unfolding is_keyword whole
keyword-empty [] z = refl
keyword-empty (x ∷ k) z = absurd (omega arith)

module _ (k : List ℕ) (e : ℕ) (ne : length k ≡ 0 → ⊥) (q : e ≡ 0 + keyword (drop 0 k)) where
  keyword-all : whole keyword k ≡ eqb e (length k)
  unfolding whole
  keyword-all = go k ne q
    where
      go : (l : List ℕ) → (length l ≡ 0 → ⊥) → e ≡ 0 + keyword l → whole keyword l ≡ eqb e (length l)
      go [] n j = absurd (n refl)
      go (x ∷ l) n j = let i : e ≡ keyword (x ∷ l) = j ∙ zero-add _ in rw i

  pub keyword-part : (e ≡ length k → ⊥) → false ≡ is_keyword k
  unfolding is_keyword
  keyword-part n = rw (keyword-all, ne_eqb e (length k) n)

  pub keyword-whole : e ≡ length k → (b : Bool) → b ≡ same (map lower k) k → b ≡ is_keyword k
  unfolding is_keyword
  keyword-whole y b p = rw (keyword-all, eq-eqb e (length k) y) p

-- ==== no capitals

pub lower-all : (part : List ℕ) → list_all (λ (b : ℕ). eqb (lower b) b) part ≡ same (map lower part) part
unfolding same
lower-all [] = refl
lower-all (b ∷ part) = ap (λ (r : Bool). eqb (lower b) b && r) (lower-all part)

-- ==== in the table as they stand

module _ (m o : List ℕ) (r : Bool) (p : r ≡ same (map lower m) m) where
  keyword-lower : (k : List ℕ) → is_keyword k ≡ true → same (map lower k) k ≡ true
  keyword-lower k e = rw (keyword-is k e).1 (same_refl k)

  pub known-capital : r ≡ false → false ≡ tabled table m o
  known-capital f = go (tabled table m o) refl
    where
      go : (t : Bool) → tabled table m o ≡ t → false ≡ t
      go true e = absurd (both (same (map lower m) m) (sym p ∙ f) (keyword-lower m (tabled-keywords m o e).0))
      go false e = refl

  module _ (y : r ≡ true) (q : Bool) (k : q ≡ same (map lower o) o) where
    pub known-capital-result : q ≡ false → false ≡ tabled table m o
    known-capital-result f = go (tabled table m o) refl
      where
        go : (t : Bool) → tabled table m o ≡ t → false ≡ t
        go true e = absurd (both (same (map lower o) o) (sym k ∙ f) (keyword-lower o (tabled-keywords m o e).1))
        go false e = refl

    pub known-tabled : q ≡ true → (t : Bool) → t ≡ tabled table (map lower m) (map lower o) → t ≡ tabled table m o
    known-tabled g t e = rw (same-eq (map lower m) m (sym p ∙ y), same-eq (map lower o) o (sym k ∙ g)) at e
