-- The pieces take no more than there is, and a comment is its brackets around its content.
use Prim.Native.Char.{code}
use Prim.Native.Nat.{ℕ, zero, suc, ◌+◌, ◌-◌, ◌≤◌, zero-le}
use native.Mathlib.Omega.{arith}
use mathlib.Core.Path.{◌≡◌, refl, ◌∙◌}
use mathlib.Core.Bool.{true, ◌&&◌}
use mathlib.Core.List.{List, ◌∷◌, ◌++◌}
use lib.Dec.{eqb}
use lib.ListN.{get_or, take, drop}
use lib.Seq.{drop-drop}
use Rattle.base_sequences.proofs.Booleans.{and_right, cond-le}
use Rattle.base_readers.specs.Readers.{run, choose, between, lasts}
use Rattle.base_readers.specs.Locality.{Fits}
use Rattle.base_readers.proofs.Readers.{there, run_fits, many-fits, lasts-run, choose-fits, between-fits, passing-fits}
use Rattle.lexis_rules.specs.declared.Class.{Class}
use Rattle.lexis_rules.specs.declared.Class.TheVariants.{Blank, Quoted, Comment, Escaped}
use Rattle.lexis_rules.specs.Bytes.{in_class}
use Rattle.lexis_rules.specs.Pieces.{pair, fold, escapes, item, comment, content, space, bare_space, token, quoted, value, keyword}
use Rattle.lexis_laws.proofs.Bytes.{class-zero}

pub item-fits : (c : Class) → Fits (item c)
unfolding item pair fold
item-fits c xs =
    let slash = eqb (get_or xs 0 0) (code "\\") in
    let crlf = eqb (get_or xs 0 0) (code "\r") && eqb (get_or xs 1 0) (code "\n") in
    cond-le (in_class c (get_or xs 0 0)) 1 _ _ (λ e. there (in_class c) (class-zero c) xs 0 e)
    (cond-le (escapes c && pair xs) 2 _ _ (λ e. there (in_class Escaped) (class-zero Escaped) xs 1 (and_right slash _ (and_right (escapes c) _ e)))
    (cond-le (fold xs) 3 0 _ (λ e. there (in_class Blank) (class-zero Blank) xs 2 (and_right crlf _ e))
    zero-le))

pub comment-fits : (d : ℕ) → Fits (comment d)
unfolding comment
comment-fits zero xs = zero-le
comment-fits (suc d) xs = between-fits (code "(") (code ")") _ refl xs

pub part-fits : (d : ℕ) (c : Class) → Fits (choose (code "(") (comment d) (item c))
part-fits d c = choose-fits (code "(") (comment d) (item c) (comment-fits d) (item-fits c)

pub content-fits : (d : ℕ) (c : Class) → Fits (content d c)
content-fits d c xs = many-fits _ (part-fits d c) 0 xs zero-le

pub space-fits : Fits space
space-fits = content-fits 16 Blank

pub bare-space-fits : Fits bare_space
bare-space-fits xs = many-fits (item Blank) (item-fits Blank) 0 xs zero-le

pub quoted-fits : Fits quoted
quoted-fits = between-fits (code "\"") (code "\"") _ refl

pub value-fits : Fits value
value-fits = choose-fits (code "\"") quoted token quoted-fits (run_fits _)

pub keyword-fits : Fits keyword
keyword-fits = passing-fits _ _ (run_fits _)

-- a comment is its brackets around its content, and there is none of no level
pub comment-none : (xs : List ℕ) → comment 0 xs ≡ 0
unfolding comment
comment-none xs = refl

pub comment-is : (d : ℕ) (xs : List ℕ) → (d ≡ 0 → ⊥) → comment d xs ≡ between (code "(") (code ")") (content (d - 1) Comment) xs
unfolding comment
comment-is zero xs ne = absurd (ne refl)
comment-is (suc d) xs ne = let e : suc d - 1 ≡ d = omega arith in rw e

-- ==== the text of a quoted string

pub item-one : (c : Class) (x : ℕ) (xs : List ℕ) → in_class c x ≡ true → item c (x ∷ xs) ≡ 1
unfolding item
item-one c x xs h = rw h

-- bytes of the class stand for themselves, as much of a run as is passed at once
pub quoted_text-run : (s : List ℕ) (i e : ℕ) → i ≤ e → e ≤ i + run (in_class Quoted) (drop i s)
    → lasts (item Quoted) 0 (drop i s) ≡ take (e - i) (drop i s) ++ lasts (item Quoted) 0 (drop e s)
quoted_text-run s i e l h =
    let z : i + (e - i) ≡ e = omega arith in
    lasts-run (item Quoted) (in_class Quoted) (item-one Quoted) (e - i) (drop i s) (omega arith) ∙ rw (drop-drop, z)
