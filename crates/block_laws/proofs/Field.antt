-- A field that was read stands by itself: it is read from its own bytes, whatever follows them that starts no further line. This is the
-- locality of its line, its label and its further lines.
use Prim.Native.Char.{code}
use Prim.Native.Nat.{ℕ, zero, suc, ◌+◌, ◌-◌, ◌≤◌, ◌<◌, zero-le}
use native.Mathlib.Nat.{add-zero, not-suc-le-zero}
use native.Mathlib.Omega.{arith}
use mathlib.Core.Path.{◌≡◌, refl, sym, ap, ◌∙◌}
use mathlib.Core.Bool.{Bool, true, false}
use mathlib.Core.List.{List, [], ◌∷◌, ◌++◌}
use borrow.Author.Tests.{leb-false, lt-leb, eqb-true}
use lib.Dec.{eqb, leb}
use lib.ListN.{length, get_or, drop, take, length-drop, take-append-drop, get_or-append}
use lib.Seq.{length-take-le, drop-cons, drop-append-le, drop-length, take_at, get_or-append-add}
use Rattle.base_sequences.proofs.Booleans.{true-not}
use Rattle.base_sequences.proofs.Lists.{get_or-either}
use Rattle.base_readers.specs.Texts.{bytes, within, one_of}
use Rattle.base_readers.specs.Readers.{run, many}
use Rattle.base_readers.specs.Walks.{Met, item, refused}
use Rattle.base_readers.specs.Locality.{Fits, Any, Local}
use Rattle.base_readers.proofs.Texts.{one_out}
use Rattle.base_readers.proofs.Readers.{there, run_more, run-all, run-from, run-narrow, many-fits}
use Rattle.base_readers.proofs.Local.{run_inside, many-at}
use Rattle.lexis_rules.specs.declared.Class.TheVariants.{Blank, Name}
use Rattle.lexis_rules.specs.Bytes.{in_class}
use Rattle.block_rules.specs.Fields.{in_line, line_text, line, name, name_colon, folded, extent, Field, field_limit, field_at}
use Rattle.block_rules.specs.Sound.{Sound}
use Rattle.block_laws.proofs.Lines.{line-fits, folded_fits, label-zero, label-suc, field-2, field-3, field-4, field_is, closed-2, closed_is}

-- ==== what stands at the front: what a field that was read has shown, and that a refusal's number is one of 2 to 4

pub record Whole (count : ℕ) (xs : List ℕ) (f : Field) (n : ℕ) : Type 0 where
  pub lined : line xs ≡ 0 → ⊥
  pub labelled : name_colon xs ≡ 0 → ⊥
  pub below : count < field_limit
  pub size : n ≡ extent xs
  pub shut : in_class Blank (get_or xs n 0) ≡ false
  pub is : f ≡ record { bytes = take n xs; name = name xs; body = name_colon xs }

abbrev Shown : ℕ → List ℕ → Met Field → Type 0
Shown count xs (item f n) = Whole count xs f n
Shown count xs (refused n p) = (2 ≤ n) × (n ≤ 4)

pub shown : (at count : ℕ) (xs : List ℕ) → Shown count xs (field_at at count xs)
shown at count xs = lines (line xs) refl
  where
    ends : (l b : ℕ) → line xs ≡ suc l → name_colon xs ≡ suc b → leb field_limit count ≡ false → (t : Bool) → in_class Blank (get_or xs (extent xs) 0) ≡ t → Shown count xs (field_at at count xs)
    ends l b p q g true y = rw (field_is at count xs l p b q g, closed-2 at xs (extent xs) y) (omega arith, omega arith)
    ends l b p q g false y =
        rw (field_is at count xs l p b q g, closed_is at xs (extent xs) y)
        (record { lined = λ z. omega arith; labelled = λ z. omega arith; below = leb-false field_limit count g; size = refl; shut = y; is = refl })

    counts : (l b : ℕ) → line xs ≡ suc l → name_colon xs ≡ suc b → (t : Bool) → leb field_limit count ≡ t → Shown count xs (field_at at count xs)
    counts l b p q true g = rw (field-4 at count xs l p b q g) (omega arith, omega arith)
    counts l b p q false g = ends l b p q g (in_class Blank (get_or xs (extent xs) 0)) refl

    labels : (l b : ℕ) → line xs ≡ suc l → name_colon xs ≡ b → Shown count xs (field_at at count xs)
    labels l zero p q = rw (field-3 at count xs l p q) (omega arith, omega arith)
    labels l (suc b) p q = counts l b p q (leb field_limit count) refl

    lines : (l : ℕ) → line xs ≡ l → Shown count xs (field_at at count xs)
    lines zero p = rw (field-2 at count xs p) (omega arith, omega arith)
    lines (suc l) p = labels l (name_colon xs) p refl

pub whole : (at count : ℕ) (xs : List ℕ) (f : Field) (n : ℕ) → field_at at count xs ≡ item f n → Whole count xs f n
whole at count xs f n e = rw e at (shown at count xs)

-- ==== the label stands in the text of the line

name-line : (b : ℕ) → in_class Name b ≡ true → in_line b ≡ true
unfolding in_line in_class within one_of
name-line b e = true-not (one_of (bytes "\r\n") b) (one_out (bytes "\r\n") (in_class Name) refl b e)

blank-line : (b : ℕ) → in_class Blank b ≡ true → in_line b ≡ true
unfolding in_line in_class one_of
blank-line b e = true-not (one_of (bytes "\r\n") b) (one_out (bytes "\r\n") (in_class Blank) refl b e)

colon-line : in_line (code ":") ≡ true
unfolding in_line one_of
colon-line = refl

name-blank : (b : ℕ) → in_class Name b ≡ true → in_class Blank b ≡ false
unfolding in_class within one_of
name-blank b e = one_out (bytes " \t") (in_class Name) refl b e

-- name and blanks
abbrev stem : List ℕ → ℕ
stem xs = name xs + run (in_class Blank) (drop (name xs) xs)

-- the name, blanks and a colon
record Labelled (xs : List ℕ) (n : ℕ) : Type 0 where
  named : 0 < name xs
  size : stem xs ≡ n
  colon : eqb (get_or xs (stem xs) 0) (code ":") ≡ true

label_is : (xs : List ℕ) (n : ℕ) → name_colon xs ≡ suc n → Labelled xs n
label_is xs n e = go (name xs) refl
  where
    ends : (k : ℕ) → name xs ≡ suc k → (t : Bool) → eqb (get_or xs (stem xs) 0) (code ":") ≡ t → Labelled xs n
    ends k p true q =
        let s : stem xs + 1 ≡ suc n = sym (label-suc xs (name xs) refl (λ z. omega arith) ∙ rw q) ∙ e in
        record { named = omega arith; size = omega arith; colon = q }
    ends k p false q = absurd (let s : 0 ≡ suc n = sym (label-suc xs (name xs) refl (λ z. omega arith) ∙ rw q) ∙ e in omega arith)

    go : (k : ℕ) → name xs ≡ k → Labelled xs n
    go zero p = absurd (omega (arith, label-zero xs p))
    go (suc k) p = ends k p (eqb (get_or xs (stem xs) 0) (code ":")) refl

label-to : (xs : List ℕ) (n : ℕ) → Labelled xs n → name_colon xs ≡ suc n
label-to xs n l = label-suc xs (name xs) refl (λ z. omega (arith, l.named)) ∙ rw l.colon (omega (arith, l.size))

pub label-in : (xs : List ℕ) → name_colon xs ≤ line_text xs
label-in xs = go (name_colon xs) refl
  where
    go : (k : ℕ) → name_colon xs ≡ k → name_colon xs ≤ line_text xs
    go zero e = rw e zero-le
    go (suc n) e =
        let l = label_is xs n e in
        let k = name xs in
        let m = stem xs in
        let a : run in_line xs ≡ k + run in_line (drop k xs) = run-from in_line k xs (run-narrow (in_class Name) in_line name-line xs) in
        let b : m ≤ run in_line xs = omega (arith, run-narrow (in_class Blank) in_line blank-line (drop k xs)) in
        let c : run in_line xs ≡ m + run in_line (drop m xs) = run-from in_line m xs b in
        let h : m < length xs = there (λ y. eqb y (code ":")) refl xs m l.colon in
        let g : in_line (get_or xs m 0) ≡ true = rw (eqb-true (get_or xs m 0) (code ":") l.colon) colon-line in
        let o : run in_line (drop m xs) ≡ suc (run in_line (drop (suc m) xs)) = rw (drop-cons xs m 0 h) (run_more in_line (get_or xs m 0) (drop (suc m) xs) g) in
        omega (arith, l.size)

-- ==== locality

-- the text, CR and LF
record Lined (xs : List ℕ) (n : ℕ) : Type 0 where
  size : line_text xs + 2 ≡ n
  first : eqb (get_or xs (line_text xs) 0) (code "\r") ≡ true
  second : eqb (get_or xs (line_text xs + 1) 0) (code "\n") ≡ true

line-is : (xs : List ℕ) (n : ℕ) → line xs ≡ suc n → Lined xs (suc n)
unfolding line
line-is xs n e = go (eqb (get_or xs (line_text xs) 0) (code "\r")) (eqb (get_or xs (line_text xs + 1) 0) (code "\n")) refl refl
  where
    go : (a b : Bool) → eqb (get_or xs (line_text xs) 0) (code "\r") ≡ a → eqb (get_or xs (line_text xs + 1) 0) (code "\n") ≡ b → Lined xs (suc n)
    go true true p q = record { size = rw (line, p, q) at e; first = p; second = q }
    go true false p q = absurd (let z : 0 ≡ suc n = rw (line, p, q) at e in omega arith)
    go false b p q = absurd (let z : 0 ≡ suc n = rw (line, p) at e in omega arith)

line-to : (xs : List ℕ) (n : ℕ) → Lined xs n → line xs ≡ n
unfolding line
line-to xs n l = rw (line, l.first, l.second) l.size

pub line-local : Local line Any
line-local p x y n e h k =
    let l = line-is (p ++ x) n e in
    let t : run in_line (p ++ y) ≡ run in_line (p ++ x) = run_inside in_line p x y _ refl (omega (arith, l.size)) in
    line-to (p ++ y) (suc n)
    (record {
      size = rw t l.size;
      first = rw (t, get_or-either p x y (line_text (p ++ x)) 0 (omega (arith, l.size))) l.first;
      second = rw (t, get_or-either p x y (line_text (p ++ x) + 1) 0 (omega (arith, l.size))) l.second;
    })

pub folded-local : Local folded Any
unfolding folded
folded-local [] x y n e h k = absurd (not-suc-le-zero h)
folded-local (b ∷ p) x y n e h k = go (in_class Blank b) refl
  where
    go : (t : Bool) → in_class Blank b ≡ t → folded (b ∷ (p ++ y)) ≡ suc n
    go true q = rw (folded, q) (line-local (b ∷ p) x y n (rw (folded, q) at e) h k)
    go false q = absurd (let z : 0 ≡ suc n = rw (folded, q) at e in omega arith)

pub folded-none : (xs : List ℕ) → in_class Blank (get_or xs 0 0) ≡ false → folded xs ≡ 0
unfolding folded
folded-none xs e = rw (folded, e)

stem-local : (p x y : List ℕ) → stem (p ++ x) < length p → (name (p ++ y) ≡ name (p ++ x)) × (stem (p ++ y) ≡ stem (p ++ x))
stem-local p x y h =
    let k = name (p ++ x) in
    let a : name (p ++ y) ≡ k = run_inside (in_class Name) p x y k refl (omega arith) in
    let d : (z : List ℕ) → drop k (p ++ z) ≡ drop k p ++ z = λ z. drop-append-le k p z (omega arith) in
    let l : run (in_class Blank) (drop k p ++ x) < length (drop k p) = rw length-drop (omega (arith, ap (run (in_class Blank)) (d x))) in
    let b : run (in_class Blank) (drop k p ++ y) ≡ run (in_class Blank) (drop k p ++ x) = run_inside (in_class Blank) (drop k p) x y _ refl l in
    (a, rw (a, d y, d x) (ap (◌+◌ k) b))

pub label-local : Local name_colon Any
label-local p x y n e h k =
    let l = label_is (p ++ x) n e in
    let s = stem-local p x y (omega (arith, l.size)) in
    label-to (p ++ y) n
    (record {
      named = rw s.0 l.named;
      size = s.1 ∙ l.size;
      colon = rw (s.1, get_or-either p x y (stem (p ++ x)) 0 (omega (arith, l.size))) l.colon;
    })

-- ==== a field is read from its own bytes

-- the field p, read with x behind it
module _ (p x : List ℕ) (l b : ℕ) (L : line (p ++ x) ≡ suc l) (B : name_colon (p ++ x) ≡ suc b) (E : extent (p ++ x) ≡ length p) where
  split : suc l + many folded 0 (drop (suc l) (p ++ x)) ≡ length p
  unfolding extent
  split = rw (extent, L) at E

  label-room : suc b + 2 ≤ length p
  label-room = omega (arith, split, (line-is (p ++ x) l L).size, label-in (p ++ x))

  -- with t behind it
  module _ (t : List ℕ) (T : in_class Blank (get_or t 0 0) ≡ false) where
    same_line : line (p ++ t) ≡ suc l
    same_line = line-local p x t l L (omega (arith, split)) tt

    same-label : name_colon (p ++ t) ≡ suc b
    same-label = label-local p x t b B (omega (arith, label-room)) tt

    same_name : name (p ++ t) ≡ name (p ++ x)
    same_name = (stem-local p x t (omega (arith, label-room, (label_is (p ++ x) b B).size))).0

    same-folds : many folded 0 (drop (suc l) (p ++ t)) ≡ length p - suc l
    same-folds =
        let q = drop (suc l) p in
        let d : (z : List ℕ) → drop (suc l) (p ++ z) ≡ q ++ z = λ z. drop-append-le (suc l) p z (omega (arith, split)) in
        let k : length q ≡ length p - suc l = length-drop (suc l) p in
        let m : many folded 0 (q ++ x) ≡ length q = omega (arith, split, ap (many folded 0) (d x)) in
        let z : folded (drop (length q) q ++ t) ≡ 0 = rw drop-length (folded-none t T) in
        rw (d t) (many-at folded folded-local q x t 0 (length q) m (omega arith) z ∙ k)

    same-extent : extent (p ++ t) ≡ length p
    unfolding extent
    same-extent = rw (extent, same_line, same-folds) (omega (arith, split))

    same-field : (at count : ℕ) → count < field_limit → field_at at count (p ++ t) ≡ item (record { bytes = p; name = name (p ++ x); body = name_colon (p ++ x) }) (length p)
    same-field at count h =
        let g : get_or (p ++ t) (length p) 0 ≡ get_or t 0 0 = ap (λ (k : ℕ). get_or (p ++ t) k 0) (sym (add-zero (length p))) ∙ get_or-append-add p t 0 0 in
        let c = closed_is at (p ++ t) (length p) (rw g T) in
        field_is at count (p ++ t) l same_line b same-label (lt-leb field_limit count h)
        ∙ rw same-extent (c ∙ rw (take_at p t (length p) refl, same_name, same-label, B))

extent-fits : Fits extent
unfolding extent
extent-fits xs = omega (arith, line-fits xs, many-fits folded folded_fits 0 (drop (line xs) xs) zero-le, length-drop (line xs) xs)

pub extent-some : (xs : List ℕ) → (line xs ≡ 0 → ⊥) → 0 < extent xs
unfolding extent
extent-some xs h = omega arith

module _ (at count : ℕ) (xs : List ℕ) (f : Field) (n : ℕ) (e : field_at at count xs ≡ item f n) where
  pub field-size : (0 < n) × (n ≤ length xs)
  field-size = let w = whole at count xs f n e in (rw w.size (extent-some xs w.lined), rw w.size (extent-fits xs))

  pub field-bytes : f.bytes ≡ take n xs
  field-bytes = ap (λ (g : Field). g.bytes) (whole at count xs f n e).is

  pub field-long : length f.bytes ≡ n
  field-long = rw field-bytes (length-take-le n xs field-size.1)

  pub field_below : count < field_limit
  field_below = (whole at count xs f n e).below

  pub field-sound : Sound f
  field-sound = go (line xs) (name_colon xs) refl refl
    where
      w : Whole count xs f n
      w = whole at count xs f n e

      parts : take n xs ++ drop n xs ≡ xs
      parts = take-append-drop n xs

      long : length (take n xs) ≡ n
      long = length-take-le n xs field-size.1

      go : (l b : ℕ) → line xs ≡ l → name_colon xs ≡ b → Sound f
      go zero b p q = absurd (w.lined p)
      go (suc l) zero p q = absurd (w.labelled q)
      go (suc l) (suc b) p q =
          let L : line (take n xs ++ drop n xs) ≡ suc l = rw parts p in
          let B : name_colon (take n xs ++ drop n xs) ≡ suc b = rw parts q in
          let E : extent (take n xs ++ drop n xs) ≡ length (take n xs) = rw (parts, long) (sym w.size) in
          let r = label-room (take n xs) (drop n xs) l b L B E in
          let i = label_is xs b q in
          let h : in_class Blank (get_or xs 0 0) ≡ false = name-blank (get_or xs 0 0) (run-all (in_class Name) xs 0 i.named) in
          let g : get_or xs 0 0 ≡ get_or (take n xs) 0 0 = ap (λ (z : List ℕ). get_or z 0 0) (sym parts) ∙ get_or-append (take n xs) (drop n xs) 0 0 (omega arith) in
          rw w.is
          (record {
            some = omega arith;
            first = rw (← g) h;
            steady = λ at' count' t c T. same-field (take n xs) (drop n xs) l b L B E t T at' count' c ∙ rw parts;
            within = omega arith;
            named = omega (arith, i.size);
            one = i.named;
          })
