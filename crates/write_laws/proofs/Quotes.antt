-- Texts that are written bare or as quoted strings: what is written is read back, and what is read is a text of bytes that can be quoted. By
-- induction over the text, a byte or a backslash with its byte at a time.
use Prim.Native.Nat.{ℕ, zero, suc, ◌+◌, ◌≤◌, zero-le, suc-le-suc}
use native.Mathlib.Omega.{arith}
use mathlib.Core.Path.{◌≡◌, refl, sym, ap, ◌∙◌}
use mathlib.Core.Bool.{Bool, true, false, not, ◌&&◌, ◌||◌}
use mathlib.Core.List.{List, [], ◌∷◌, ◌++◌, append_assoc, append-nil}
use lib.Dec.{eqb, ltb, leb}
use lib.ListN.{length, drop, take, get_or, length-append}
use lib.Seq.{get_or-append_seam}
use borrow.Author.Tests.{eqb-true}
use Rattle.base_sequences.proofs.Booleans.{no_true, and_left, and_right, or_left, or_right}
use Rattle.base_readers.specs.Texts.{bytes, within, one_of}
use Rattle.base_readers.specs.Readers.{Reader, run, many, choose, lasts}
use Rattle.base_readers.specs.Parsers.{text}
use Rattle.base_readers.specs.Locality.{Any, Fits, Local, Shut}
use Rattle.base_readers.proofs.Texts.{one_in}
use Rattle.base_readers.proofs.Readers.{many-none, many_more, lasts-none, lasts-more, choose_yes, choose_no, between_is}
use Rattle.base_readers.proofs.Sequencing.{Taken, text-inv}
use Rattle.lexis_rules.specs.declared.Class.TheVariants as class
use Rattle.lexis_rules.specs.Bytes.{in_class}
use Rattle.lexis_rules.specs.Pieces.{pair, fold, item, quoted}
use Rattle.lexis_rules.specs.Words.{quoted_text, value_text}
use Rattle.lexis_laws.proofs.Locality.{quoted-shut}
use Rattle.result_rules.specs.Results.{read_quoted}
use Rattle.write_rules.specs.Entries.{each, whole, quotable, is_text}
use Rattle.write_rules.specs.Bodies.{guarded, quote, bare_or}
use Rattle.write_rules.specs.Promise.{Bytes}
use Rattle.write_laws.proofs.Readback.{Reads, Takes, last-reads, give-reads, text-reads, whole_is, whole_takes}
use Rattle.write_laws.proofs.Finds.{Finds, bind-finds, give-finds, took-whole}

-- ==== every byte

pub each-weaker : (c d : ℕ → Bool) → ((b : ℕ) → c b ≡ true → d b ≡ true) → (xs : List ℕ) → each c xs ≡ true → each d xs ≡ true
unfolding each
each-weaker c d i [] e = refl
each-weaker c d i (x ∷ xs) e = rw (i x (and_left (c x) _ e)) (each-weaker c d i xs (and_right (c x) _ e))

pub each_append : (c : ℕ → Bool) (xs ys : List ℕ) → each c xs ≡ true → each c ys ≡ true → each c (xs ++ ys) ≡ true
unfolding each
each_append c [] ys e f = f
each_append c (x ∷ xs) ys e f = rw (and_left (c x) _ e) (each_append c xs ys (and_right (c x) _ e) f)

pub each_left : (c : ℕ → Bool) (xs ys : List ℕ) → each c (xs ++ ys) ≡ true → each c xs ≡ true
unfolding each
each_left c [] ys e = refl
each_left c (x ∷ xs) ys e = rw (and_left (c x) _ e) (each_left c xs ys (and_right (c x) _ e))

pub each_right : (c : ℕ → Bool) (xs ys : List ℕ) → each c (xs ++ ys) ≡ true → each c ys ≡ true
unfolding each
each_right c [] ys e = e
each_right c (x ∷ xs) ys e = each_right c xs ys (and_right (c x) _ e)

pub each_take : (c : ℕ → Bool) (n : ℕ) (xs : List ℕ) → each c xs ≡ true → each c (take n xs) ≡ true
unfolding each
each_take c zero xs e = refl
each_take c (suc n) [] e = refl
each_take c (suc n) (x ∷ xs) e = rw (and_left (c x) _ e) (each_take c n xs (and_right (c x) _ e))

pub each-drop : (c : ℕ → Bool) (n : ℕ) (xs : List ℕ) → each c xs ≡ true → each c (drop n xs) ≡ true
unfolding each
each-drop c zero xs e = e
each-drop c (suc n) [] e = refl
each-drop c (suc n) (x ∷ xs) e = each-drop c n xs (and_right (c x) _ e)

pub each_at : (c : ℕ → Bool) → c 0 ≡ true → (xs : List ℕ) (n : ℕ) → each c xs ≡ true → c (get_or xs n 0) ≡ true
unfolding each
each_at c z [] n e = z
each_at c z (x ∷ xs) zero e = and_left (c x) _ e
each_at c z (x ∷ xs) (suc n) e = each_at c z xs n (and_right (c x) _ e)

-- a run that is the whole text
pub run-each : (c : ℕ → Bool) (xs : List ℕ) → run c xs ≡ length xs → each c xs ≡ true
unfolding run each
run-each c [] e = refl
run-each c (x ∷ xs) e = go (c x) refl (run-each c xs)
  where
    go : (t : Bool) → c x ≡ t → (run c xs ≡ length xs → each c xs ≡ true) → (c x && each c xs) ≡ true
    go true q ih = let r : suc (run c xs) ≡ suc (length xs) = rw (run, q) at e in rw q (ih (omega arith))
    go false q ih = let r : 0 ≡ suc (length xs) = rw (run, q) at e in absurd (omega arith)

pub each-run : (c : ℕ → Bool) (xs : List ℕ) → each c xs ≡ true → run c xs ≡ length xs
unfolding run each
each-run c [] e = refl
each-run c (x ∷ xs) e = let q : c x ≡ true = and_left (c x) _ e in rw (run, q) (ap suc (each-run c xs (and_right (c x) _ e)))

-- ==== the items of a quoted string

-- a byte that can be quoted stands itself, unless it is a quote or a backslash
quotable-plain : (x : ℕ) → quotable x ≡ true → one_of (bytes "\"\\") x ≡ false → in_class class.Quoted x ≡ true
unfolding quotable in_class
quotable-plain x e o = go (within 32 126 x) (one_of (bytes "\"\\") x) (eqb x 9) (leb 128 x) e o
  where
    go : (w o t h : Bool) → ((w && not o || t || h) || (w || t)) ≡ true → o ≡ false → (w && not o || t || h) ≡ true
    go true true t h e p = absurd (no_true (sym p))
    go true false t h e p = refl
    go false o true h e p = refl
    go false o false true e p = refl
    go false o false false e p = absurd (no_true e)

item-plain : (x : ℕ) (xs : List ℕ) → in_class class.Quoted x ≡ true → item class.Quoted (x ∷ xs) ≡ 1
unfolding item
item-plain x xs e = rw e

-- a quote or a backslash behind a backslash
item-guarded : (x : ℕ) (xs : List ℕ) → one_of (bytes "\"\\") x ≡ true → item class.Quoted (92 ∷ x ∷ xs) ≡ 2
unfolding item pair in_class within one_of
item-guarded x xs e =
    let q : in_class class.Escaped x ≡ true = one_in (bytes "\"\\") (in_class class.Escaped) refl x e in
    rw q

abbrev items : List ℕ → ℕ
items = many (item class.Quoted) 0

abbrev texts : List ℕ → List ℕ
texts = lasts (item class.Quoted) 0

-- what is written between the quotes, up to the quote
module _ (rest : List ℕ) where
  pub guarded-items : (t : List ℕ) → is_text t ≡ true → (items (guarded t ++ (34 ∷ rest)) ≡ length (guarded t)) × (texts (guarded t ++ (34 ∷ rest)) ≡ t)
  unfolding guarded is_text each
  guarded-items [] e =
      let z : item class.Quoted (34 ∷ rest) ≡ 0 = quoted-shut (34 ∷ rest) refl in
      (many-none (item class.Quoted) (34 ∷ rest) z, lasts-none (item class.Quoted) (34 ∷ rest) z)
  guarded-items (x ∷ t) e = go (one_of (bytes "\"\\") x) refl (guarded-items t (and_right (quotable x) _ e))
    where
      go : (b : Bool) → one_of (bytes "\"\\") x ≡ b → (items (guarded t ++ (34 ∷ rest)) ≡ length (guarded t)) × (texts (guarded t ++ (34 ∷ rest)) ≡ t)
          → (items (guarded (x ∷ t) ++ (34 ∷ rest)) ≡ length (guarded (x ∷ t))) × (texts (guarded (x ∷ t) ++ (34 ∷ rest)) ≡ x ∷ t)
      go true q ih =
          let ys = guarded t ++ (34 ∷ rest) in
          let z : item class.Quoted (92 ∷ x ∷ ys) ≡ 2 = item-guarded x ys q in
          let b : 2 ≤ length (92 ∷ x ∷ ys) = suc-le-suc (suc-le-suc zero-le) in
          rw (guarded, q) (many_more (item class.Quoted) (92 ∷ x ∷ ys) 1 z b ∙ rw ih.0 (omega arith), lasts-more (item class.Quoted) (92 ∷ x ∷ ys) 1 z b ∙ rw ih.1)
      go false q ih =
          let ys = guarded t ++ (34 ∷ rest) in
          let z : item class.Quoted (x ∷ ys) ≡ 1 = item-plain x ys (quotable-plain x (and_left (quotable x) _ e) q) in
          let b : 1 ≤ length (x ∷ ys) = suc-le-suc zero-le in
          rw (guarded, q) (many_more (item class.Quoted) (x ∷ ys) 0 z b ∙ rw ih.0 (omega arith), lasts-more (item class.Quoted) (x ∷ ys) 0 z b ∙ rw ih.1)

quote-append : (t rest : List ℕ) → quote t ++ rest ≡ 34 ∷ (guarded t ++ (34 ∷ rest))
unfolding quote
quote-append t rest = ap (λ (l : List ℕ). 34 ∷ l) (append_assoc (guarded t) (34 ∷ []) rest)

pub quote-takes : (t : List ℕ) → is_text t ≡ true → Takes quoted (quote t) Any
unfolding quote
quote-takes t e rest g =
    let ys = guarded t ++ (34 ∷ rest) in
    let n : items ys ≡ length (guarded t) = (guarded-items rest t e).0 in
    let j : items ys + 1 ≡ suc (length (guarded t)) = omega arith in
    let k : get_or (34 ∷ ys) (items ys + 1) 0 ≡ 34 = rw j (get_or-append_seam (guarded t) 34 rest 0) in
    let c : quoted (34 ∷ ys) ≡ items ys + 2 = between_is 34 34 items (34 ∷ ys) refl ∙ rw k in
    rw (quote-append t rest) (c ∙ omega (arith, length-append (guarded t) (34 ∷ [])))

pub quote-text : (t : List ℕ) → is_text t ≡ true → quoted_text (quote t) ≡ t
unfolding quoted_text quote
quote-text t e = (guarded-items [] t e).1

pub quoted-reads : (t : List ℕ) → is_text t ≡ true → Reads read_quoted (quote t) t Any
unfolding read_quoted quote
quoted-reads t e =
    last-reads (text quoted) _ (quote t) (quote t) t Any (text-reads quoted 34 (guarded t ++ (34 ∷ [])) Any (quote-takes t e))
    (rw (quote-text t e) (give-reads t Any))

quote-value : (t : List ℕ) → value_text (quote t) ≡ quoted_text (quote t)
unfolding value_text quote
quote-value t = refl

-- ==== values, bare or quoted, over the reader of what stands bare

module _ (f : Reader) (F : List ℕ → Type 0) (L : Local f F) (S : Shut f 34) where
  -- what stands bare starts with no quote
  bare-first : (x : ℕ) (t : List ℕ) → whole f (x ∷ t) ≡ true → eqb x 34 ≡ false
  bare-first x t e = go (eqb x 34) refl
    where
      go : (b : Bool) → eqb x 34 ≡ b → eqb x 34 ≡ false
      go true q = absurd (let z : f (x ∷ t) ≡ 0 = S (x ∷ t) (eqb-true x 34 q) in let y : f (x ∷ t) ≡ suc (length t) = whole_is f (x ∷ t) e in omega arith)
      go false q = q

  bare-takes : (t : List ℕ) → whole f t ≡ true → Takes (choose 34 quoted f) t F
  unfolding whole
  bare-takes [] e rest g = absurd (no_true e)
  bare-takes (x ∷ t) e rest g = choose_no 34 quoted f (x ∷ (t ++ rest)) (bare-first x t e) ∙ whole_takes f F L (x ∷ t) e rest g

  bare-text : (t : List ℕ) → whole f t ≡ true → value_text t ≡ t
  unfolding value_text whole
  bare-text [] e = absurd (no_true e)
  bare-text (x ∷ t) e = rw (value_text, bare-first x t e)

  pub value-reads : (t : List ℕ) → is_text t ≡ true → Reads (text (choose 34 quoted f)) (bare_or (whole f t) t) (bare_or (whole f t) t) F
  unfolding bare_or quote
  value-reads t e = go t e (whole f t) refl
    where
      go : (t : List ℕ) → is_text t ≡ true → (b : Bool) → whole f t ≡ b → Reads (text (choose 34 quoted f)) (bare_or b t) (bare_or b t) F
      go [] e true q = absurd (unfold whole in no_true q)
      go (x ∷ t) e true q = text-reads (choose 34 quoted f) x t F (bare-takes (x ∷ t) q)
      go t e false q = text-reads (choose 34 quoted f) 34 (guarded t ++ (34 ∷ [])) F (λ rest g. choose_yes 34 quoted f (quote t ++ rest) refl ∙ quote-takes t e rest tt)

  pub value-text : (t : List ℕ) → is_text t ≡ true → value_text (bare_or (whole f t) t) ≡ t
  unfolding bare_or
  value-text t e = go (whole f t) refl
    where
      go : (b : Bool) → whole f t ≡ b → value_text (bare_or b t) ≡ t
      go true q = bare-text t q
      go false q = quote-value t ∙ quote-text t e

-- ==== what is read

-- the last byte of an item can be quoted
item-last : (xs : List ℕ) (n : ℕ) → item class.Quoted xs ≡ suc n → quotable (get_or xs n 0) ≡ true
unfolding item quotable
item-last xs n e = first (in_class class.Quoted (get_or xs 0 0)) refl
  where
    blank : (b : ℕ) → in_class class.Blank b ≡ true → in_class class.Escaped b ≡ true
    blank b i = unfold in_class within one_of in one_in (bytes " \t") (in_class class.Escaped) refl b i

    third : in_class class.Quoted (get_or xs 0 0) ≡ false → pair xs ≡ false → (b : Bool) → fold xs ≡ b → quotable (get_or xs n 0) ≡ true
    third p q true r =
        let w : 3 ≡ suc n = rw (p, q, r) at e in
        let l : n ≡ 2 = omega arith in
        let f : in_class class.Blank (get_or xs 2 0) ≡ true = unfold fold in and_right (eqb (get_or xs 0 0) 13 && eqb (get_or xs 1 0) 10) _ r in
        rw l (or_right (in_class class.Quoted (get_or xs 2 0)) _ (blank (get_or xs 2 0) f))
    third p q false r = let w : 0 ≡ suc n = rw (p, q, r) at e in absurd (omega arith)

    second : in_class class.Quoted (get_or xs 0 0) ≡ false → (b : Bool) → pair xs ≡ b → quotable (get_or xs n 0) ≡ true
    second p true q =
        let w : 2 ≡ suc n = rw (p, q) at e in
        let l : n ≡ 1 = omega arith in
        let f : in_class class.Escaped (get_or xs 1 0) ≡ true = unfold pair in and_right (eqb (get_or xs 0 0) 92) _ q in
        rw l (or_right (in_class class.Quoted (get_or xs 1 0)) _ f)
    second p false q = third p q (fold xs) refl

    first : (b : Bool) → in_class class.Quoted (get_or xs 0 0) ≡ b → quotable (get_or xs n 0) ≡ true
    first true p =
        let w : 1 ≡ suc n = rw p at e in
        let l : n ≡ 0 = omega arith in
        rw l (or_left (in_class class.Quoted (get_or xs 0 0)) _ p)
    first false p = second p (pair xs) refl

-- so the text of a quoted string is a text
pub lasts-text : (k : ℕ) (xs : List ℕ) → is_text (lasts (item class.Quoted) k xs) ≡ true
unfolding lasts is_text each
lasts-text k [] = refl
lasts-text (suc k) (x ∷ xs) = lasts-text k xs
lasts-text zero (x ∷ xs) = go (item class.Quoted (x ∷ xs)) refl (λ n. lasts-text n xs)
  where
    go : (m : ℕ) → item class.Quoted (x ∷ xs) ≡ m → ((n : ℕ) → each quotable (lasts (item class.Quoted) n xs) ≡ true) → each quotable (lasts (item class.Quoted) 0 (x ∷ xs)) ≡ true
    go zero e ih = rw (lasts, e)
    go (suc n) e ih = rw (lasts, e, item-last (x ∷ xs) n e) (ih n)

-- and it is of bytes where the string is
pub lasts-each : (f : Reader) (c : ℕ → Bool) → c 0 ≡ true → (k : ℕ) (xs : List ℕ) → each c xs ≡ true → each c (lasts f k xs) ≡ true
unfolding lasts each
lasts-each f c z k [] b = refl
lasts-each f c z (suc k) (x ∷ xs) b = lasts-each f c z k xs (and_right (c x) _ b)
lasts-each f c z zero (x ∷ xs) b = go (f (x ∷ xs)) refl (λ n. lasts-each f c z n xs (and_right (c x) _ b))
  where
    go : (m : ℕ) → f (x ∷ xs) ≡ m → ((n : ℕ) → each c (lasts f n xs) ≡ true) → each c (lasts f 0 (x ∷ xs)) ≡ true
    go zero e ih = rw (lasts, e)
    go (suc n) e ih = let q : c (get_or (x ∷ xs) n 0) ≡ true = each_at c z (x ∷ xs) n b in rw (lasts, e, q) (ih n)

-- what is known of a text: it can stand, and is of bytes where what was read is
abbrev pub Texted : List ℕ → List ℕ → Type 0
Texted t u = (is_text t ≡ true) × (Bytes u → Bytes t)

quoted-texted : (u : List ℕ) → Texted (quoted_text u) u
unfolding quoted_text
quoted-texted u = (lasts-text 0 (drop 1 u), λ b. lasts-each (item class.Quoted) (λ b. ltb b 256) refl 0 (drop 1 u) (each-drop (λ b. ltb b 256) 1 u b))

pub quoted-finds : Finds read_quoted Texted
unfolding read_quoted
quoted-finds =
    bind-finds (text quoted) _ (λ a u. a ≡ u) Texted (λ xs a n h. (text-inv quoted xs a n h).is)
    (λ a u i xs b n e. let v = give-finds (quoted_text a) xs b n e in rw (← v.0, v.1, append-nil u, ← i) (quoted-texted a))

module _ (f : Reader) (H : (w : List ℕ) → whole f w ≡ true → is_text w ≡ true) (F : List ℕ → Type 0) (L : Local f F) (K : Fits f) (O : F []) where
  pub value-finds : Finds (text (choose 34 quoted f)) (λ v u. (v ≡ u) × Texted (value_text v) u)
  unfolding value_text
  value-finds xs a n h = go (eqb (get_or xs 0 0) 34) refl
    where
      v : Taken (choose 34 quoted f) xs a n
      v = text-inv (choose 34 quoted f) xs a n h

      first : get_or (take (suc v.less) xs) 0 0 ≡ get_or xs 0 0
      first = head xs
        where
          head : (ys : List ℕ) → get_or (take (suc v.less) ys) 0 0 ≡ get_or ys 0 0
          head [] = refl
          head (y ∷ ys) = refl

      here : get_or a 0 0 ≡ get_or xs 0 0
      here = rw (v.is, v.some) first

      go : (b : Bool) → eqb (get_or xs 0 0) 34 ≡ b → (a ≡ take n xs) × Texted (value_text a) (take n xs)
      go true q =
          let e : value_text a ≡ quoted_text a = rw (value_text, here, q) in
          (v.is, rw (e, ← v.is) (quoted-texted a))
      go false q =
          let e : value_text a ≡ a = rw (value_text, here, q) in
          let z : f xs ≡ suc v.less = sym (choose_no 34 quoted f xs q) ∙ (v.takes ∙ v.some) in
          let w : whole f a ≡ true = rw (v.is, v.some) (took-whole f F L K O xs v.less z) in
          (v.is, rw (e, ← v.is) (H a w, λ b. b))
