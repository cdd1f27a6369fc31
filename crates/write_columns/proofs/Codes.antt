-- A byte of a text as the report writes it, by the tests of the code.
use Prim.Native.Nat.{ℕ, ◌+◌, ◌-◌, ◌*◌, ◌^◌, ◌≤◌, ◌<◌, zero-le}
use native.Mathlib.Omega.{arith}
use mathlib.Core.Path.{◌≡◌, refl, sym, ap, ◌∙◌}
use mathlib.Core.Bool.{Bool, true, false, not, ◌&&◌}
use mathlib.Core.List.{List, [], ◌∷◌}
use lib.Dec.{eqb}
use lib.ListN.{length, drop, get_or}
use borrow.Author.Tests.{eq-eqb, ne_eqb}
use Rattle.base_sequences.proofs.Booleans.{both, and_none, true-not, false-not}
use Rattle.base_readers.specs.Texts.{within, starts}
use mir.Syntax.{w64}
use mir.Val as machine
use Rattle.base_readers.specs.Readers.{many}
use Rattle.base_readers.specs.Places.{Reaches, values}
use Rattle.base_readers.specs.Locality.{Fits}
use Rattle.base_readers.proofs.Loops.{many-on, many-off, turn-fits, turn-less}
use Rattle.base_readers.proofs.Repeats.{several-none, several-again, several-total}
use lib.Seq.{drop-drop}
use Rattle.write_laws.proofs.Coded.{coded-byte-within}
use Rattle.write_laws.proofs.HexDigits.{hex-not, hex-yes}
use Rattle.base_readers.specs.Parsers.{Got, nothing, got, when, byte, several}
use Rattle.base_readers.proofs.Sequencing.{bind-none, bind-stuck, bind-got, byte-is, byte-not, when-is, when-not, give-is, either_first, either_second}
use Rattle.lexis_rules.specs.declared.Class.TheVariants.{Visible}
use Rattle.lexis_rules.specs.Bytes.{in_class}
use Rattle.report_rules.specs.Report.{plain}
use Rattle.write_rules.specs.Entries.{single, is_hex, hex_value, hex_or, escaped}
use Rattle.write_columns.specs.declared.coded.Code.{Code}
use Rattle.write_columns.specs.Internal.{coded_byte, code_size, code_at, text_of}
use Rattle.std.specs.Prelude.{Some, None}
use Rattle.std.proofs.lemmas.Option.{none-some, same_Some}

-- ==== bytes that stand for themselves

pub percent-other : (b : ℕ) → b ≡ 37 → false ≡ plain b
unfolding plain
percent-other b e = rw (eq-eqb b 37 e) (sym (and_none (in_class Visible b)))

pub visible_plain : (b : ℕ) (r : Bool) → (b ≡ 37 → ⊥) → r ≡ in_class Visible b → r ≡ plain b
unfolding plain
visible_plain b r ne e = e ∙ rw (ne_eqb b 37 ne) (go (in_class Visible b))
  where
    go : (a : Bool) → a ≡ (a && true)
    go true = refl
    go false = refl

-- ==== a byte of a text, by the tests of the code

module _ (xs : List ℕ) (r : Bool) (p : r ≡ plain (get_or xs 0 0)) where
  zero-plain : plain 0 ≡ false
  unfolding plain in_class within
  zero-plain = refl

  pub code-plain : r ≡ true → coded_byte xs ≡ got (get_or xs 0 0) 1
  code-plain t = go xs (sym p ∙ t)
    where
      go : (ys : List ℕ) → plain (get_or ys 0 0) ≡ true → coded_byte ys ≡ got (get_or ys 0 0) 1
      go [] e = absurd (both (plain 0) zero-plain e)
      go (y ∷ ys) e = either_first (single plain) escaped (y ∷ ys) y 1 (unfold single in rw (single, e))

  module _ (f : r ≡ false) where
    not-single : coded_byte xs ≡ escaped xs
    not-single = either_second (single plain) escaped xs (go xs (sym p ∙ f))
      where
        go : (ys : List ℕ) → plain (get_or ys 0 0) ≡ false → single plain ys ≡ nothing
        go [] e = unfold single in refl
        go (y ∷ ys) e = unfold single in rw (single, e)

    pub code_other : (get_or xs 0 0 ≡ 37 → ⊥) → coded_byte xs ≡ nothing
    unfolding escaped
    code_other ne = not-single ∙ bind-none (byte 37) _ xs (byte-not 37 xs (go xs ne))
      where
        go : (ys : List ℕ) → (get_or ys 0 0 ≡ 37 → ⊥) → starts (λ b. eqb b 37) ys ≡ false
        go [] e = unfold starts in refl
        go (y ∷ ys) e = unfold starts in ne_eqb y 37 e

-- ==== hex digits behind a percent sign

zero-hex : is_hex 0 ≡ false
unfolding is_hex within
zero-hex = refl

first-hex : (ys : List ℕ) → is_hex (get_or ys 0 0) ≡ false → single is_hex ys ≡ nothing
unfolding single
first-hex [] e = refl
first-hex (y ∷ ys) e = rw (single, e)

single-is : (c : ℕ → Bool) (y : ℕ) (ys : List ℕ) → c y ≡ true → single c (y ∷ ys) ≡ got y 1
unfolding single
single-is c y ys e = rw (single, e)

percent-is : (ys : List ℕ) → byte 37 (37 ∷ ys) ≡ got tt 1
percent-is ys = byte-is 37 (37 ∷ ys) (unfold starts in refl)

escaped-first : (ys : List ℕ) → is_hex (get_or ys 0 0) ≡ false → escaped (37 ∷ ys) ≡ nothing
unfolding escaped
escaped-first ys e = bind-stuck (byte 37) _ (37 ∷ ys) tt 1 (percent-is ys) (bind-none (single is_hex) _ ys (first-hex ys e))

escaped-second : (y : ℕ) (ys : List ℕ) → is_hex y ≡ true → is_hex (get_or ys 0 0) ≡ false → escaped (37 ∷ y ∷ ys) ≡ nothing
unfolding escaped
escaped-second y ys d e =
    bind-stuck (byte 37) _ (37 ∷ y ∷ ys) tt 1 (percent-is (y ∷ ys))
    (bind-stuck (single is_hex) _ (y ∷ ys) y 1 (single-is is_hex y ys d) (bind-none (single is_hex) _ ys (first-hex ys e)))

abbrev value_of : ℕ → ℕ → ℕ
value_of h l = hex_value h * 16 + hex_value l

module _ (y z : ℕ) (ys : List ℕ) (d : is_hex y ≡ true) (e : is_hex z ≡ true) where
  escaped-plain : plain (value_of y z) ≡ true → escaped (37 ∷ y ∷ z ∷ ys) ≡ nothing
  unfolding escaped
  escaped-plain q =
      bind-stuck (byte 37) _ (37 ∷ y ∷ z ∷ ys) tt 1 (percent-is (y ∷ z ∷ ys))
      (bind-stuck (single is_hex) _ (y ∷ z ∷ ys) y 1 (single-is is_hex y (z ∷ ys) d)
      (bind-stuck (single is_hex) _ (z ∷ ys) z 1 (single-is is_hex z ys e) (bind-none (when (not (plain (value_of y z)))) _ ys (when-not (not (plain (value_of y z))) ys (false-not (plain (value_of y z)) q)))))

  escaped-other : plain (value_of y z) ≡ false → escaped (37 ∷ y ∷ z ∷ ys) ≡ got (value_of y z) 3
  unfolding escaped
  escaped-other q =
      bind-got (byte 37) _ (37 ∷ y ∷ z ∷ ys) tt 1 (value_of y z) 2 (percent-is (y ∷ z ∷ ys))
      (bind-got (single is_hex) _ (y ∷ z ∷ ys) y 1 (value_of y z) 1 (single-is is_hex y (z ∷ ys) d)
      (bind-got (single is_hex) _ (z ∷ ys) z 1 (value_of y z) 0 (single-is is_hex z ys e)
      (bind-got (when (not (plain (value_of y z)))) _ ys tt 0 (value_of y z) 0 (when-is (not (plain (value_of y z))) ys (true-not (plain (value_of y z)) q)) (give-is (value_of y z) ys))))

-- by the bytes of the list
module _ (xs : List ℕ) (r : Bool) (p : r ≡ plain (get_or xs 0 0)) (f : r ≡ false) (b : get_or xs 0 0 ≡ 37) (h : ℕ) (H : h ≡ hex_or (get_or xs 1 0)) where
  pub code-first : 15 < h → coded_byte xs ≡ nothing
  code-first l = not-single xs r p f ∙ go xs b (hex-not (get_or xs 1 0) h H l)
    where
      go : (ys : List ℕ) → get_or ys 0 0 ≡ 37 → is_hex (get_or ys 1 0) ≡ false → escaped ys ≡ nothing
      go [] b e = absurd (omega arith)
      go (y ∷ ys) b e = rw b (escaped-first ys e)

  module _ (i : h ≤ 15) (l : ℕ) (L : l ≡ hex_or (get_or xs 2 0)) where
    pub code-second : 15 < l → coded_byte xs ≡ nothing
    code-second k = not-single xs r p f ∙ go xs b (hex-yes (get_or xs 1 0) h H i).0 (hex-not (get_or xs 2 0) l L k)
      where
        go : (ys : List ℕ) → get_or ys 0 0 ≡ 37 → is_hex (get_or ys 1 0) ≡ true → is_hex (get_or ys 2 0) ≡ false → escaped ys ≡ nothing
        go [] b d e = absurd (omega arith)
        go (x ∷ []) b d e = absurd (both (is_hex 0) zero-hex d)
        go (x ∷ y ∷ ys) b d e = rw b (escaped-second y ys d e)

    module _ (j : l ≤ 15) where
      value-is : h * 16 + l ≡ value_of (get_or xs 1 0) (get_or xs 2 0)
      value-is = rw (← (hex-yes (get_or xs 1 0) h H i).1, ← (hex-yes (get_or xs 2 0) l L j).1)

      pub code-none : (q : Bool) → q ≡ plain (h * 16 + l) → q ≡ true → coded_byte xs ≡ nothing
      code-none q e t = not-single xs r p f ∙ go xs b (hex-yes (get_or xs 1 0) h H i).0 (hex-yes (get_or xs 2 0) l L j).0 (ap plain (sym value-is) ∙ (sym e ∙ t))
        where
          go : (ys : List ℕ) → get_or ys 0 0 ≡ 37 → is_hex (get_or ys 1 0) ≡ true → is_hex (get_or ys 2 0) ≡ true → plain (value_of (get_or ys 1 0) (get_or ys 2 0)) ≡ true → escaped ys ≡ nothing
          go [] b d e t = absurd (omega arith)
          go (x ∷ []) b d e t = absurd (both (is_hex 0) zero-hex d)
          go (x ∷ y ∷ []) b d e t = absurd (both (is_hex 0) zero-hex e)
          go (x ∷ y ∷ z ∷ ys) b d e t = rw b (escaped-plain y z ys d e t)

      pub code-some : (q : Bool) → q ≡ plain (h * 16 + l) → q ≡ false → coded_byte xs ≡ got (h * 16 + l) 3
      code-some q e t = not-single xs r p f ∙ (go xs b (hex-yes (get_or xs 1 0) h H i).0 (hex-yes (get_or xs 2 0) l L j).0 (ap plain (sym value-is) ∙ (sym e ∙ t)) ∙ ap (λ (v : ℕ). got v 3) (sym value-is))
        where
          go : (ys : List ℕ) → get_or ys 0 0 ≡ 37 → is_hex (get_or ys 1 0) ≡ true → is_hex (get_or ys 2 0) ≡ true → plain (value_of (get_or ys 1 0) (get_or ys 2 0)) ≡ false
              → escaped ys ≡ got (value_of (get_or ys 1 0) (get_or ys 2 0)) 3
          go [] b d e t = absurd (omega arith)
          go (x ∷ []) b d e t = absurd (both (is_hex 0) zero-hex d)
          go (x ∷ y ∷ []) b d e t = absurd (both (is_hex 0) zero-hex e)
          go (x ∷ y ∷ z ∷ ys) b d e t = rw b (escaped-other y z ys d e t)

-- its size
pub size_none : (xs : List ℕ) → coded_byte xs ≡ nothing → 0 ≡ code_size xs
unfolding code_size
size_none xs e = rw (code_size, e)

pub size-some : (xs : List ℕ) (a n : ℕ) → coded_byte xs ≡ got a n → n ≡ code_size xs
unfolding code_size
size-some xs a n e = rw (code_size, e)

no_code : (xs : List ℕ) → coded_byte xs ≡ nothing → None ≡ code_at xs
unfolding code_at
no_code xs e = rw (code_at, e)

a-code : (xs : List ℕ) (a n : ℕ) → coded_byte xs ≡ got a n → Some (record { size = n; value = a }) ≡ code_at xs
unfolding code_at
a-code xs a n e = rw (code_at, e)

-- the byte that a code tells of, or that there is none
code-nothing : (xs : List ℕ) → None ≡ code_at xs → coded_byte xs ≡ nothing
unfolding code_at
code-nothing xs e = go (coded_byte xs) refl
  where
    go : (g : Got ℕ) → coded_byte xs ≡ g → coded_byte xs ≡ nothing
    go nothing q = q
    go (got a n) q = absurd (none-some _ (rw (code_at, q) at e))

code-got : (xs : List ℕ) (c : Code) → Some c ≡ code_at xs → coded_byte xs ≡ got c.value c.size
unfolding code_at
code-got xs c e = go (coded_byte xs) refl
  where
    go : (g : Got ℕ) → coded_byte xs ≡ g → coded_byte xs ≡ got c.value c.size
    go nothing q = absurd (none-some _ (sym (rw (code_at, q) at e)))
    go (got a n) q = let w : c ≡ record { size = n; value = a } = same_Some _ _ (rw (code_at, q) at e) in q ∙ rw w

-- the facts that the code has, in the order of its tests
module _ (xs : List ℕ) (b : ℕ) (B : b ≡ get_or xs 0 0) (r : Bool) (p : r ≡ plain b) where
  pub code-itself : r ≡ true → Some (record { size = 1; value = b }) ≡ code_at xs
  code-itself t = rw B (a-code xs (get_or xs 0 0) 1 (code-plain xs r (rw (← B) p) t))

  module _ (f : r ≡ false) where
    pub code-neither : (b ≡ 37 → ⊥) → None ≡ code_at xs
    code-neither ne = no_code xs (code_other xs r (rw (← B) p) f (rw (← B) ne))

    module _ (e : b ≡ 37) (x : ℕ) (X : x ≡ get_or xs 1 0) (h : ℕ) (H : h ≡ hex_or x) where
      pub code-no-first : 15 < h → None ≡ code_at xs
      code-no-first l = no_code xs (code-first xs r (rw (← B) p) f (sym B ∙ e) h (rw (← X) H) l)

      module _ (i : h ≤ 15) (y : ℕ) (Y : y ≡ get_or xs 2 0) (l : ℕ) (L : l ≡ hex_or y) where
        pub code-no-second : 15 < l → None ≡ code_at xs
        code-no-second k = no_code xs (code-second xs r (rw (← B) p) f (sym B ∙ e) h (rw (← X) H) i l (rw (← Y) L) k)

        module _ (j : l ≤ 15) (q : Bool) (Q : q ≡ plain (h * 16 + l)) where
          pub code-needless : q ≡ true → None ≡ code_at xs
          code-needless t = no_code xs (code-none xs r (rw (← B) p) f (sym B ∙ e) h (rw (← X) H) i l (rw (← Y) L) j q Q t)

          pub code-percent : q ≡ false → Some (record { size = 3; value = h * 16 + l }) ≡ code_at xs
          code-percent t = a-code xs (h * 16 + l) 3 (code-some xs r (rw (← B) p) f (sym B ∙ e) h (rw (← X) H) i l (rw (← Y) L) j q Q t)

-- ==== texts

pub code_fits : Fits code_size
unfolding code_size
code_fits xs = go (coded_byte xs) refl
  where
    go : (g : Got ℕ) → coded_byte xs ≡ g → code_size xs ≤ length xs
    go nothing e = rw (code_size, e) zero-le
    go (got a n) e = rw (code_size, e) (coded-byte-within xs a n e).0

-- one turn of a loop that passes a text
module _ (s : List ℕ) (i : ℕ) (c : Code) (e : Some c ≡ code_at (drop i s)) where
  pub size_is : c.size ≡ code_size (drop i s)
  size_is = size-some (drop i s) c.value c.size (code-got (drop i s) c e)

  pub size-more : 0 < c.size
  size-more = omega (arith, coded-byte-within (drop i s) c.value c.size (code-got (drop i s) c e))

  pub text-on : (at : ℕ) → Reaches (many code_size 0) s at i → Reaches (many code_size 0) s at (i + c.size)
  text-on at = many-on code_size code_fits s at i c.size size_is

  pub text-turn : length s < 2 ^ 64 → machine.Fits w64 (i + c.size)
  text-turn = turn-fits code_size code_fits s 0 i c.size size_is (λ z. omega (arith, size-more))

  pub text-less : length s - (i + c.size) < length s - i
  text-less = turn-less code_size code_fits s 0 i c.size size_is (λ z. omega (arith, size-more))

  -- what is left of a text
  pub text-more : text_of (drop i s) ≡ c.value ∷ text_of (drop (i + c.size) s)
  unfolding text_of
  text-more =
      let q = code-got (drop i s) c e in
      let w = coded-byte-within (drop i s) c.value c.size q in
      let d : drop c.size (drop i s) ≡ drop (i + c.size) s = drop-drop c.size i s in
      let t = several-total coded_byte 0 (drop (i + c.size) s) in
      let u : several coded_byte 0 (drop c.size (drop i s)) ≡ got t.list t.size = rw d t.is in
      rw (several-again coded_byte (drop i s) c.value c.size t.list t.size w.1 w.0 q u, t.is)

module _ (s : List ℕ) (i : ℕ) (e : None ≡ code_at (drop i s)) where
  pub text-off : (at : ℕ) → Reaches (many code_size 0) s at i → i ≡ at + many code_size 0 (drop at s)
  text-off at w = many-off code_size code_fits s at i 0 (size_none (drop i s) (code-nothing (drop i s) e)) w refl

  pub text-none : text_of (drop i s) ≡ []
  unfolding text_of
  text-none = ap values (several-none coded_byte (drop i s) (code-nothing (drop i s) e))
