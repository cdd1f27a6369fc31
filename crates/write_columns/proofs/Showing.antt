-- Kind letters, texts and LF at the end of a line, by the tests of the code.
use Prim.Native.Nat.{ℕ, ◌+◌, ◌-◌, ◌^◌, ◌<◌}
use native.Mathlib.Nat.{add-zero}
use native.Mathlib.Omega.{arith}
use mathlib.Core.Path.{◌≡◌, refl, sym, ap, ◌∙◌}
use mathlib.Core.Bool.{Bool, true, false, ◌||◌}
use mathlib.Core.List.{List, [], ◌∷◌}
use lib.Dec.{eqb}
use lib.ListN.{length, drop, take, get_or}
use lib.Seq.{get_or-drop}
use borrow.Author.Tests.{ne_eqb}
use mir.Syntax.{w64}
use mir.Val as machine
use Rattle.base_sequences.proofs.Booleans.{both}
use Rattle.base_readers.specs.Texts.{bytes, one_of}
use Rattle.base_readers.specs.Readers.{many}
use Rattle.base_readers.specs.Parsers.{nothing, got, byte}
use Rattle.base_readers.specs.Places.{from}
use Rattle.base_readers.proofs.Sequencing.{bind-got, bind-none, give-is}
use Rattle.base_readers.proofs.Readers.{there-at}
use Rattle.base_readers.proofs.Loops.{there-fits}
use Rattle.base_readers.proofs.Places.{at-got, at_none, goes_on, stops, byte_at, byte-none}
use Rattle.base_sequences.specs.Spans.{span}
use Rattle.report_rules.specs.Report.{escape}
use Rattle.write_rules.specs.Entries.{single, coded, kind_of, kind_letter}
use Rattle.write_laws.proofs.Coded.{coded-finds}
use Rattle.write_columns.specs.declared.coded.Test.TheVariants as test
use Rattle.write_columns.specs.declared.coded.Text as read
use Rattle.write_columns.specs.Internal.{code_size, text_of, text_at, shown_reader, IsCoded, ShownEnd, shown_end, shown_not}
use Rattle.write_columns.proofs.Tails.{coded-is}
use Rattle.write_columns.proofs.Shapes.{text-escape}

-- ==== letters

module _ (b : ℕ) where
  pub kind-t : b ≡ 116 → true ≡ one_of (bytes "tqma") b
  unfolding one_of
  kind-t e = rw e

  pub kind-q : b ≡ 113 → true ≡ one_of (bytes "tqma") b
  unfolding one_of
  kind-q e = rw e

  pub kind-m : b ≡ 109 → true ≡ one_of (bytes "tqma") b
  unfolding one_of
  kind-m e = rw e

  pub kind-a : (b ≡ 116 → ⊥) → (b ≡ 113 → ⊥) → (b ≡ 109 → ⊥) → eqb b 97 ≡ one_of (bytes "tqma") b
  unfolding one_of
  kind-a t q m = rw (ne_eqb b 116 t, ne_eqb b 113 q, ne_eqb b 109 m) (go (eqb b 97))
    where
      go : (a : Bool) → a ≡ (a || false)
      go true = refl
      go false = refl

zero-kind : one_of (bytes "tqma") 0 ≡ false
unfolding one_of
zero-kind = refl

letter-is : (xs : List ℕ) → one_of (bytes "tqma") (get_or xs 0 0) ≡ true → kind_letter xs ≡ got (kind_of (get_or xs 0 0)) 1
letter-is [] e = absurd (both (one_of (bytes "tqma") 0) zero-kind e)
letter-is (x ∷ xs) e = unfold kind_letter in bind-got (single (one_of (bytes "tqma"))) _ (x ∷ xs) x 1 (kind_of x) 0 (unfold single in rw (single, e)) (give-is (kind_of x) xs)

letter-not : (xs : List ℕ) → one_of (bytes "tqma") (get_or xs 0 0) ≡ false → kind_letter xs ≡ nothing
letter-not [] e = unfold kind_letter in bind-none (single (one_of (bytes "tqma"))) _ [] (unfold single in refl)
letter-not (x ∷ xs) e = unfold kind_letter in bind-none (single (one_of (bytes "tqma"))) _ (x ∷ xs) (unfold single in rw (single, e))

-- a text up to its end, as it stands
column-coded : (s : List ℕ) (a e : ℕ) → e ≡ a + many code_size 0 (drop a s) → IsCoded (span s a e) × (text_of (span s a e) ≡ text_of (drop a s))
column-coded s a e q =
    let n = many code_size 0 (drop a s) in
    let f = coded-finds (drop a s) (text_of (drop a s)) n (coded-is (drop a s)) in
    let j : e - a ≡ n = omega arith in
    let p : span s a e ≡ escape (text_of (drop a s)) = ap (λ (k : ℕ). take k (drop a s)) j ∙ f.0 in
    let t : text_of (span s a e) ≡ text_of (drop a s) = ap text_of p ∙ text-escape (text_of (drop a s)) f.1 in
    ((ap escape t ∙ sym p, rw t f.1), t)

module _ (s : List ℕ) (at b : ℕ) (B : b ≡ get_or (drop at s) 0 0) (k : Bool) (K : k ≡ one_of (bytes "tqma") b) where
  pub shown-unkind : k ≡ false → ShownEnd s at at
  unfolding shown_reader
  shown-unkind f = shown_not (λ t p. stops kind_letter _ s at (at_none kind_letter s at (letter-not (drop at s) (rw (← B) (sym K ∙ f))))) refl

  module _ (y : k ≡ true) (r : Bool) (R : r ≡ eqb (get_or (drop at s) 1 0) 9) where
    letter-from : got (kind_of (get_or (drop at s) 0 0)) (at + 1) ≡ from kind_letter s at
    letter-from = at-got kind_letter s at (kind_of (get_or (drop at s) 0 0)) 1 (at + 1) (letter-is (drop at s) (rw (← B) (sym K ∙ y))) refl

    tab-is : r ≡ eqb (get_or (drop (at + 1) s) 0 0) 9
    tab-is = R ∙ ap (λ (x : ℕ). eqb x 9) (get_or-drop at s 1 0 ∙ (ap (λ (i : ℕ). get_or s i 0) (sym (add-zero (at + 1))) ∙ sym (get_or-drop (at + 1) s 0 0)))

    pub shown-untabbed : r ≡ false → ShownEnd s at at
    unfolding shown_reader
    shown-untabbed f = shown_not (λ t p. goes_on kind_letter _ s at (kind_of (get_or (drop at s) 0 0)) (at + 1) nothing letter-from (stops (byte 9) _ s (at + 1) (byte-none 9 s (at + 1) r tab-is f))) refl

    module _ (z : r ≡ true) where
      two-there : at + 1 < length s
      two-there = omega (arith, there-at (λ x. eqb x 9) refl s at 1 (sym R ∙ z))

      pub shown-fits : length s < 2 ^ 64 → machine.Fits w64 (at + 2)
      shown-fits l = omega (arith, two-there)

      tab-from : got tt (at + 2) ≡ from (byte 9) s (at + 1)
      tab-from = rw two (byte_at 9 s (at + 1) r tab-is z refl)
        where
          two : at + 2 ≡ at + 1 + 1
          two = omega arith

      module _ (x : read.Text) (X : x ≡ text_at test.Text s (at + 2)) (q : Bool) (Q : q ≡ eqb (get_or (drop x.end s) 0 0) 10) where
        abbrev e : ℕ
        e = x.end

        E : e ≡ at + 2 + many code_size 0 (drop (at + 2) s)
        E = ap (λ (k : read.Text). k.end) X

        text-from : got (text_of (drop (at + 2) s)) e ≡ from coded s (at + 2)
        text-from = at-got coded s (at + 2) (text_of (drop (at + 2) s)) (many code_size 0 (drop (at + 2) s)) e (coded-is (drop (at + 2) s)) E

        pub shown-unfed : q ≡ false → ShownEnd s at at
        unfolding shown_reader
        shown-unfed f =
            shown_not
            (λ t p. goes_on kind_letter _ s at (kind_of (get_or (drop at s) 0 0)) (at + 1) nothing letter-from
            (goes_on (byte 9) _ s (at + 1) tt (at + 2) nothing tab-from
            (goes_on coded _ s (at + 2) (text_of (drop (at + 2) s)) e nothing text-from (stops (byte 10) _ s e (byte-none 10 s e q Q f)))))
            refl

        module _ (g : q ≡ true) where
          pub shown-last : length s < 2 ^ 64 → machine.Fits w64 (x.end + 1)
          shown-last l = there-fits s e 10 q Q g refl l

          pub shown-found : ShownEnd s at (x.end + 1)
          unfolding shown_reader
          shown-found =
              let c = column-coded s (at + 2) e E in
              let w : span s (at + 2) (e + 1 - 1) ≡ span s (at + 2) e = ap (λ (i : ℕ). span s (at + 2) i) (omega arith) in
              let u : text_of (drop (at + 2) s) ≡ text_of (span s (at + 2) (e + 1 - 1)) = sym c.1 ∙ ap text_of (sym w) in
              shown_end
              (λ t p y Y. goes_on kind_letter _ s at (kind_of (get_or (drop at s) 0 0)) (at + 1) y letter-from
              (goes_on (byte 9) _ s (at + 1) tt (at + 2) y tab-from
              (goes_on coded _ s (at + 2) (text_of (span s (at + 2) (e + 1 - 1))) e y (rw u at text-from) (goes_on (byte 10) _ s e tt (e + 1) y (byte_at 10 s e q Q g refl) Y))))
              (rw w c.0) (omega (arith, E)) (omega (arith, there-at (λ b. eqb b 10) refl s e 0 (sym Q ∙ g)))

-- an end that was found is behind its place
pub shown-after : (s : List ℕ) (at : ℕ) (x : read.Text) → ShownEnd s at (x.end + 1) → x ≡ text_at test.Text s (at + 2) → ShownEnd s at (x.end + 1) × (at < x.end + 1)
shown-after s at x w X = let e : x.end ≡ at + 2 + many code_size 0 (drop (at + 2) s) = ap (λ (k : read.Text). k.end) X in (w, omega (arith, e))
