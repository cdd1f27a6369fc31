-- `id`, `r` and `none` lines: one law for each way out of the code.
use Prim.Native.Nat.{ℕ, ◌+◌, ◌^◌, ◌≤◌, ◌<◌}
use native.Mathlib.Omega.{arith}
use mathlib.Core.Path.{◌≡◌, refl, sym, ap, ◌∙◌}
use mathlib.Core.Bool.{Bool, true, false}
use mathlib.Core.List.{List, [], ◌∷◌}
use lib.ListN.{length, drop}
use mir.Syntax.{w64}
use mir.Val as machine
use Rattle.base_sequences.specs.Stored.{Clipped}
use Rattle.base_sequences.proofs.Clips.{clipped-then}
use Rattle.base_readers.specs.Texts.{bytes}
use Rattle.base_readers.specs.Readers.{run}
use Rattle.base_readers.specs.Parsers.{nothing, got, Parser, ◌>>◌}
use Rattle.base_readers.specs.Places.{from}
use Rattle.base_readers.proofs.Places.{goes_on, stops, gives}
use Rattle.identifier_rules.specs.Identifier.{identifier_token}
use Rattle.write_rules.specs.Entries.{Entry, identified, unstated, reasoned, whole, literal, id_entry, none_entry, reason_entry}
use Rattle.write_rules.specs.Bodies.{bare_or, piece}
use Rattle.write_columns.specs.declared.coded.Test.TheVariants.{Token, Identifier}
use Rattle.write_columns.specs.declared.coded.Tail as tail
use Rattle.write_columns.specs.Internal.{text_of, in_test, spells, tail_reader, tail_at, TailEnds, TailMissing}
use Rattle.std.specs.Prelude.{Some, None}
use Rattle.write_lines.specs.Internal.{PiecePut, stood, missing}
use Rattle.write_lines.proofs.Answers.{piece_is}
use Rattle.write_columns.proofs.Literals.{solid, literal-from, literal-not, literal-there}
use Rattle.write_columns.proofs.Tails.{token-test, tail-ends, tail-missing}

-- ==== `id`, `r` and `none` lines

-- the reader of what stands bare is a run of the test
identifier-test : (t : List ℕ) → whole (run (in_test Identifier)) t ≡ whole identifier_token t
identifier-test t = ap (λ (c : ℕ → Bool). whole (run c) t) (unfold in_test in refl)

-- a line of a word and a text
abbrev headed_reader : List ℕ → (List ℕ → Entry) → Parser Entry
headed_reader w f = ◌>>◌ (literal w) (tail_reader f)

module _ (c : ℕ) (w s : List ℕ) (at : ℕ) (f : List ℕ → Entry) (z : solid (c ∷ w) ≡ true) (r : Bool) (p : r ≡ spells (c ∷ w) (drop at s)) where
  headed-unlike : (old : List ℕ) (to : ℕ) → r ≡ false → PiecePut (headed_reader (c ∷ w) f) s at old to old None
  headed-unlike old to n = missing (stops (literal (c ∷ w)) _ s at (literal-not (c ∷ w) s at (sym n ∙ p))) refl refl

  module _ (y : r ≡ true) (a : ℕ) (A : a ≡ at + length (c ∷ w)) where
    word-from : got tt a ≡ from (literal (c ∷ w)) s at
    word-from = literal-from (c ∷ w) s at a z (sym y ∙ p) A

    headed-there : a ≤ length s
    headed-there = omega (arith, literal-there c w s at z (sym y ∙ p))

    headed-untailed : (old : List ℕ) (to : ℕ) → TailMissing s a → PiecePut (headed_reader (c ∷ w) f) s at old to old None
    headed-untailed old to g = missing (goes_on (literal (c ∷ w)) _ s at tt a nothing word-from (g f)) refl refl

    headed-put : (e : ℕ) → TailEnds s a e → (old new : List ℕ) (to n : ℕ) → Clipped old to (piece (f (text_of (drop a s)))) new n → PiecePut (headed_reader (c ∷ w) f) s at old to new (piece_is e n)
    headed-put e t old new to n k =
        stood (f (text_of (drop a s))) _ refl (goes_on (literal (c ∷ w)) _ s at tt a (got (f (text_of (drop a s))) e) word-from (t.reads f)) (omega (arith, t.after)) t.inside k

-- `id`
module _ (s : List ℕ) (at : ℕ) (r : Bool) (p : r ≡ spells (105 ∷ 100 ∷ 9 ∷ []) (drop at s)) where
  pub id-unlike : (old : List ℕ) (to : ℕ) → r ≡ false → PiecePut id_entry s at old to old None
  unfolding id_entry tail_reader
  id-unlike old to n = headed-unlike 105 (100 ∷ 9 ∷ []) s at identified refl r p old to n

  module _ (y : r ≡ true) where
    pub id-fits : length s < 2 ^ 64 → machine.Fits w64 (at + 3)
    id-fits l = omega (arith, headed-there 105 (100 ∷ 9 ∷ []) s at identified refl r p y (at + 3) refl)

    module _ (l : tail.Tail) (L : l ≡ tail_at Identifier s (at + 3)) where
      pub id-untailed : None ≡ l.end → (old : List ℕ) (to : ℕ) → PiecePut id_entry s at old to old None
      unfolding id_entry tail_reader
      id-untailed E old to =
          headed-untailed 105 (100 ∷ 9 ∷ []) s at identified refl r p y (at + 3) refl old to (tail-missing s (at + 3) (E ∙ ap (λ (x : tail.Tail). x.end) L))

      pub id-put : (e : ℕ) → Some e ≡ l.end → (o₀ : List ℕ) (to : ℕ) → length o₀ < 2 ^ 64 → (o₁ : List ℕ) (n : ℕ) → Clipped o₀ to (32 ∷ []) o₁ n
          → (o₂ : List ℕ) (m : ℕ) → Clipped o₁ n (bare_or l.bare (text_of (drop (at + 3) s))) o₂ m
          → PiecePut id_entry s at o₀ to o₂ (Some (record { end = e; next = m }))
      unfolding id_entry tail_reader piece
      id-put e E o₀ to h o₁ n u o₂ m v =
          let b : l.bare ≡ whole (run (in_test Identifier)) (text_of (drop (at + 3) s)) = ap (λ (x : tail.Tail). x.bare) L in
          headed-put 105 (100 ∷ 9 ∷ []) s at identified refl r p y (at + 3) refl e (tail-ends s (at + 3) e (E ∙ ap (λ (x : tail.Tail). x.end) L)) o₀ o₂ to m
          (rw (← identifier-test (text_of (drop (at + 3) s)), ← b) (clipped-then (omega (arith, h)) u v))

-- `r`
module _ (s : List ℕ) (at : ℕ) (r : Bool) (p : r ≡ spells (114 ∷ 9 ∷ []) (drop at s)) where
  pub reason-unlike : (old : List ℕ) (to : ℕ) → r ≡ false → PiecePut reason_entry s at old to old None
  unfolding reason_entry tail_reader
  reason-unlike old to n = headed-unlike 114 (9 ∷ []) s at reasoned refl r p old to n

  module _ (y : r ≡ true) where
    pub reason-fits : length s < 2 ^ 64 → machine.Fits w64 (at + 2)
    reason-fits l = omega (arith, headed-there 114 (9 ∷ []) s at reasoned refl r p y (at + 2) refl)

    module _ (l : tail.Tail) (L : l ≡ tail_at Token s (at + 2)) where
      pub reason-untailed : None ≡ l.end → (old : List ℕ) (to : ℕ) → PiecePut reason_entry s at old to old None
      unfolding reason_entry tail_reader
      reason-untailed E old to =
          headed-untailed 114 (9 ∷ []) s at reasoned refl r p y (at + 2) refl old to (tail-missing s (at + 2) (E ∙ ap (λ (x : tail.Tail). x.end) L))

      pub reason-put : (e : ℕ) → Some e ≡ l.end → (o₀ : List ℕ) (to : ℕ) → length o₀ < 2 ^ 64 → (o₁ : List ℕ) (n : ℕ) → Clipped o₀ to (bytes " reason=") o₁ n
          → (o₂ : List ℕ) (m : ℕ) → Clipped o₁ n (bare_or l.bare (text_of (drop (at + 2) s))) o₂ m
          → PiecePut reason_entry s at o₀ to o₂ (Some (record { end = e; next = m }))
      unfolding reason_entry tail_reader piece
      reason-put e E o₀ to h o₁ n u o₂ m v =
          let b : l.bare ≡ whole (run (in_test Token)) (text_of (drop (at + 2) s)) = ap (λ (x : tail.Tail). x.bare) L in
          headed-put 114 (9 ∷ []) s at reasoned refl r p y (at + 2) refl e (tail-ends s (at + 2) e (E ∙ ap (λ (x : tail.Tail). x.end) L)) o₀ o₂ to m
          (rw (← token-test (text_of (drop (at + 2) s)), ← b) (clipped-then (omega (arith, h)) u v))

-- `none`
module _ (s : List ℕ) (at : ℕ) (r : Bool) (p : r ≡ spells (bytes "none\n") (drop at s)) where
  pub none-unlike : (old : List ℕ) (to : ℕ) → r ≡ false → PiecePut none_entry s at old to old None
  unfolding none_entry
  none-unlike old to n = missing (stops (literal (bytes "none\n")) _ s at (literal-not (bytes "none\n") s at (sym n ∙ p))) refl refl

  pub none-fits : r ≡ true → length s < 2 ^ 64 → machine.Fits w64 (at + 5)
  none-fits y l = omega (arith, literal-there 110 (bytes "one\n") s at refl (sym y ∙ p))

  pub none-put : r ≡ true → (o₀ : List ℕ) (to : ℕ) (o₁ : List ℕ) (n : ℕ) → Clipped o₀ to (bytes "; none") o₁ n → PiecePut none_entry s at o₀ to o₁ (Some (record { end = at + 5; next = n }))
  unfolding none_entry piece
  none-put y o₀ to o₁ n u =
      stood unstated _ refl
      (goes_on (literal (bytes "none\n")) _ s at tt (at + 5) (got unstated (at + 5)) (literal-from (bytes "none\n") s at (at + 5) refl (sym y ∙ p) refl) (gives unstated s (at + 5)))
      (omega arith) (omega (arith, literal-there 110 (bytes "one\n") s at refl (sym y ∙ p))) u
