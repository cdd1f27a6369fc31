-- `m` lines: one law for each way out of the code.
use Prim.Native.Nat.{ℕ, ◌+◌, ◌^◌, ◌≤◌, ◌<◌}
use native.Mathlib.Omega.{arith}
use mathlib.Core.Path.{◌≡◌, refl, sym, ◌∙◌}
use mathlib.Core.Bool.{Bool, true, false}
use mathlib.Core.List.{List, [], ◌∷◌, ◌++◌}
use lib.ListN.{length, drop}
use mir.Syntax.{w64}
use mir.Val as machine
use Rattle.base_sequences.specs.Stored.{Clipped}
use Rattle.base_sequences.proofs.Clips.{clipped-then, clipped-long}
use Rattle.base_readers.specs.Texts.{bytes}
use Rattle.base_readers.specs.Parsers.{Got, nothing, got, Parser, ◌>>◌, give, when}
use Rattle.base_readers.specs.Places.{from}
use Rattle.base_readers.proofs.Places.{goes_on, stops, gives, passes, fails}
use Rattle.result_rules.specs.Table.{table, tabled}
use Rattle.base_sequences.specs.Spans.{span}
use Rattle.write_rules.specs.Entries.{Entry, judged, literal, method_entry}
use Rattle.write_rules.specs.Bodies.{piece}
use Rattle.write_columns.specs.Internal.{spells, column_reader, column_size, ColumnEnd, column, unclosed}
use Rattle.std.specs.Prelude.{Some, None}
use Rattle.write_lines.specs.Internal.{PiecePut, stood, missing}
use Rattle.write_columns.proofs.Literals.{literal-from, literal-not, literal-there}
use Rattle.write_columns.proofs.Keywords.{column-ends}

-- ==== writing

pub pair_put : (a b : List ℕ) (separator to : ℕ) (o₀ : List ℕ) → length o₀ < 2 ^ 64 → (o₁ : List ℕ) (n : ℕ) → Clipped o₀ to a o₁ n → (o₂ : List ℕ) (m : ℕ) → Clipped o₁ n (separator ∷ []) o₂ m
    → (o₃ : List ℕ) (k : ℕ) → Clipped o₂ m b o₃ k → Clipped o₀ to (a ++ (separator ∷ b)) o₃ k
pair_put a b separator to o₀ h o₁ n u o₂ m v o₃ k w = clipped-then (omega (arith, h)) u (clipped-then (omega (arith, h, clipped-long u)) v w)

pub known-put : (m o : List ℕ) (to : ℕ) (o₀ : List ℕ) → length o₀ < 2 ^ 64 → (o₁ : List ℕ) (n : ℕ) → Clipped o₀ to (bytes "; ") o₁ n → (o₂ : List ℕ) (k : ℕ) → Clipped o₁ n (m ++ (61 ∷ o)) o₂ k
    → Clipped o₀ to (piece (judged m o)) o₂ k
unfolding piece
known-put m o to o₀ h o₁ n u o₂ k v = clipped-then (omega (arith, h)) u v

-- ==== `m`

abbrev known_reader : List ℕ → List ℕ → Parser Entry
known_reader m r = ◌>>◌ (when (tabled table m r)) (give (judged m r))

module _ (s : List ℕ) (at : ℕ) (r : Bool) (p : r ≡ spells (109 ∷ 9 ∷ []) (drop at s)) where
  pub method-unlike : (old : List ℕ) (to : ℕ) → r ≡ false → PiecePut method_entry s at old to old None
  unfolding method_entry
  method-unlike old to n = missing (stops (literal (109 ∷ 9 ∷ [])) _ s at (literal-not (109 ∷ 9 ∷ []) s at (sym n ∙ p))) refl refl

  module _ (y : r ≡ true) where
    word-from : got tt (at + 2) ≡ from (literal (109 ∷ 9 ∷ [])) s at
    word-from = literal-from (109 ∷ 9 ∷ []) s at (at + 2) refl (sym y ∙ p) refl

    pub method-fits : length s < 2 ^ 64 → machine.Fits w64 (at + 2)
    method-fits l = omega (arith, literal-there 109 (9 ∷ []) s at refl (sym y ∙ p))

    module _ (e : ℕ) (k₀ : e ≡ at + 2 + column_size 9 (drop (at + 2) s)) where
      k : ColumnEnd s (at + 2) 9 e
      k = column-ends s (at + 2) 9 (omega arith) e k₀

      pub method-first : (old : List ℕ) (to : ℕ) → e ≡ at + 2 → PiecePut method_entry s at old to old None
      unfolding method_entry
      method-first old to z = go k
        where
          go : ColumnEnd s (at + 2) 9 e → PiecePut method_entry s at old to old None
          go (column g l b) = absurd (omega arith)
          go (unclosed g l) = missing (goes_on (literal (109 ∷ 9 ∷ [])) _ s at tt (at + 2) nothing word-from (g (λ m. column_reader 10 (known_reader m)))) refl refl

      module _ (ne : e ≡ at + 2 → ⊥) where
        first-inside : (at + 2 < e) × (e < length s)
        first-inside = go k
          where
            go : ColumnEnd s (at + 2) 9 e → (at + 2 < e) × (e < length s)
            go (column g l b) = (l, b)
            go (unclosed g l) = absurd (ne l)

        pub method-inside : e ≤ length s
        method-inside = omega (arith, first-inside)

        pub method-next : length s < 2 ^ 64 → machine.Fits w64 (e + 1)
        method-next l = omega (arith, first-inside)

        -- what is read behind the first column
        behind : (x : Got Entry) → x ≡ from (column_reader 10 (known_reader (span s (at + 2) e))) s (e + 1) → x ≡ from method_entry s at
        unfolding method_entry
        behind x X = go k
          where
            go : ColumnEnd s (at + 2) 9 e → x ≡ from (◌>>◌ (literal (109 ∷ 9 ∷ [])) (column_reader 9 (λ m. column_reader 10 (known_reader m)))) s at
            go (column g l b) = goes_on (literal (109 ∷ 9 ∷ [])) _ s at tt (at + 2) x word-from (g (λ m. column_reader 10 (known_reader m)) x X)
            go (unclosed g l) = absurd (ne l)

        module _ (f : ℕ) (j₀ : f ≡ e + 1 + column_size 10 (drop (e + 1) s)) where
          j : ColumnEnd s (e + 1) 10 f
          j = column-ends s (e + 1) 10 (omega arith) f j₀

          pub method-second : (old : List ℕ) (to : ℕ) → f ≡ e + 1 → PiecePut method_entry s at old to old None
          method-second old to z = go j
            where
              go : ColumnEnd s (e + 1) 10 f → PiecePut method_entry s at old to old None
              go (column g l b) = absurd (omega arith)
              go (unclosed g l) = missing (behind nothing (g (known_reader (span s (at + 2) e)))) refl refl

          module _ (nf : f ≡ e + 1 → ⊥) where
            second-inside : (e + 1 < f) × (f < length s)
            second-inside = go j
              where
                go : ColumnEnd s (e + 1) 10 f → (e + 1 < f) × (f < length s)
                go (column g l b) = (l, b)
                go (unclosed g l) = absurd (nf l)

            pub method-inside-second : f ≤ length s
            method-inside-second = omega (arith, second-inside)

            pub method-last : length s < 2 ^ 64 → machine.Fits w64 (f + 1)
            method-last l = omega (arith, second-inside)

            last : (x : Got Entry) → x ≡ from (known_reader (span s (at + 2) e) (span s (e + 1) f)) s (f + 1) → x ≡ from method_entry s at
            last x X = behind x (go j)
              where
                go : ColumnEnd s (e + 1) 10 f → x ≡ from (column_reader 10 (known_reader (span s (at + 2) e))) s (e + 1)
                go (column g l b) = g (known_reader (span s (at + 2) e)) x X
                go (unclosed g l) = absurd (nf l)

            module _ (b : Bool) (q : b ≡ tabled table (span s (at + 2) e) (span s (e + 1) f)) where
              pub method-unknown : (old : List ℕ) (to : ℕ) → b ≡ false → PiecePut method_entry s at old to old None
              method-unknown old to n = missing (last nothing (stops (when _) _ s (f + 1) (fails _ s (f + 1) (sym q ∙ n)))) refl refl

              pub method-put : b ≡ true → (o₀ : List ℕ) (to : ℕ) (o₁ : List ℕ) (n : ℕ) → Clipped o₀ to (piece (judged (span s (at + 2) e) (span s (e + 1) f))) o₁ n
                  → PiecePut method_entry s at o₀ to o₁ (Some (record { end = f + 1; next = n }))
              method-put t o₀ to o₁ n u =
                  stood (judged (span s (at + 2) e) (span s (e + 1) f)) _ refl
                  (last (got (judged (span s (at + 2) e) (span s (e + 1) f)) (f + 1))
                  (goes_on (when (tabled table (span s (at + 2) e) (span s (e + 1) f))) _ s (f + 1) tt (f + 1) _ (passes _ s (f + 1) (sym q ∙ t)) (gives (judged (span s (at + 2) e) (span s (e + 1) f)) s (f + 1))))
                  (omega (arith, first-inside, second-inside)) (omega (arith, second-inside)) u
