-- `p` lines, one law for each way out of the code.
use Prim.Native.Nat.{ℕ, ◌+◌, ◌-◌, ◌^◌, ◌≤◌, ◌<◌}
use native.Mathlib.Omega.{arith}
use mathlib.Core.Path.{◌≡◌, refl, sym, ◌∙◌, subst}
use mathlib.Core.Bool.{Bool, true, false}
use mathlib.Core.List.{List, [], ◌∷◌, ◌++◌, append_assoc}
use lib.ListN.{length, drop, get_or}
use mir.Syntax.{w64}
use mir.Val as machine
use Rattle.base_sequences.specs.Stored.{Clipped}
use Rattle.base_sequences.proofs.Clips.{clipped-then, clipped-long}
use Rattle.base_readers.specs.Parsers.{Got, nothing, got, Parser, ◌>>◌}
use Rattle.base_readers.specs.Places.{from}
use Rattle.base_readers.proofs.Places.{goes_on, stops}
use Rattle.base_sequences.specs.Spans.{span}
use Rattle.write_rules.specs.Entries.{Entry, shown, stands, kind_of, literal, property_entry}
use Rattle.write_rules.specs.Bodies.{piece}
use Rattle.write_lines.specs.declared.Piece.{Piece}
use Rattle.write_columns.specs.Internal.{text_of, spells, column_reader, column_size, ColumnEnd, column, unclosed, made, shown_reader, IsCoded, shown_at, ShownIs, shown_is, unshown, end_or}
use Rattle.write_texts.specs.Values.{written_value}
use Rattle.write_texts.proofs.Values.{written_is}
use Rattle.std.specs.Prelude.{Option, Some, None}
use Rattle.write_lines.specs.Internal.{written_shown, PiecePut, stood, missing}
use Rattle.write_lines.proofs.Answers.{piece_is}
use Rattle.write_columns.proofs.Literals.{literal-from, literal-not, literal-there}
use Rattle.write_columns.proofs.Keywords.{column-ends}
use Rattle.write_columns.proofs.Allowed.{shown-is}

-- ==== written

pub shown-put : (t p : List ℕ) (k : ℕ) (v : List ℕ) (o₀ : List ℕ) (to : ℕ) → length o₀ < 2 ^ 64 → (o₁ : List ℕ) (a : ℕ) → Clipped o₀ to (32 ∷ []) o₁ a
    → (o₂ : List ℕ) (b : ℕ) → Clipped o₁ a (t ++ (46 ∷ p)) o₂ b → (o₃ : List ℕ) (c : ℕ) → Clipped o₂ b (61 ∷ []) o₃ c
    → (o₄ : List ℕ) (d : ℕ) → Clipped o₃ c (written_value k v) o₄ d → Clipped o₀ to (written_shown t p k v) o₄ d
unfolding written_shown
shown-put t p k v o₀ to h o₁ a u o₂ b w o₃ c x o₄ d y =
    let g : length o₁ < 2 ^ 64 = omega (arith, h, clipped-long u) in
    let e : (t ++ (46 ∷ p)) ++ (61 ∷ written_value k v) ≡ t ++ (46 ∷ (p ++ (61 ∷ written_value k v))) = append_assoc t (46 ∷ p) (61 ∷ written_value k v) in
    rw e at (clipped-then (omega (arith, h)) u (clipped-then (omega (arith, g)) w (clipped-then (omega (arith, g, clipped-long w)) x y)))

-- what is written of the columns is the property's piece
shown-piece : (t p : List ℕ) (k : ℕ) (v : List ℕ) → IsCoded v → stands (kind_of k) (text_of v) ≡ true → written_shown t p k v ≡ piece (shown (made t p (kind_of k) (text_of v)))
unfolding written_shown piece
shown-piece t p k v c y = rw (written_is k v c y)

-- ==== behind ptype and property

module _ (t p s : List ℕ) (at g : ℕ) (G : g ≡ end_or at (from (shown_reader t p) s at)) where
  E : ShownIs t p s at g
  E = shown-is t p s at g G

  pub valued_not : (old : List ℕ) (to : ℕ) → g ≡ at → PiecePut (shown_reader t p) s at old to old None
  valued_not old to z = go E
    where
      go : ShownIs t p s at g → PiecePut (shown_reader t p) s at old to old None
      go (shown_is f c y l b) = absurd (omega arith)
      go (unshown f l) = missing f refl refl

  module _ (ne : g ≡ at → ⊥) where
    valued-in : (at + 2 < g) × (g ≤ length s)
    valued-in = go E
      where
        go : ShownIs t p s at g → (at + 2 < g) × (g ≤ length s)
        go (shown_is f c y l b) = (l, b)
        go (unshown f l) = absurd (ne l)

    pub valued_fits : length s < 2 ^ 64 → machine.Fits w64 (at + 2)
    valued_fits l = omega (arith, valued-in)

    pub valued_one : 1 ≤ g
    valued_one = omega (arith, valued-in)

    pub valued-before : at + 2 ≤ g - 1
    valued-before = omega (arith, valued-in)

    pub valued-inside : g - 1 ≤ length s
    valued-inside = omega (arith, valued-in)

    pub valued-put : (k : ℕ) → k ≡ get_or (drop at s) 0 0 → (old new : List ℕ) (to n : ℕ) → Clipped old to (written_shown t p k (span s (at + 2) (g - 1))) new n
        → PiecePut (shown_reader t p) s at old to new (Some (record { end = g; next = n }))
    valued-put k K old new to n w = go E
      where
        go : ShownIs t p s at g → PiecePut (shown_reader t p) s at old to new (piece_is g n)
        go (shown_is f c y l b) =
            let e : written_shown t p k (span s (at + 2) (g - 1)) ≡ piece (shown (shown_at t p s at g)) = rw K (shown-piece t p (get_or (drop at s) 0 0) (span s (at + 2) (g - 1)) c y) in
            stood (shown (shown_at t p s at g)) _ refl f (omega arith) b (subst (λ (l : List ℕ). Clipped old to l new n) e w)
        go (unshown f l) = absurd (ne l)

-- ==== `p`

abbrev labelled_reader : Parser Entry
labelled_reader = ◌>>◌ (literal (112 ∷ 9 ∷ [])) (column_reader 9 (λ t. column_reader 9 (λ p. shown_reader t p)))

labelled-is : (s : List ℕ) (at : ℕ) → from labelled_reader s at ≡ from property_entry s at
labelled-is s at = unfold property_entry shown_reader in refl

module _ (s : List ℕ) (at : ℕ) (r : Bool) (q : r ≡ spells (112 ∷ 9 ∷ []) (drop at s)) where
  pub property-unlike : (old : List ℕ) (to : ℕ) → r ≡ false → PiecePut property_entry s at old to old None
  property-unlike old to n = missing (stops (literal (112 ∷ 9 ∷ [])) _ s at (literal-not (112 ∷ 9 ∷ []) s at (sym n ∙ q)) ∙ labelled-is s at) refl refl

  module _ (y : r ≡ true) where
    word-from : got tt (at + 2) ≡ from (literal (112 ∷ 9 ∷ [])) s at
    word-from = literal-from (112 ∷ 9 ∷ []) s at (at + 2) refl (sym y ∙ q) refl

    pub property-fits : length s < 2 ^ 64 → machine.Fits w64 (at + 2)
    property-fits l = omega (arith, literal-there 112 (9 ∷ []) s at refl (sym y ∙ q))

    module _ (e : ℕ) (k₀ : e ≡ at + 2 + column_size 9 (drop (at + 2) s)) where
      k : ColumnEnd s (at + 2) 9 e
      k = column-ends s (at + 2) 9 (omega arith) e k₀

      pub property-first : (old : List ℕ) (to : ℕ) → e ≡ at + 2 → PiecePut property_entry s at old to old None
      property-first old to z = go k
        where
          go : ColumnEnd s (at + 2) 9 e → PiecePut property_entry s at old to old None
          go (column g l b) = absurd (omega arith)
          go (unclosed g l) = missing (goes_on (literal (112 ∷ 9 ∷ [])) _ s at tt (at + 2) nothing word-from (g (λ t. column_reader 9 (λ p. shown_reader t p))) ∙ labelled-is s at) refl refl

      module _ (ne : e ≡ at + 2 → ⊥) where
        first-inside : (at + 2 < e) × (e < length s)
        first-inside = go k
          where
            go : ColumnEnd s (at + 2) 9 e → (at + 2 < e) × (e < length s)
            go (column g l b) = (l, b)
            go (unclosed g l) = absurd (ne l)

        pub property-inside : e ≤ length s
        property-inside = omega (arith, first-inside)

        pub property-next : length s < 2 ^ 64 → machine.Fits w64 (e + 1)
        property-next l = omega (arith, first-inside)

        behind-first : (x : Got Entry) → x ≡ from (column_reader 9 (λ p. shown_reader (span s (at + 2) e) p)) s (e + 1) → x ≡ from property_entry s at
        behind-first x X = go k ∙ labelled-is s at
          where
            go : ColumnEnd s (at + 2) 9 e → x ≡ from labelled_reader s at
            go (column g l b) = goes_on (literal (112 ∷ 9 ∷ [])) _ s at tt (at + 2) x word-from (g (λ t. column_reader 9 (λ p. shown_reader t p)) x X)
            go (unclosed g l) = absurd (ne l)

        module _ (f : ℕ) (j₀ : f ≡ e + 1 + column_size 9 (drop (e + 1) s)) where
          j : ColumnEnd s (e + 1) 9 f
          j = column-ends s (e + 1) 9 (omega arith) f j₀

          pub property-second : (old : List ℕ) (to : ℕ) → f ≡ e + 1 → PiecePut property_entry s at old to old None
          property-second old to z = go j
            where
              go : ColumnEnd s (e + 1) 9 f → PiecePut property_entry s at old to old None
              go (column g l b) = absurd (omega arith)
              go (unclosed g l) = missing (behind-first nothing (g (λ p. shown_reader (span s (at + 2) e) p))) refl refl

          module _ (nf : f ≡ e + 1 → ⊥) where
            second-inside : (e + 1 < f) × (f < length s)
            second-inside = go j
              where
                go : ColumnEnd s (e + 1) 9 f → (e + 1 < f) × (f < length s)
                go (column g l b) = (l, b)
                go (unclosed g l) = absurd (nf l)

            pub property-inside-second : f ≤ length s
            property-inside-second = omega (arith, second-inside)

            pub property-last : length s < 2 ^ 64 → machine.Fits w64 (f + 1)
            property-last l = omega (arith, second-inside)

            behind-second : (x : Got Entry) → x ≡ from (shown_reader (span s (at + 2) e) (span s (e + 1) f)) s (f + 1) → x ≡ from property_entry s at
            behind-second x X = behind-first x (go j)
              where
                go : ColumnEnd s (e + 1) 9 f → x ≡ from (column_reader 9 (λ p. shown_reader (span s (at + 2) e) p)) s (e + 1)
                go (column g l b) = g (λ p. shown_reader (span s (at + 2) e) p) x X
                go (unclosed g l) = absurd (nf l)

            pub property-shown : (old new : List ℕ) (to : ℕ) (w : Option Piece) → PiecePut (shown_reader (span s (at + 2) e) (span s (e + 1) f)) s (f + 1) old to new w
                → PiecePut property_entry s at old to new w
            property-shown old new to w (stood x y z a b c d) = stood x y z (behind-second (got x y.end) a) (omega (arith, first-inside, second-inside, b)) c d
            property-shown old new to w (missing a b c) = missing (behind-second nothing a) b c
