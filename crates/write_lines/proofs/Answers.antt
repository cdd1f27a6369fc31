-- An answer by its two places; the first byte tells which line stands at a place; what `put_line` says of it.
use Prim.Native.Nat.{ℕ}
use mathlib.Core.Path.{◌≡◌, refl, sym, ap, ◌∙◌}
use mathlib.Core.Bool.{false}
use mathlib.Core.List.{List, [], ◌∷◌}
use lib.Dec.{eqb}
use lib.ListN.{drop, get_or}
use borrow.Author.Tests.{eqb-false, ne_eqb}
use Rattle.base_readers.specs.Parsers.{Got, nothing, got, Parser, after, either}
use Rattle.base_readers.specs.Places.{from}
use Rattle.base_readers.proofs.Sequencing.{either_first, either_second, bind-none}
use Rattle.base_readers.proofs.Places.{none-at}
use Rattle.write_columns.specs.Internal.{spells}
use Rattle.write_columns.proofs.Literals.{literal-not}
use Rattle.write_rules.specs.Entries.{Entry, literal, id_entry, none_entry, method_entry, reason_entry, property_entry, entry}
use Rattle.std.specs.Prelude.{Option, Some}
use Rattle.write_lines.specs.declared.Piece.{Piece}
use Rattle.write_lines.specs.Internal.{PiecePut, stood, missing, piece_at, bytes_at}

-- an answer by its two places
abbrev pub piece_is : ℕ → ℕ → Option Piece
piece_is e n = Some (record { end = e; next = n })

-- ==== which line

-- a line that starts with another byte isn't there
unheaded : (c : ℕ) (w xs : List ℕ) → (get_or xs 0 0 ≡ c → ⊥) → literal (c ∷ w) xs ≡ nothing
unheaded c w xs ne = none-at (literal (c ∷ w)) xs 0 (literal-not (c ∷ w) xs 0 (sym (unfold spells in rw (ne_eqb (get_or xs 0 0) c ne))))

module _ (xs : List ℕ) where
  no-id : (get_or xs 0 0 ≡ 105 → ⊥) → id_entry xs ≡ nothing
  unfolding id_entry
  no-id ne = bind-none (literal (105 ∷ 100 ∷ 9 ∷ [])) _ xs (unheaded 105 (100 ∷ 9 ∷ []) xs ne)

  no_none : (get_or xs 0 0 ≡ 110 → ⊥) → none_entry xs ≡ nothing
  unfolding none_entry
  no_none ne = bind-none (literal (110 ∷ 111 ∷ 110 ∷ 101 ∷ 10 ∷ [])) _ xs (unheaded 110 (111 ∷ 110 ∷ 101 ∷ 10 ∷ []) xs ne)

  no-method : (get_or xs 0 0 ≡ 109 → ⊥) → method_entry xs ≡ nothing
  unfolding method_entry
  no-method ne = bind-none (literal (109 ∷ 9 ∷ [])) _ xs (unheaded 109 (9 ∷ []) xs ne)

  no-reason : (get_or xs 0 0 ≡ 114 → ⊥) → reason_entry xs ≡ nothing
  unfolding reason_entry
  no-reason ne = bind-none (literal (114 ∷ 9 ∷ [])) _ xs (unheaded 114 (9 ∷ []) xs ne)

  no-property : (get_or xs 0 0 ≡ 112 → ⊥) → property_entry xs ≡ nothing
  unfolding property_entry
  no-property ne = bind-none (literal (112 ∷ 9 ∷ [])) _ xs (unheaded 112 (9 ∷ []) xs ne)

  either-none : (p q : Parser Entry) → q xs ≡ nothing → either p q xs ≡ p xs
  either-none p q e = go (p xs) refl
    where
      go : (g : Got Entry) → p xs ≡ g → either p q xs ≡ p xs
      go nothing h = either_second p q xs h ∙ (e ∙ sym h)
      go (got a n) h = either_first p q xs a n h ∙ sym h

-- ==== the answer

-- `r` and `p` lines; these and `m` lines; all lines but the first
abbrev detail_reader : Parser Entry
detail_reader = either reason_entry property_entry

abbrev result_reader : Parser Entry
result_reader = either method_entry detail_reader

abbrev later_reader : Parser Entry
later_reader = either none_entry result_reader

-- an answer, and what it leaves
abbrev pub Answered : List ℕ → ℕ → List ℕ → ℕ → List ℕ → Option Piece → Type 0
Answered s at old to new r = (r ≡ piece_at to (from entry s at)) × (new ≡ bytes_at old to (from entry s at))

module _ (s : List ℕ) (at : ℕ) (old : List ℕ) (to b : ℕ) (B : b ≡ get_or (drop at s) 0 0) where
  abbrev xs : List ℕ
  xs = drop at s

  -- where only one of the lines may stand there
  answered : (p : Parser Entry) → entry xs ≡ p xs → (new : List ℕ) (r : Option Piece) → PiecePut p s at old to new r → Answered s at old to new r
  unfolding from
  answered p q new r P = go P
    where
      e : from entry s at ≡ from p s at
      e = ap (after at) q

      go : PiecePut p s at old to new r → Answered s at old to new r
      go (stood x y z a b c d) =
          let f : from entry s at ≡ got x y.end = e ∙ sym a in
          (rw f (z ∙ ap (λ (n : ℕ). piece_is y.end n) d.place), rw f d.bytes)
      go (missing a b c) = let f : from entry s at ≡ nothing = e ∙ sym a in (rw f b, rw f c)

  other : (c d : ℕ) → b ≡ c → eqb c d ≡ false → get_or xs 0 0 ≡ d → ⊥
  other c d e f g = eqb-false c d f (sym e ∙ (B ∙ g))

  detailed : (c : ℕ) → b ≡ c → eqb c 114 ≡ false → eqb c 112 ≡ false → detail_reader xs ≡ nothing
  detailed c e f g = either_second reason_entry property_entry xs (no-reason xs (other c 114 e f)) ∙ no-property xs (other c 112 e g)

  unlike : (d : ℕ) → (b ≡ d → ⊥) → get_or xs 0 0 ≡ d → ⊥
  unlike d ne g = ne (B ∙ g)

  pub line-id : b ≡ 105 → (new : List ℕ) (r : Option Piece) → PiecePut id_entry s at old to new r → Answered s at old to new r
  unfolding entry
  line-id e =
      answered id_entry
      (either-none xs id_entry later_reader
      (either_second none_entry result_reader xs (no_none xs (other 105 110 e refl)) ∙ (either_second method_entry detail_reader xs (no-method xs (other 105 109 e refl)) ∙ detailed 105 e refl refl)))

  pub line-none : b ≡ 110 → (new : List ℕ) (r : Option Piece) → PiecePut none_entry s at old to new r → Answered s at old to new r
  unfolding entry
  line-none e =
      answered none_entry
      (either_second id_entry later_reader xs (no-id xs (other 110 105 e refl))
      ∙ either-none xs none_entry result_reader (either_second method_entry detail_reader xs (no-method xs (other 110 109 e refl)) ∙ detailed 110 e refl refl))

  pub line-method : b ≡ 109 → (new : List ℕ) (r : Option Piece) → PiecePut method_entry s at old to new r → Answered s at old to new r
  unfolding entry
  line-method e =
      answered method_entry
      (either_second id_entry later_reader xs (no-id xs (other 109 105 e refl))
      ∙ (either_second none_entry result_reader xs (no_none xs (other 109 110 e refl)) ∙ either-none xs method_entry detail_reader (detailed 109 e refl refl)))

  module _ (i : b ≡ 105 → ⊥) (n : b ≡ 110 → ⊥) (m : b ≡ 109 → ⊥) where
    late : entry xs ≡ detail_reader xs
    unfolding entry
    late =
        either_second id_entry later_reader xs (no-id xs (unlike 105 i))
        ∙ (either_second none_entry result_reader xs (no_none xs (unlike 110 n)) ∙ either_second method_entry detail_reader xs (no-method xs (unlike 109 m)))

    pub line-reason : b ≡ 114 → (new : List ℕ) (r : Option Piece) → PiecePut reason_entry s at old to new r → Answered s at old to new r
    line-reason e = answered reason_entry (late ∙ either-none xs reason_entry property_entry (no-property xs (other 114 112 e refl)))

    pub line-property : (b ≡ 114 → ⊥) → (new : List ℕ) (r : Option Piece) → PiecePut property_entry s at old to new r → Answered s at old to new r
    line-property o = answered property_entry (late ∙ either_second reason_entry property_entry xs (no-reason xs (unlike 114 o)))
