-- The laws of comments and what they hold at a place of a slice, with premises as a need is handed them: the invariant of the
-- loop, what a call ensures of its answer, and what a test says of that. Each is a law of `base_readers` at one reader.
use Prim.Native.Nat.{ℕ, ◌+◌, ◌-◌, ◌<◌}
use native.Mathlib.Omega.{arith}
use mathlib.Core.Path.{◌≡◌, refl, sym, ◌∙◌}
use mathlib.Core.Bool.{Bool, true, false}
use mathlib.Core.List.{List, ◌∷◌}
use lib.Dec.{eqb}
use lib.ListN.{length, get_or, drop}
use borrow.Author.Tests.{eqb-true}
use Rattle.base_sequences.proofs.Booleans.{both}
use Rattle.base_readers.specs.Texts.{within, one_of}
use Rattle.base_readers.specs.Readers.{run, choose}
use Rattle.base_readers.specs.Places.{Reaches}
use Rattle.base_readers.proofs.Readers.{choose_yes, choose_no}
use Rattle.base_readers.proofs.Loops.{many-on, many-off, many-past-run, opens_not, closes, closes-not, room_at}
use Rattle.lexis_rules.specs.declared.Class.{Class}
use Rattle.lexis_rules.specs.declared.Class.TheVariants.{Comment}
use Rattle.lexis_comments.specs.declared.Cursor.{Cursor}
use Rattle.lexis_comments.specs.Internal.{fresh_at}
use Rattle.lexis_rules.specs.Bytes.{in_class}
use Rattle.lexis_rules.specs.Pieces.{item, comment, content}
use Rattle.lexis_laws.proofs.Pieces.{item-fits, comment-fits, part-fits, comment-none, comment-is}

-- ==== a comment

module _ (s : List ℕ) (at d : ℕ) where
  pub no-level : d ≡ 0 → at ≡ at + comment d (drop at s)
  no-level z = rw (z, comment-none) (omega arith)

  module _ (ne : d ≡ 0 → ⊥) (r : Bool) (h : r ≡ eqb (get_or (drop at s) 0 0) 40) where
    pub comment-opens-not : r ≡ false → at ≡ at + comment d (drop at s)
    comment-opens-not t = rw (comment-is d (drop at s) ne) (opens_not 40 41 (content (d - 1) Comment) s at r h t)

    module _ (t : r ≡ true) (e : ℕ) (q : e ≡ at + 1 + content (d - 1) Comment (drop (at + 1) s)) (r' : Bool) (h' : r' ≡ eqb (get_or (drop e s) 0 0) 41) where
      pub comment-closes : r' ≡ true → e + 1 ≡ at + comment d (drop at s)
      comment-closes t' = rw (comment-is d (drop at s) ne) (closes 40 41 (content (d - 1) Comment) s at r h t e q r' h' t')

      pub comment-closes-not : r' ≡ false → at ≡ at + comment d (drop at s)
      comment-closes-not t' = rw (comment-is d (drop at s) ne) (closes-not 40 41 (content (d - 1) Comment) s at r h t e q r' h' t')

-- ==== items and comments, one after the other: each turn passes a run of the class, and then a comment or another item

module _ (d : ℕ) (c : Class) (k : in_class c 40 ≡ false) where
  -- of a run of the class, which has no "(", one byte is taken at a time
  one_byte : (x : ℕ) (xs : List ℕ) → in_class c x ≡ true → choose 40 (comment d) (item c) (x ∷ xs) ≡ 1
  unfolding item
  one_byte x xs h = choose_no 40 (comment d) (item c) (x ∷ xs) (go (eqb x 40) refl) ∙ rw h
    where
      go : (t : Bool) → eqb x 40 ≡ t → eqb x 40 ≡ false
      go true q = absurd (both (in_class c x) (rw (eqb-true x 40 q) k) h)
      go false q = q

  module _ (s : List ℕ) (at i e : ℕ) (w : Reaches (content d c) s at i) (q : e ≡ i + run (in_class c) (drop i s)) (r : Bool) (h : r ≡ eqb (get_or (drop e s) 0 0) 40) where
    past-run : Reaches (content d c) s at e
    past-run = many-past-run (choose 40 (comment d) (item c)) (in_class c) one_byte s at i e w q

    module _ (t : r ≡ true) (f : ℕ) (z : f ≡ e + comment d (drop e s)) where
      part : comment d (drop e s) ≡ choose 40 (comment d) (item c) (drop e s)
      part = sym (choose_yes 40 (comment d) (item c) (drop e s) (sym h ∙ t))

      pub past-comment : Reaches (content d c) s at f
      past-comment = rw z (many-on _ (part-fits d c) s at e _ part past-run)

      pub at-comment : f ≡ e → e ≡ at + content d c (drop at s)
      at-comment o = many-off _ (part-fits d c) s at e _ part past-run (omega arith)

    module _ (t : r ≡ false) (n : ℕ) (z : n ≡ item c (drop e s)) where
      other : n ≡ choose 40 (comment d) (item c) (drop e s)
      other = z ∙ sym (choose_no 40 (comment d) (item c) (drop e s) (sym h ∙ t))

      pub past-item : Reaches (content d c) s at (e + n)
      past-item = many-on _ (part-fits d c) s at e n other past-run

      pub at_item : n ≡ 0 → e ≡ at + content d c (drop at s)
      at_item o = many-off _ (part-fits d c) s at e n other past-run o

module _ (c : Class) (s : List ℕ) (i e : ℕ) (q : e ≡ i + run (in_class c) (drop i s)) where
  pub past-comment-less : (d f : ℕ) → f ≡ e + comment d (drop e s) → (f ≡ e → ⊥) → length s - f < length s - i
  past-comment-less d f z ne = omega (arith, room_at (comment d) (comment-fits d) s e)

  pub past-item-less : (n : ℕ) → n ≡ item c (drop e s) → (n ≡ 0 → ⊥) → length s - (e + n) < length s - i
  past-item-less n z ne = omega (arith, room_at (item c) (item-fits c) s e)

-- ==== cursors

module _ (s : List ℕ) (at : ℕ) (k : Cursor) (f : k ≡ fresh_at at) (r : ℕ) where
  pub fresh-comment : r ≡ k.at + comment k.depth (drop k.at s) → r ≡ at + comment 16 (drop at s)
  fresh-comment q = rw f at q

-- the class of comments has no "("
pub comment-no-open : in_class Comment 40 ≡ false
unfolding in_class within one_of
comment-no-open = refl
