-- Whether a text is spelled as one of some lines: as it stands, spelled into a buffer, or written into one.
use Prim.Native.Nat.{ℕ, ◌≤◌, ◌<◌}
use native.Mathlib.Omega.{arith}
use mathlib.Core.Path.{◌≡◌, refl, sym, ◌∙◌}
use mathlib.Core.Bool.{Bool, true, false}
use mathlib.Core.List.{List}
use lib.Dec.{leb}
use lib.ListN.{length, take}
use borrow.Author.Tests.{leb-true, leb-false, le-leb, lt-leb}
use Rattle.base_sequences.specs.Stored.{Put}
use Rattle.base_sequences.proofs.Splices.{put_front}
use Rattle.punycode_rules.specs.Labels.{spelling, spelling_limit, double_hyphen}
use Rattle.punycode_laws.proofs.Lengths.{spelling-least}
use Rattle.punycode_laws.proofs.SpellingTheorems.{spelling-single-hyphens}
use Rattle.ownlist_rules.specs.Spelled.{among_lines, among_spelled}
use Rattle.ownlist_spelled.proofs.Spelt.{Spelt}

module _ (lines : List (List ℕ)) (t : List ℕ) where
  long-not : spelling_limit < length (spelling t) → false ≡ among_spelled lines t
  unfolding among_spelled
  long-not h = rw (lt-leb (length (spelling t)) spelling_limit h)

  short-is : length (spelling t) ≤ spelling_limit → (r : Bool) → r ≡ among_lines lines (spelling t) → r ≡ among_spelled lines t
  unfolding among_spelled
  short-is h r e = rw (le-leb (length (spelling t)) spelling_limit h) e

  -- without two hyphens in a row
  module _ (b : Bool) (h : b ≡ double_hyphen t) (n : b ≡ false) where
    plain : spelling t ≡ t
    plain = spelling-single-hyphens t (sym h ∙ n)

    pub plain-long : 1020 < length t → false ≡ among_spelled lines t
    plain-long l = long-not (rw plain l)

    pub plain-line : length t ≤ 1020 → (r : Bool) → r ≡ among_lines lines t → r ≡ among_spelled lines t
    plain-line l r e = short-is (rw plain l) r (rw plain e)

  -- a text of more than 11,230 bytes has a spelling of more than 1,020
  pub text-long : 11230 < length t → false ≡ among_spelled lines t
  text-long h = go (leb (length (spelling t)) spelling_limit) refl
    where
      go : (b : Bool) → leb (length (spelling t)) spelling_limit ≡ b → false ≡ among_spelled lines t
      go true b = let l = leb-true (length (spelling t)) spelling_limit b in absurd (omega (arith, h, spelling-least t l))
      go false b = long-not (leb-false (length (spelling t)) spelling_limit b)

  -- spelled into a buffer
  module _ (old new : List ℕ) (n : ℕ) (w : Spelt old t new n) where
    pub spelt-long : 1020 < n → false ≡ among_spelled lines t
    spelt-long l = long-not (w.over l)

    pub spelt-line : n ≤ 1020 → n ≤ length old → (r : Bool) → r ≡ among_lines lines (take n new) → r ≡ among_spelled lines t
    spelt-line l h r e = short-is (omega (arith, w.size l)) r (rw (w.front l h) at e)

  -- written into a buffer
  module _ (old new : List ℕ) (n : ℕ) (w : Put old 0 t new n) where
    pub text-line : n ≤ length old → (r : Bool) → r ≡ among_spelled lines (take n new) → r ≡ among_spelled lines t
    text-line h r e = rw (put_front w h) at e
