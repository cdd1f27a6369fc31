-- Which bytes are in no class, and which can start no space.
use Prim.Native.Nat.{ℕ, zero, suc, ◌<◌}
use mathlib.Core.Path.{◌≡◌, refl, sym, ◌∙◌, ap}
use mathlib.Core.Bool.{Bool, true, false, ◌||◌}
use lib.Dec.{eqb, ltb}
use borrow.Author.Tests.{eqb-true, ne_eqb}
use Rattle.base_sequences.proofs.Booleans.{no_true, both, and_right, or-none}
use Rattle.base_readers.specs.Texts.{within, one_of, same}
use Rattle.lexis_rules.specs.declared.Class.{Class}
use Rattle.lexis_rules.specs.declared.Class.TheVariants.{Blank, Opening, Zero, Digit, Keyword, Token, Quoted, Comment, Escaped, Name, Visible, Delimiter, Tag}
use Rattle.lexis_rules.specs.Bytes.{in_class, letter, lower, alike}
use mathlib.Core.List.{List, [], ◌∷◌, map}
use lib.ListN.{length, drop, length-map}
use Rattle.base_readers.proofs.Texts.{same-long}
use Rattle.base_readers.proofs.Loops.{unstopped}

-- 0, which stands for the end, is in no class
pub class-zero : (c : Class) → in_class c 0 ≡ false
unfolding in_class letter within one_of
class-zero Blank = refl
class-zero Opening = refl
class-zero Zero = refl
class-zero Digit = refl
class-zero Keyword = refl
class-zero Token = refl
class-zero Quoted = refl
class-zero Comment = refl
class-zero Escaped = refl
class-zero Name = refl
class-zero Visible = refl
class-zero Delimiter = refl
class-zero Tag = refl

-- ==== the bytes with which a space can start

-- a byte that can start no space is none of the bytes that can
pub not-opening : (x b : ℕ) → in_class Opening x ≡ true → in_class Opening b ≡ false → eqb b x ≡ false
not-opening x b h e = go (eqb b x) refl
  where
    go : (t : Bool) → eqb b x ≡ t → eqb b x ≡ false
    go true q = absurd (both (in_class Opening b) e (rw (eqb-true b x q) h))
    go false q = q

pub not-blank : (b : ℕ) → in_class Opening b ≡ false → in_class Blank b ≡ false
unfolding in_class one_of
not-blank b e = rw (not-opening 32 b refl e, not-opening 9 b refl e)

-- ==== space and tab

pub blank-either : (b : ℕ) → (eqb b 32 || eqb b 9) ≡ in_class Blank b
unfolding in_class one_of
blank-either b = ap (λ (t : Bool). eqb b 32 || t) (sym (or-none (eqb b 9)))

-- ==== bytes that stand in a run for sure: none of these tests stops them

module _ (b : ℕ) (h : b < 256) where
  pub comment-unstopped : (ltb b 32 || eqb b 40 || eqb b 41 || eqb b 92 || ltb 126 b) ≡ false → in_class Comment b ≡ true
  unfolding in_class within one_of
  comment-unstopped = unstopped (λ b. ltb b 32 || eqb b 40 || eqb b 41 || eqb b 92 || ltb 126 b) (in_class Comment) tt b h

  pub tag-unstopped : (ltb b 32 || eqb b 59 || ltb 126 b) ≡ false → in_class Tag b ≡ true
  unfolding in_class within one_of
  tag-unstopped = unstopped (λ b. ltb b 32 || eqb b 59 || ltb 126 b) (in_class Tag) tt b h

-- ==== two texts, byte by byte

pub alike-long : (a b : List ℕ) → (length a ≡ length b → ⊥) → false ≡ alike a b
unfolding alike
alike-long a b h = sym (same-long (map lower a) (map lower b) (λ e. h (sym (length-map a lower) ∙ e ∙ length-map b lower)))

-- texts that are alike are alike from any place on
pub alike-drop : (n : ℕ) (a b : List ℕ) → alike a b ≡ true → alike (drop n a) (drop n b) ≡ true
unfolding alike same
alike-drop zero a b e = e
alike-drop (suc n) [] [] e = e
alike-drop (suc n) [] (y ∷ b) e = absurd (no_true e)
alike-drop (suc n) (x ∷ a) [] e = absurd (no_true e)
alike-drop (suc n) (x ∷ a) (y ∷ b) e = alike-drop n a b (and_right (eqb (lower x) (lower y)) (same (map lower a) (map lower b)) e)
