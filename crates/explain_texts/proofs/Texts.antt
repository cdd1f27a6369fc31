-- Texts as the code shows them: the tests of a byte, and the bytes of a column's text stored one after another. The premises are literally what a need is
-- handed.
use Prim.Native.Nat.{ℕ, ◌/◌, ◌%◌, ◌<◌, ◌^◌}
use native.Mathlib.Omega.{arith}
use mathlib.Core.Path.{◌≡◌, refl, sym, ap, ◌∙◌}
use mathlib.Core.Bool.{Bool, true, false, not, ◌&&◌, ◌||◌}
use mathlib.Core.List.{List, [], ◌∷◌}
use lib.Dec.{eqb}
use lib.ListN.{length}
use borrow.Author.Tests.{eqb-true, eqb-false}
use Rattle.base_sequences.specs.Stored.{Clipped}
use Rattle.base_sequences.proofs.Clips.{clipped-long, clipped-then, Going, going_step, going_done}
use Rattle.base_readers.specs.Texts.{within}
use Rattle.report_rules.specs.Report.{hex_digit}
use Rattle.write_rules.specs.Entries.{each}
use Rattle.explain_rules.specs.Texts.{decoded_past, decoded, in_word, is_word, quoted_byte, quoted_bytes}
use Rattle.explain_rules.specs.Explained.{shown}
use Rattle.explain_rules.proofs.Texts.{decoded-step, quoted-mark, quoted-itself, quoted-hex, words-alike, shown-word, shown-quoted}

-- ==== a byte between quotes, by the tests of the code

pub hex-put : (b : ℕ) (o₀ : List ℕ) (to : ℕ) → length o₀ < 2 ^ 64 → (o₁ : List ℕ) (n : ℕ) → Clipped o₀ to (92 ∷ 120 ∷ []) o₁ n → (x : ℕ) → x ≡ hex_digit (b / 16 % 16)
    → (o₂ : List ℕ) (m : ℕ) → Clipped o₁ n (x ∷ []) o₂ m → (y : ℕ) → y ≡ hex_digit (b % 16) → (o₃ : List ℕ) (k : ℕ) → Clipped o₂ m (y ∷ []) o₃ k
    → Clipped o₀ to (92 ∷ 120 ∷ hex_digit (b / 16 % 16) ∷ hex_digit (b % 16) ∷ []) o₃ k
hex-put b o₀ to h o₁ n u x p o₂ m v y q o₃ k w =
    rw (← p, ← q) (clipped-then (omega arith) u (clipped-then (omega (arith, clipped-long u)) v w))

module _ (b : ℕ) (t : Bool) (e : t ≡ (eqb b 34 || eqb b 92)) (o₀ : List ℕ) (to : ℕ) where
  pub mark-put : t ≡ true → length o₀ < 2 ^ 64 → (o₁ : List ℕ) (n : ℕ) → Clipped o₀ to (92 ∷ []) o₁ n → (o₂ : List ℕ) (m : ℕ) → Clipped o₁ n (b ∷ []) o₂ m
      → Clipped o₀ to (quoted_byte b) o₂ m
  mark-put q h o₁ n u o₂ m v = rw (quoted-mark b (sym e ∙ q)) (clipped-then (omega arith) u v)

  module _ (f : t ≡ false) (r : Bool) (p : r ≡ within 32 126 b) (o₁ : List ℕ) (n : ℕ) where
    pub printed-put : r ≡ true → Clipped o₀ to (b ∷ []) o₁ n → Clipped o₀ to (quoted_byte b) o₁ n
    printed-put q u = rw (quoted-itself b (sym e ∙ f) (sym p ∙ q)) u

    pub digits-put : r ≡ false → Clipped o₀ to (92 ∷ 120 ∷ hex_digit (b / 16 % 16) ∷ hex_digit (b % 16) ∷ []) o₁ n → Clipped o₀ to (quoted_byte b) o₁ n
    digits-put q u = rw (quoted-hex b (sym e ∙ f) (sym p ∙ q)) u

-- ==== whether it is a plain word

-- all bytes of the text are of a word where those of the rest are
pub record Fine (s rest : List ℕ) : Type 0 where
  pub holds : each in_word (decoded s) ≡ each in_word (decoded rest)

pub fine-start : (s : List ℕ) → Fine s s
fine-start s = record { holds = refl }

empty-no-word : (s : List ℕ) → length s ≡ 0 → false ≡ is_word (decoded s)
unfolding is_word decoded_past
empty-no-word [] h = refl
empty-no-word (x ∷ s) h = absurd (omega arith)

word-when : (s : List ℕ) → 0 < length s → is_word (decoded s) ≡ each in_word (decoded s)
unfolding is_word
word-when s h = ap is_word (decoded-step s h) ∙ ap (each in_word) (sym (decoded-step s h))

module _ (s rest : List ℕ) (f : Fine s rest) where
  module _ (b : ℕ) (behind : List ℕ) (p : decoded rest ≡ b ∷ decoded behind) (t : Bool) (e : t ≡ in_word b) where
    each_at : each in_word (decoded rest) ≡ (in_word b && each in_word (decoded behind))
    unfolding each
    each_at = ap (each in_word) p

    pub fine_more : t ≡ true → Fine s behind
    fine_more q = record { holds = f.holds ∙ (each_at ∙ rw (← e, q)) }

    pub fine-not : 0 < length s → t ≡ false → false ≡ is_word (decoded s)
    fine-not h q = sym (word-when s h ∙ (f.holds ∙ (each_at ∙ rw (← e, q))))

  pub fine-done : rest ≡ [] → not (eqb (length s) 0) ≡ is_word (decoded s)
  unfolding each is_word decoded_past
  fine-done h = go (eqb (length s) 0) refl
    where
      go : (t : Bool) → eqb (length s) 0 ≡ t → not (eqb (length s) 0) ≡ is_word (decoded s)
      go true q = rw q (empty-no-word s (eqb-true (length s) 0 q))
      go false q = rw q (sym (word-when s (omega (arith, eqb-false (length s) 0 q)) ∙ (f.holds ∙ rw h)))

-- ==== all bytes between quotes

module _ (old part out : List ℕ) (to n : ℕ) (rest : List ℕ) (g : Going old to (quoted_bytes (decoded part)) out n (quoted_bytes (decoded rest))) where
  pub quoted-more : length old < 2 ^ 64 → (b : ℕ) (behind : List ℕ) → decoded rest ≡ b ∷ decoded behind → (out' : List ℕ) (n' : ℕ) → Clipped out n (quoted_byte b) out' n'
      → Going old to (quoted_bytes (decoded part)) out' n' (quoted_bytes (decoded behind))
  unfolding quoted_bytes
  quoted-more l b behind p out' n' w = going_step (omega arith) g (ap quoted_bytes p) w

  pub quoted-done : rest ≡ [] → Clipped old to (quoted_bytes (decoded part)) out n
  unfolding quoted_bytes decoded_past
  quoted-done h = going_done g (rw h)

-- ==== the text

module _ (part old : List ℕ) (to : ℕ) (t : Bool) (e : t ≡ is_word (decoded part)) where
  pub bare-put : t ≡ true → (new : List ℕ) (r : ℕ) → Clipped old to (quoted_bytes (decoded part)) new r → Clipped old to (shown part) new r
  bare-put q new r v = rw (shown-word (decoded part) (sym e ∙ q)) (rw (words-alike (decoded part) (sym e ∙ q)) at v)

  pub quotes-put : t ≡ false → length old < 2 ^ 64 → (o₁ : List ℕ) (a : ℕ) → Clipped old to (34 ∷ []) o₁ a → (o₂ : List ℕ) (b : ℕ) → Clipped o₁ a (quoted_bytes (decoded part)) o₂ b
      → (new : List ℕ) (r : ℕ) → Clipped o₂ b (34 ∷ []) new r → Clipped old to (shown part) new r
  quotes-put q h o₁ a u o₂ b v new r w = rw (shown-quoted (decoded part) (sym e ∙ q)) (clipped-then (omega arith) u (clipped-then (omega (arith, clipped-long u)) v w))
