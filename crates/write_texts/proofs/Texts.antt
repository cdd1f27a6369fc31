-- Texts that are stored byte by byte: what the loop keeps, one turn, and the end; then the whole text, bare or quoted.
use Prim.Native.Nat.{ℕ, ◌+◌, ◌^◌, ◌<◌}
use native.Mathlib.Omega.{arith}
use mathlib.Core.Path.{◌≡◌, refl, sym, ap, ◌∙◌}
use mathlib.Core.Bool.{Bool, true, false, ◌||◌}
use mathlib.Core.List.{List, [], ◌∷◌, ◌++◌}
use lib.Dec.{eqb}
use lib.ListN.{length, drop}
use borrow.Author.Tests.{ne_eqb}
use mir.Syntax.{w64}
use mir.Val as machine
use Rattle.base_sequences.specs.Stored.{Clipped}
use Rattle.base_sequences.proofs.Clips.{Going, going_start, going_step, going_done, clipped-then, clipped-long}
use Rattle.base_readers.specs.Texts.{bytes, one_of}
use Rattle.write_rules.specs.Bodies.{guarded, quote, bare_or}
use Rattle.std.specs.Prelude.{Some, None}
use Rattle.write_columns.specs.declared.coded.Code.{Code}
use Rattle.write_columns.specs.Internal.{code_at, text_of}
use Rattle.write_columns.proofs.Codes.{text-none, text-more}
use Rattle.write_texts.specs.Internal.{guarded_if}

-- ==== bytes that need a backslash

pub guard-quote : (b : ℕ) → b ≡ 34 → true ≡ one_of (bytes "\"\\") b
unfolding one_of
guard-quote b e = rw e

pub guard-other : (b : ℕ) → (b ≡ 34 → ⊥) → eqb b 92 ≡ one_of (bytes "\"\\") b
unfolding one_of
guard-other b ne = rw (ne_eqb b 34 ne) (go (eqb b 92))
  where
    go : (a : Bool) → a ≡ (a || false)
    go true = refl
    go false = refl

-- ==== one byte

module _ (b to : ℕ) (q : Bool) (o₀ : List ℕ) where
  pub put-bare : q ≡ false → (o₁ : List ℕ) (n : ℕ) → Clipped o₀ to (b ∷ []) o₁ n → Clipped o₀ to (guarded_if q (b ∷ [])) o₁ n
  unfolding guarded_if
  put-bare f o₁ n w = rw f w

  module _ (t : q ≡ true) (r : Bool) (p : r ≡ one_of (bytes "\"\\") b) where
    pub put-unguarded : r ≡ false → (o₁ : List ℕ) (n : ℕ) → Clipped o₀ to (b ∷ []) o₁ n → Clipped o₀ to (guarded_if q (b ∷ [])) o₁ n
    unfolding guarded_if guarded
    put-unguarded f o₁ n w = let e : one_of (bytes "\"\\") b ≡ false = sym p ∙ f in rw (t, guarded, e) w

    pub put_both : r ≡ true → length o₀ < 2 ^ 64 → (o₁ : List ℕ) (n : ℕ) → Clipped o₀ to (92 ∷ []) o₁ n → (o₂ : List ℕ) (m : ℕ) → Clipped o₁ n (b ∷ []) o₂ m
        → Clipped o₀ to (guarded_if q (b ∷ [])) o₂ m
    unfolding guarded_if guarded
    put_both y h o₁ n v o₂ m w = let e : one_of (bytes "\"\\") b ≡ true = sym p ∙ y in rw (t, guarded, e) (clipped-then (omega (arith, h)) v w)

-- ==== the loop: what is left

guarded-cons : (b : ℕ) (t : List ℕ) → guarded (b ∷ t) ≡ guarded (b ∷ []) ++ guarded t
unfolding guarded
guarded-cons b t = go (one_of (bytes "\"\\") b) refl
  where
    go : (x : Bool) → one_of (bytes "\"\\") b ≡ x → guarded (b ∷ t) ≡ guarded (b ∷ []) ++ guarded t
    go true e = rw (guarded, e)
    go false e = rw (guarded, e)

guarded-more : (q : Bool) (b : ℕ) (t : List ℕ) → guarded_if q (b ∷ t) ≡ guarded_if q (b ∷ []) ++ guarded_if q t
unfolding guarded_if
guarded-more true b t = guarded-cons b t
guarded-more false b t = refl

guarded-none : (q : Bool) → guarded_if q [] ≡ []
unfolding guarded_if guarded
guarded-none true = refl
guarded-none false = refl

-- what stands in the buffer and at a place of it, and what is still to be stored
pub record Texting (s : List ℕ) (at : ℕ) (q : Bool) (old : List ℕ) (to : ℕ) (out : List ℕ) (i m : ℕ) : Type 0 where
  pub going : Going old to (guarded_if q (text_of (drop at s))) out m (guarded_if q (text_of (drop i s)))

pub texting-start : (s : List ℕ) (at : ℕ) (q : Bool) (old : List ℕ) (to : ℕ) → machine.Fits w64 to → Texting s at q old to old at to
texting-start s at q old to h = record { going = going_start old to (guarded_if q (text_of (drop at s))) (omega (arith, h)) }

module _ (s : List ℕ) (at : ℕ) (q : Bool) (old : List ℕ) (to : ℕ) (out : List ℕ) (i m : ℕ) (w : Texting s at q old to out i m) where
  pub texting-long : length out ≡ length old
  texting-long = w.going.long

  pub texting-done : None ≡ code_at (drop i s) → Clipped old to (guarded_if q (text_of (drop at s))) out m
  texting-done e = going_done w.going (ap (guarded_if q) (text-none s i e) ∙ guarded-none q)

  module _ (c : Code) (e : Some c ≡ code_at (drop i s)) where
    pub texting-more : length old < 2 ^ 64 → (out' : List ℕ) (m' : ℕ) → Clipped out m (guarded_if q (c.value ∷ [])) out' m'
        → Texting s at q old to out' (i + c.size) m'
    texting-more h out' m' k =
        record {
          going =
              going_step (omega (arith, h)) w.going (ap (guarded_if q) (text-more s i c e) ∙ guarded-more q c.value (text_of (drop (i + c.size) s))) k;
        }

-- ==== the whole text

module _ (t : List ℕ) (bare : Bool) (to : ℕ) (o₀ : List ℕ) where
  pub value-bare : bare ≡ true → (o₁ : List ℕ) (n : ℕ) → Clipped o₀ to (guarded_if false t) o₁ n → Clipped o₀ to (bare_or bare t) o₁ n
  unfolding bare_or guarded_if
  value-bare e o₁ n w = rw e w

  pub value-quoted : bare ≡ false → length o₀ < 2 ^ 64 → (o₁ : List ℕ) (n : ℕ) → Clipped o₀ to (34 ∷ []) o₁ n → (o₂ : List ℕ) (m : ℕ) → Clipped o₁ n (guarded_if true t) o₂ m
      → (o₃ : List ℕ) (k : ℕ) → Clipped o₂ m (34 ∷ []) o₃ k → Clipped o₀ to (bare_or bare t) o₃ k
  unfolding bare_or guarded_if quote
  value-quoted e h o₁ n u o₂ m v o₃ k w = rw e (clipped-then (omega (arith, h)) u (clipped-then (omega (arith, h, clipped-long u)) v w))
