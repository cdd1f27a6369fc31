-- What is known by what became of the text of a first pass, and the other way round.
use Prim.Native.Nat.{ℕ, ◌≤◌, ◌<◌}
use mathlib.Core.Path.{◌≡◌, refl, sym, ap, ◌∙◌}
use mathlib.Core.Bool.{Bool, true, false}
use mathlib.Core.List.{List}
use borrow.Author.Tests.{lt-ltb, le-ltb, ltb-true, ltb-false}
use lib.Dec.{ltb}
use lib.ListN.{length, take}
use lib.Seq.{sets}
use Rattle.base_sequences.specs.Stored.{Put}
use Rattle.text_first_pass.specs.declared.Copy.{Copy}
use Rattle.text_first_pass.specs.declared.Copy.TheVariants.{Short, Again, Done}
use Rattle.text_first_pass.specs.Copies.{copy_of, copy_leaves}

-- ==== the three ways out

module _ (first : List ℕ) (size : ℕ) (old : List ℕ) where
  pub is-short : length old < size → Short ≡ copy_of (length first) size (length old)
  unfolding copy_of
  is-short h = rw (copy_of, lt-ltb (length old) size h)

  pub is-again : size ≤ length old → length first < size → Again ≡ copy_of (length first) size (length old)
  unfolding copy_of
  is-again h k = rw (copy_of, le-ltb (length old) size h, lt-ltb (length first) size k)

  pub is-done : size ≤ length old → size ≤ length first → Done ≡ copy_of (length first) size (length old)
  unfolding copy_of
  is-done h k = rw (copy_of, le-ltb (length old) size h, le-ltb (length first) size k)

  pub leaves-short : old ≡ copy_leaves Short first size old
  unfolding copy_leaves
  leaves-short = refl

  pub leaves-again : old ≡ copy_leaves Again first size old
  unfolding copy_leaves
  leaves-again = refl

  pub leaves-done : (new : List ℕ) (n : ℕ) → Put old 0 (take size first) new n → new ≡ copy_leaves Done first size old
  unfolding copy_leaves
  leaves-done new n p = p.bytes

-- ==== for callers: r is what became of it

pub record Shorter (size : ℕ) (old new : List ℕ) : Type 0 where
  pub more : length old < size
  pub same : new ≡ old

pub record Further (size : ℕ) (old new : List ℕ) : Type 0 where
  pub fits : size ≤ length old
  pub same : new ≡ old

pub record Copied (first : List ℕ) (size : ℕ) (old new : List ℕ) : Type 0 where
  pub fits : size ≤ length old
  pub whole : size ≤ length first
  pub text : new ≡ sets old 0 (take size first)

module _ (first : List ℕ) (size : ℕ) (old new : List ℕ) (r : Copy) (e : r ≡ copy_of (length first) size (length old)) (l : new ≡ copy_leaves r first size old) where
  pub when-short : r ≡ Short → Shorter size old new
  unfolding copy_of copy_leaves
  when-short q = go (ltb (length old) size) (ltb (length first) size) refl refl
    where
      same : new ≡ old
      same = l ∙ ap (λ (c : Copy). copy_leaves c first size old) q

      go : (a b : Bool) → ltb (length old) size ≡ a → ltb (length first) size ≡ b → Shorter size old new
      go true b i j = record { more = ltb-true (length old) size i; same = same }
      go false true i j = absurd (let z : Short ≡ Again = sym q ∙ (e ∙ rw (copy_of, i, j)) in cc)
      go false false i j = absurd (let z : Short ≡ Done = sym q ∙ (e ∙ rw (copy_of, i, j)) in cc)

  pub when-again : r ≡ Again → Further size old new
  unfolding copy_of copy_leaves
  when-again q = go (ltb (length old) size) refl
    where
      same : new ≡ old
      same = l ∙ ap (λ (c : Copy). copy_leaves c first size old) q

      go : (a : Bool) → ltb (length old) size ≡ a → Further size old new
      go true i = absurd (let z : Again ≡ Short = sym q ∙ (e ∙ rw (copy_of, i)) in cc)
      go false i = record { fits = ltb-false (length old) size i; same = same }

  pub when-done : r ≡ Done → Copied first size old new
  unfolding copy_of copy_leaves
  when-done q = go (ltb (length old) size) (ltb (length first) size) refl refl
    where
      stored : new ≡ sets old 0 (take size first)
      stored = l ∙ ap (λ (c : Copy). copy_leaves c first size old) q

      go : (a b : Bool) → ltb (length old) size ≡ a → ltb (length first) size ≡ b → Copied first size old new
      go true b i j = absurd (let z : Done ≡ Short = sym q ∙ (e ∙ rw (copy_of, i)) in cc)
      go false true i j = absurd (let z : Done ≡ Again = sym q ∙ (e ∙ rw (copy_of, i, j)) in cc)
      go false false i j = record { fits = ltb-false (length old) size i; whole = ltb-false (length first) size j; text = stored }
