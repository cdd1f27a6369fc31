-- What a block gives stands in it: its fields are sound, 512 at most, and their bytes are a front of the block; its last answer is one of 0 to
-- 4. By induction on the block.
use Prim.Native.Nat.{ℕ, zero, suc, ◌+◌, ◌-◌, ◌≤◌, ◌<◌, zero-le}
use native.Mathlib.Nat.{le_of_suc-le-suc, not-suc-le-zero}
use native.Mathlib.Omega.{arith}
use mathlib.Core.Path.{◌≡◌, refl, sym, ap, ◌∙◌}
use mathlib.Core.Bool.{Bool, true, false}
use mathlib.Core.List.{List, [], ◌∷◌, ◌++◌, append_assoc}
use lib.Dec.{ltb}
use lib.ListN.{length, drop, take, length-append, take-append-drop}
use Rattle.base_readers.specs.Walks.{Met, item, refused, walk}
use Rattle.lexis_rules.specs.Limits.{byte_limit}
use Rattle.block_rules.specs.Fields.{Field, field_limit, field_at, bytes_of}
use Rattle.block_rules.specs.Sound.{Sound, AllSound, none, more}
use Rattle.block_laws.proofs.Fields.{fields-four}
use Rattle.block_laws.proofs.Field.{field-size, field-bytes, field_below, field-sound}
use Rattle.block_walk_rules.specs.Steps.{given}
use Rattle.block_walk_rules.specs.Whole.{AllBefore}
use Rattle.block_walk_rules.proofs.Firsts.{given-long, given-fields}

-- fields that are sound and not too many, after so many others, and whose bytes are the front of a list
pub record Stand (count : ℕ) (fs : List Field) (xs : List ℕ) : Type 0 where
  pub sound : AllSound fs
  pub few : count + length fs ≤ field_limit
  pub rest : List ℕ
  pub bytes : bytes_of fs ++ rest ≡ xs

stand-none : (count : ℕ) (xs : List ℕ) → count ≤ field_limit → Stand count [] xs
unfolding bytes_of
stand-none count xs h = record { sound = none; few = omega arith; rest = xs; bytes = refl }

stand-more : (count : ℕ) (f : Field) (fs : List Field) (y ys : List ℕ) → Sound f → f.bytes ≡ y → Stand (suc count) fs ys → Stand count (f ∷ fs) (y ++ ys)
unfolding bytes_of
stand-more count f fs y ys s e w =
    record {
      sound = more s w.sound;
      few = omega (arith, w.few);
      rest = w.rest;
      bytes = append_assoc f.bytes (bytes_of fs) w.rest ∙ rw (e, w.bytes);
    }

walk-stand : (at count k : ℕ) (xs : List ℕ) → k ≤ length xs → count ≤ field_limit → Stand count (walk field_at at count k xs).items (drop k xs)
unfolding walk
walk-stand at count zero [] h c = stand-none count [] c
walk-stand at count (suc k) [] h c = absurd (not-suc-le-zero h)
walk-stand at count (suc k) (x ∷ xs) h c = walk-stand (suc at) count k xs (le_of_suc-le-suc h) c
walk-stand at count zero (x ∷ xs) h c = go (λ k. walk-stand (suc at) (suc count) k xs) (field_at at count (x ∷ xs)) refl
  where
    go : ((k : ℕ) → k ≤ length xs → suc count ≤ field_limit → Stand (suc count) (walk field_at (suc at) (suc count) k xs).items (drop k xs))
        → (m : Met Field) → field_at at count (x ∷ xs) ≡ m → Stand count (walk field_at at count zero (x ∷ xs)).items (x ∷ xs)
    go ih (refused n p) e = rw (walk, e) (stand-none count (x ∷ xs) c)
    go ih (item f zero) e = absurd (let o : 0 < 0 = (field-size at count (x ∷ xs) f 0 e).0 in omega arith)
    go ih (item f (suc n)) e =
        let s = field-size at count (x ∷ xs) f (suc n) e in
        let d : suc n - 1 ≡ n = omega arith in
        let t : take (suc n) (x ∷ xs) ++ drop n xs ≡ x ∷ xs = take-append-drop (suc n) (x ∷ xs) in
        let w = stand-more count f (walk field_at (suc at) (suc count) n xs).items (take (suc n) (x ∷ xs)) (drop n xs)
        (field-sound at count (x ∷ xs) f (suc n) e) (field-bytes at count (x ∷ xs) f (suc n) e)
        (ih n (le_of_suc-le-suc s.1) (field_below at count (x ∷ xs) f (suc n) e)) in
        rw (walk, e, d) (rw t at w)

pub given-stand : (block : List ℕ) → Stand 0 (given block).items block
given-stand block = go (ltb byte_limit (length block)) refl
  where
    go : (t : Bool) → ltb byte_limit (length block) ≡ t → Stand 0 (given block).items block
    go true e = rw (given-long block e) (stand-none 0 block zero-le)
    go false e = rw (given-fields block e) (walk-stand 0 0 0 block zero-le zero-le)

-- ==== the last answer

pub given-four : (block : List ℕ) → (given block).number ≤ 4
given-four block = go (ltb byte_limit (length block)) refl
  where
    go : (t : Bool) → ltb byte_limit (length block) ≡ t → (given block).number ≤ 4
    go true e = rw (given-long block e) (omega arith)
    go false e = rw (given-fields block e) (fields-four block)

-- ==== fields one after the other

pub bytes-append : (fs gs : List Field) → bytes_of (fs ++ gs) ≡ bytes_of fs ++ bytes_of gs
unfolding bytes_of
bytes-append [] gs = refl
bytes-append (f ∷ fs) gs = ap (λ (l : List ℕ). f.bytes ++ l) (bytes-append fs gs) ∙ sym (append_assoc f.bytes (bytes_of fs) (bytes_of gs))

pub bytes-long : (fs : List Field) (f : Field) (gs : List Field)
    → length (bytes_of (fs ++ (f ∷ gs))) ≡ length (bytes_of fs) + length f.bytes + length (bytes_of gs)
unfolding bytes_of
bytes-long fs f gs =
    rw (bytes-append fs (f ∷ gs)) (omega (arith, length-append (bytes_of fs) (f.bytes ++ bytes_of gs), length-append f.bytes (bytes_of gs)))

pub sound-front : (fs gs : List Field) → AllSound (fs ++ gs) → AllSound fs
sound-front [] gs a = none
sound-front (f ∷ fs) gs (more s a) = more s (sound-front fs gs a)

-- sound fields start before the place where they end
pub sound-before : (at : ℕ) {fs : List Field} → AllSound fs → AllBefore (at + length (bytes_of fs)) at fs
unfolding bytes_of
sound-before at none = tt
sound-before at (more {f} {fs} s a) =
    let l : at + length f.bytes + length (bytes_of fs) ≡ at + length (f.bytes ++ bytes_of fs) = omega (arith, length-append f.bytes (bytes_of fs)) in
    (omega (arith, l, s.some), rw l at (sound-before (at + length f.bytes) a))

-- what starts before a place starts before every later one
pub before-later : (place later at : ℕ) (fs : List Field) → place ≤ later → AllBefore place at fs → AllBefore later at fs
before-later place later at [] h b = tt
before-later place later at (f ∷ fs) h b = (omega (arith, b.0), before-later place later (at + length f.bytes) fs h b.1)
