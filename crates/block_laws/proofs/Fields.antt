-- The fields of a block that is not refused are its bytes, and the bytes of sound fields walk back to exactly these fields; so with those
-- of the fields that pass a test. By induction on the block and on the fields.
use Prim.Native.Nat.{ℕ, zero, suc, ◌+◌, ◌-◌, ◌≤◌, ◌<◌, zero-le, suc-le-suc}
use native.Mathlib.Nat.{le_of_suc-le-suc, not-suc-le-zero}
use native.Mathlib.Omega.{arith}
use mathlib.Core.Path.{◌≡◌, refl, ap, ◌∙◌}
use mathlib.Core.Bool.{Bool, true, false, not}
use mathlib.Core.List.{List, [], ◌∷◌, ◌++◌}
use lib.ListN.{length, get_or, drop, take, length-append, take-append-drop, get_or-append}
use lib.Seq.{drop-append_seam}
use Rattle.base_readers.specs.Walks.{Met, item, refused, Walked, walk}
use Rattle.base_readers.proofs.Walks.{walk-item, walk_end}
use Rattle.lexis_rules.specs.declared.Class.TheVariants.{Blank}
use Rattle.lexis_rules.specs.Bytes.{in_class}
use Rattle.lexis_laws.proofs.Bytes.{class-zero}
use Rattle.block_rules.specs.Fields.{Field, field_limit, field_at, fields, bytes_of, select}
use Rattle.block_rules.specs.Sound.{Sound, AllSound, none, more}
use Rattle.block_laws.proofs.Field.{shown, field-size, field-bytes, field_below, field-sound}

-- a refusal's number is one of 2 to 4
pub refusal : (at count : ℕ) (xs : List ℕ) (n p : ℕ) → field_at at count xs ≡ refused n p → (2 ≤ n) × (n ≤ 4)
refusal at count xs n p e = rw e at (shown at count xs)

-- so a walk's answer is 4 at most
walk-four : (at count k : ℕ) (xs : List ℕ) → (walk field_at at count k xs).number ≤ 4
unfolding walk
walk-four at count zero [] = zero-le
walk-four at count (suc k) [] = zero-le
walk-four at count (suc k) (x ∷ xs) = walk-four (suc at) count k xs
walk-four at count zero (x ∷ xs) = go (λ k. walk-four (suc at) (suc count) k xs) (field_at at count (x ∷ xs)) refl
  where
    go : ((k : ℕ) → (walk field_at (suc at) (suc count) k xs).number ≤ 4) → (m : Met Field) → field_at at count (x ∷ xs) ≡ m
        → (walk field_at at count zero (x ∷ xs)).number ≤ 4
    go ih (refused n p) e = rw (walk, e) (refusal at count (x ∷ xs) n p e).1
    go ih (item f n) e = rw (walk, e) (ih (n - 1))

-- and where it is not 0, one of 2 to 4
walk-numbers : (at count k : ℕ) (xs : List ℕ) (m : ℕ) → (walk field_at at count k xs).number ≡ suc m → (2 ≤ suc m) × (suc m ≤ 4)
unfolding walk
walk-numbers at count zero [] m e = absurd (omega arith)
walk-numbers at count (suc k) [] m e = absurd (omega arith)
walk-numbers at count (suc k) (x ∷ xs) m e = walk-numbers (suc at) count k xs m e
walk-numbers at count zero (x ∷ xs) m e = go (λ k. walk-numbers (suc at) (suc count) k xs m) (field_at at count (x ∷ xs)) refl
  where
    go : ((k : ℕ) → (walk field_at (suc at) (suc count) k xs).number ≡ suc m → (2 ≤ suc m) × (suc m ≤ 4)) → (y : Met Field) → field_at at count (x ∷ xs) ≡ y
        → (2 ≤ suc m) × (suc m ≤ 4)
    go ih (refused n p) q =
        let r = refusal at count (x ∷ xs) n p q in
        let z : n ≡ suc m = rw (walk, q) at e in
        (omega (arith, r.0), omega (arith, r.1))
    go ih (item f n) q = ih (n - 1) (rw (walk, q) at e)

pub fields-numbers : (block : List ℕ) (n : ℕ) → (fields block).number ≡ suc n → (2 ≤ suc n) × (suc n ≤ 4)
fields-numbers block n e = walk-numbers 0 0 0 block n e

pub fields-four : (block : List ℕ) → (fields block).number ≤ 4
fields-four block = walk-four 0 0 0 block

-- ==== a block is its fields

-- the fields of a walk that came to the end
pub record Fine (count : ℕ) (fs : List Field) (xs : List ℕ) : Type 0 where
  pub bytes : bytes_of fs ≡ xs
  pub sound : AllSound fs
  pub few : count + length fs ≤ field_limit

fine_more : (count : ℕ) (f : Field) (fs : List Field) (y ys : List ℕ) → Sound f → f.bytes ≡ y → Fine (suc count) fs ys → Fine count (f ∷ fs) (y ++ ys)
unfolding bytes_of
fine_more count f fs y ys s e w = record { bytes = rw (e, w.bytes); sound = more s w.sound; few = omega (arith, w.few) }

pub walk_fine : (at count k : ℕ) (xs : List ℕ) → k ≤ length xs → count ≤ field_limit → (walk field_at at count k xs).number ≡ 0
    → Fine count (walk field_at at count k xs).items (drop k xs)
unfolding walk bytes_of
walk_fine at count zero [] h c z = record { bytes = refl; sound = none; few = omega arith }
walk_fine at count (suc k) [] h c z = absurd (not-suc-le-zero h)
walk_fine at count (suc k) (x ∷ xs) h c z = walk_fine (suc at) count k xs (le_of_suc-le-suc h) c z
walk_fine at count zero (x ∷ xs) h c z = go (λ k. walk_fine (suc at) (suc count) k xs) (field_at at count (x ∷ xs)) refl
  where
    go : ((k : ℕ) → k ≤ length xs → suc count ≤ field_limit → (walk field_at (suc at) (suc count) k xs).number ≡ 0 → Fine (suc count) (walk field_at (suc at) (suc count) k xs).items (drop k xs))
        → (m : Met Field) → field_at at count (x ∷ xs) ≡ m → Fine count (walk field_at at count zero (x ∷ xs)).items (x ∷ xs)
    go ih (refused n p) e = absurd (let o : n ≡ 0 = rw (walk, e) at z in omega (arith, (refusal at count (x ∷ xs) n p e).0))
    go ih (item f zero) e = absurd (let o : 0 < 0 = (field-size at count (x ∷ xs) f 0 e).0 in omega arith)
    go ih (item f (suc n)) e =
        let s = field-size at count (x ∷ xs) f (suc n) e in
        let d : suc n - 1 ≡ n = omega arith in
        let r : (walk field_at (suc at) (suc count) n xs).number ≡ 0 = rw (walk, e, d) at z in
        let t : take (suc n) (x ∷ xs) ++ drop n xs ≡ x ∷ xs = take-append-drop (suc n) (x ∷ xs) in
        let w = fine_more count f (walk field_at (suc at) (suc count) n xs).items (take (suc n) (x ∷ xs)) (drop n xs)
        (field-sound at count (x ∷ xs) f (suc n) e) (field-bytes at count (x ∷ xs) f (suc n) e)
        (ih n (le_of_suc-le-suc s.1) (field_below at count (x ∷ xs) f (suc n) e) r) in
        rw (walk, e, d) (rw t at w)

pub fields-fine : (block : List ℕ) → (fields block).number ≡ 0 → Fine 0 (fields block).items block
fields-fine block z = walk_fine 0 0 0 block zero-le zero-le z

-- ==== and back

pub first-sound : {fs : List Field} → AllSound fs → in_class Blank (get_or (bytes_of fs) 0 0) ≡ false
unfolding bytes_of
first-sound none = class-zero Blank
first-sound (more {f} {fs} s a) = rw (get_or-append f.bytes (bytes_of fs) 0 0 s.some) s.first

pub walk-back : (at count : ℕ) {fs : List Field} → AllSound fs → count + length fs ≤ field_limit
    → walk field_at at count 0 (bytes_of fs) ≡ record { items = fs; number = 0; place = 0 }
unfolding bytes_of
walk-back at count none h = walk_end field_at at count
walk-back at count (more {f} {fs} s a) h =
    let l : 0 < length (f.bytes ++ bytes_of fs) = rw length-append (omega (arith, s.some)) in
    walk-item field_at at count (f.bytes ++ bytes_of fs) f (length f.bytes) l s.some (s.steady at count (bytes_of fs) (omega arith) (first-sound a))
    ∙ rw (drop-append_seam f.bytes (bytes_of fs), walk-back (at + length f.bytes) (suc count) a (omega arith))

-- so where nothing is refused the place is 0
pub fields-place : (block : List ℕ) → (fields block).number ≡ 0 → (fields block).place ≡ 0
fields-place block z =
    let w = fields-fine block z in
    let b : fields block ≡ record { items = (fields block).items; number = 0; place = 0 } = rw w.bytes at (walk-back 0 0 w.sound w.few) in
    ap (λ (v : Walked Field). v.place) b

-- ==== those of the fields that pass a test

module _ (p : Field → Bool) (f : Field) (fs : List Field) where
  pub select_yes : p f ≡ true → select p (f ∷ fs) ≡ f ∷ select p fs
  unfolding select
  select_yes e = rw (select, e)

  pub select_no : p f ≡ false → select p (f ∷ fs) ≡ select p fs
  unfolding select
  select_no e = rw (select, e)

pub select-sound : (p : Field → Bool) {fs : List Field} → AllSound fs → AllSound (select p fs)
unfolding select
select-sound p none = none
select-sound p (more {f} {fs} s a) = go (p f) refl (select-sound p a)
  where
    go : (t : Bool) → p f ≡ t → AllSound (select p fs) → AllSound (select p (f ∷ fs))
    go true e ih = rw (select_yes p f fs e) (more s ih)
    go false e ih = rw (select_no p f fs e) ih

pub select-few : (p : Field → Bool) (fs : List Field) → length (select p fs) ≤ length fs
unfolding select
select-few p [] = zero-le
select-few p (f ∷ fs) = go (p f) refl (select-few p fs)
  where
    go : (t : Bool) → p f ≡ t → length (select p fs) ≤ length fs → length (select p (f ∷ fs)) ≤ suc (length fs)
    go true e ih = rw (select_yes p f fs e) (suc-le-suc ih)
    go false e ih = rw (select_no p f fs e) (omega arith)

-- they are the fields of their bytes, and that block is not refused
pub select-fields : (p : Field → Bool) (block : List ℕ) → (fields block).number ≡ 0
    → fields (bytes_of (select p (fields block).items)) ≡ record { items = select p (fields block).items; number = 0; place = 0 }
select-fields p block z =
    let w = fields-fine block z in
    walk-back 0 0 (select-sound p w.sound) (omega (arith, w.few, select-few p (fields block).items))

-- two tests, of which each field passes one
pub select-sum : (p : Field → Bool) (fs : List Field) → length (bytes_of (select (λ f. not (p f)) fs)) + length (bytes_of (select p fs)) ≡ length (bytes_of fs)
unfolding select bytes_of
select-sum p [] = refl
select-sum p (f ∷ fs) = go (p f) refl (select-sum p fs)
  where
    go : (t : Bool) → p f ≡ t → length (bytes_of (select (λ g. not (p g)) fs)) + length (bytes_of (select p fs)) ≡ length (bytes_of fs)
        → length (bytes_of (select (λ g. not (p g)) (f ∷ fs))) + length (bytes_of (select p (f ∷ fs))) ≡ length (f.bytes ++ bytes_of fs)
    go true e ih = rw (select, e) (omega (arith, length-append f.bytes (bytes_of (select p fs)), length-append f.bytes (bytes_of fs)))
    go false e ih = rw (select, e) (omega (arith, length-append f.bytes (bytes_of (select (λ g. not (p g)) fs)), length-append f.bytes (bytes_of fs)))

-- once more changes nothing
pub select-again : (p : Field → Bool) (fs : List Field) → select p (select p fs) ≡ select p fs
unfolding select
select-again p [] = refl
select-again p (f ∷ fs) = go (p f) refl (select-again p fs)
  where
    go : (t : Bool) → p f ≡ t → select p (select p fs) ≡ select p fs → select p (select p (f ∷ fs)) ≡ select p (f ∷ fs)
    go true e ih = rw (select_yes p f fs e, select_yes p f (select p fs) e) (ap (◌∷◌ f) ih)
    go false e ih = rw (select_no p f fs e) ih

-- of those that fail none passes
pub select-none : (p : Field → Bool) (fs : List Field) → select p (select (λ f. not (p f)) fs) ≡ []
unfolding select
select-none p [] = refl
select-none p (f ∷ fs) = go (p f) refl (select-none p fs)
  where
    go : (t : Bool) → p f ≡ t → select p (select (λ g. not (p g)) fs) ≡ [] → select p (select (λ g. not (p g)) (f ∷ fs)) ≡ []
    go true e ih = rw (select, e) ih
    go false e ih = rw (select, e) (rw (select, e) ih)
