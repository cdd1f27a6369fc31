-- What the reader promises beyond its contracts. Each theorem is about the definitions that the contracts of `block_walk::field_from` and of
-- `Fields` cite.
use Prim.Native.Nat.{ℕ, zero, suc, ◌+◌, ◌≤◌, ◌<◌}
use native.Mathlib.Nat.{zero-add}
use native.Mathlib.Omega.{arith}
use mathlib.Core.Path.{◌≡◌, refl, sym, ap, ◌∙◌}
use mathlib.Core.List.{List, [], ◌∷◌, ◌++◌, append_assoc, append-nil}
use mathlib.Core.Bool.{Bool, true, false}
use borrow.Author.Tests.{lt-ltb, le-ltb, ltb-true, ltb-false}
use lib.Dec.{ltb}
use Rattle.base_readers.specs.Walks.{Walked}
use lib.ListN.{length, drop, take, length-append}
use lib.Seq.{take-append_seam, drop-append_seam}
use Rattle.lexis_rules.specs.Limits.{byte_limit}
use Rattle.block_rules.specs.Fields.{Field, field_limit, fields, bytes_of}
use Rattle.block_rules.specs.Sound.{AllSound}
use Rattle.block_laws.proofs.Fields.{fields-numbers, fields-fine, walk-back}
use Rattle.block_walk_rules.specs.declared.Step.{Step}
use Rattle.block_walk_rules.specs.declared.Step.TheVariants.{Last}
use Rattle.block_walk_rules.specs.Steps.{given, last_of, placed, first_from, step_from, past_of, past_from}
use Rattle.block_walk_rules.specs.Whole.{steps_from, in_order, AllBefore, First, found, none}
use Rattle.block_walk_rules.proofs.Firsts.{given-long, given-fields, first-none, first-here, first-behind, first-is}
use Rattle.block_walk_rules.proofs.Given.{given-stand, given-four, bytes-append, bytes-long, sound-front, sound-before, before-later}

-- From any place, also one that was made up, a step gives the first of the block's fields that starts there or later, or else the last answer.
pub step-any : (block : List ℕ) (place : ℕ) → First place 0 (given block).items (last_of (given block)) (step_from block place)
step-any block place = first-is place 0 (given block).items (last_of (given block))

-- Where f is that field, behind fields that start before the place, the step gives f by its places;
pub step-first : (block : List ℕ) (place : ℕ) (xs : List Field) (f : Field) (ys : List Field) → (given block).items ≡ xs ++ (f ∷ ys)
    → place ≤ length (bytes_of xs) → AllBefore place 0 xs → step_from block place ≡ placed (length (bytes_of xs)) f
step-first block place xs f ys e h b =
    rw e (first-behind place xs (f ∷ ys) (last_of (given block)) b ∙ first-here place (length (bytes_of xs)) f ys (last_of (given block)) h)

-- where all fields start before the place, it gives the last answer.
pub step-last : (block : List ℕ) (place : ℕ) → AllBefore place 0 (given block).items → step_from block place ≡ last_of (given block)
step-last block place b =
    let xs = (given block).items in
    ap (λ (l : List Field). first_from place 0 l (last_of (given block))) (sym (append-nil xs))
    ∙ (first-behind place xs [] (last_of (given block)) b ∙ first-none place (length (bytes_of xs)) (last_of (given block)))

before-end : (fs : List Field) → AllSound fs → AllBefore (length (bytes_of fs)) 0 fs
before-end fs a = rw (zero-add (length (bytes_of fs))) at (sound-before 0 a)

module _ (block : List ℕ) (xs : List Field) (f : Field) (ys : List Field) (e : (given block).items ≡ xs ++ (f ∷ ys)) where
  -- The step from the end of the fields xs gives the field after them,
  pub step-next : step_from block (length (bytes_of xs)) ≡ placed (length (bytes_of xs)) f
  step-next =
      step-first block (length (bytes_of xs)) xs f ys e (omega arith) (before-end xs (sound-front xs (f ∷ ys) (rw e at (given-stand block).sound)))

  -- and the reader is handed back at that field's end.
  pub past_next : past_from block (length (bytes_of xs)) ≡ length (bytes_of xs) + length f.bytes
  past_next = ap (past_of (length (bytes_of xs))) step-next

  -- A field's places are those of its bytes in the block.
  pub field-there : f.bytes ≡ take (length f.bytes) (drop (length (bytes_of xs)) block)
  unfolding bytes_of
  field-there =
      let w = given-stand block in
      let a = bytes_of ys ++ w.rest in
      let b : bytes_of (xs ++ (f ∷ ys)) ++ w.rest ≡ block = rw e at w.bytes in
      let c : bytes_of xs ++ (f.bytes ++ a) ≡ block =
      sym (rw (bytes-append xs (f ∷ ys), append_assoc (bytes_of xs) (f.bytes ++ bytes_of ys) w.rest, append_assoc f.bytes (bytes_of ys) w.rest))
      ∙ b in
      rw (← c, drop-append_seam (bytes_of xs) (f.bytes ++ a)) (sym (take-append_seam f.bytes a))

-- From the block's length on a step gives the last answer.
pub step_past : (block : List ℕ) (place : ℕ) → length block ≤ place → step_from block place ≡ last_of (given block)
step_past block place h =
    let w = given-stand block in
    let fs = (given block).items in
    let l : length (bytes_of fs) ≤ place = omega (arith, h, length-append (bytes_of fs) w.rest, ap length w.bytes) in
    step-last block place (before-later (length (bytes_of fs)) place 0 fs l (before-end fs w.sound))

-- The step from the end of all fields gives the last answer.
pub step-done : (block : List ℕ) → step_from block (length (bytes_of (given block).items)) ≡ last_of (given block)
step-done block = step-last block (length (bytes_of (given block).items)) (before-end (given block).items (given-stand block).sound)

steps-from : (n : ℕ) (block : List ℕ) (xs ys : List Field) → (given block).items ≡ xs ++ ys → length ys < n
    → steps_from n block (length (bytes_of xs)) ≡ in_order (length (bytes_of xs)) ys (last_of (given block))
unfolding steps_from in_order bytes_of
steps-from zero block xs ys e h = absurd (omega arith)
steps-from (suc n) block xs [] e h =
    let a : (given block).items ≡ xs = e ∙ append-nil xs in
    let d : step_from block (length (bytes_of xs)) ≡ last_of (given block) =
    ap (λ (l : List Field). step_from block (length (bytes_of l))) (sym a) ∙ step-done block in
    rw (steps_from, d)
steps-from (suc n) block xs (f ∷ ys) e h =
    let l : length (bytes_of (xs ++ (f ∷ []))) ≡ length (bytes_of xs) + length f.bytes = omega (arith, bytes-long xs f []) in
    let i = steps-from n block (xs ++ (f ∷ [])) ys (e ∙ sym (append_assoc xs (f ∷ []) ys)) (omega arith) in
    rw (steps_from, step-next block xs f ys e) (ap (◌∷◌ (placed (length (bytes_of xs)) f)) (rw l at i))

-- Stepping from the front, and then from each field's end, gives exactly the fields of the walk in order and then its answer, in 513 steps at
-- most.
pub steps_all : (block : List ℕ) → steps_from (field_limit + 1) block 0 ≡ in_order 0 (given block).items (last_of (given block))
unfolding bytes_of
steps_all block = steps-from (field_limit + 1) block [] (given block).items refl (omega (arith, (given-stand block).few))

-- ==== the last answer

-- A block of more than 65,536 bytes gives no field, and answers 1 from every place.
pub step-long : (block : List ℕ) (place : ℕ) → byte_limit < length block → step_from block place ≡ Last 1 0
step-long block place h = rw (given-long block (lt-ltb byte_limit (length block) h)) (first-none place 0 (Last 1 0))

-- A sound block gives all its fields, whose bytes are the block, then 0.
pub given-sound : (block : List ℕ) → length block ≤ byte_limit → (fields block).number ≡ 0
    → (bytes_of (given block).items ≡ block) × (last_of (given block) ≡ Last 0 0)
given-sound block h z =
    let w = fields-fine block z in
    let b : fields block ≡ record { items = (fields block).items; number = 0; place = 0 } = rw w.bytes at (walk-back 0 0 w.sound w.few) in
    rw (given-fields block (le-ltb byte_limit (length block) h)) (w.bytes, ap last_of b)

module _ (block : List ℕ) (place n p : ℕ) (e : step_from block place ≡ Last n p) where
  -- It is given only where all fields start before the place.
  pub last-before : AllBefore place 0 (given block).items
  last-before = go (step_from block place) e (step-any block place)
    where
      go : (r : Step) → r ≡ Last n p → First place 0 (given block).items (last_of (given block)) r → AllBefore place 0 (given block).items
      go r q (found before after f x h b) = absurd (let z : ◌≡◌ {A = ℕ} 0 1 = cc in omega arith)
      go r q (none b) = b

  -- From every place the last answer is the same,
  pub last-same : Last n p ≡ last_of (given block)
  last-same = go (step_from block place) e (step-any block place)
    where
      go : (r : Step) → r ≡ Last n p → First place 0 (given block).items (last_of (given block)) r → Last n p ≡ last_of (given block)
      go r q (found before after f x h b) = absurd (let z : ◌≡◌ {A = ℕ} 0 1 = cc in omega arith)
      go r q (none b) = sym q

  -- and it is one of 0 to 4.
  pub last-four : n ≤ 4
  last-four = let l = last-same in let q : n ≡ (given block).number = cc in rw q (given-four block)

  -- It is 1 only where the block is too long,
  pub last-long : n ≡ 1 → byte_limit < length block
  last-long o = go (ltb byte_limit (length block)) refl
    where
      go : (t : Bool) → ltb byte_limit (length block) ≡ t → byte_limit < length block
      go true l = ltb-true byte_limit (length block) l
      go false l =
          let s = last-same in
          let q : n ≡ (given block).number = cc in
          absurd (omega (arith, fields-numbers block 0 (sym (ap (λ (w : Walked Field). w.number) (given-fields block l)) ∙ (sym q ∙ o))))

  -- and any other is that of the walk.
  pub last-walk : (n ≡ 1 → ⊥)
      → (length block ≤ byte_limit) × (((fields block).number ≡ n) × (((fields block).place ≡ p) × AllBefore place 0 (fields block).items))
  last-walk ne = go (ltb byte_limit (length block)) refl
    where
      go : (t : Bool) → ltb byte_limit (length block) ≡ t
          → (length block ≤ byte_limit) × (((fields block).number ≡ n) × (((fields block).place ≡ p) × AllBefore place 0 (fields block).items))
      go true l =
          let s = last-same in
          let q : n ≡ (given block).number = cc in
          absurd (ne (q ∙ ap (λ (w : Walked Field). w.number) (given-long block l)))
      go false l =
          let s = last-same in
          let g = given-fields block l in
          let q : n ≡ (given block).number = cc in
          let r : p ≡ (given block).place = cc in (
            ltb-false byte_limit (length block) l,
            (sym (q ∙ ap (λ (w : Walked Field). w.number) g), (sym (r ∙ ap (λ (w : Walked Field). w.place) g), rw g at last-before)),
          )

-- The answer of the walk is given where all fields start before the place.
pub walk-last : (block : List ℕ) (place n p : ℕ) → length block ≤ byte_limit → (fields block).number ≡ n → (fields block).place ≡ p
    → AllBefore place 0 (fields block).items → step_from block place ≡ Last n p
walk-last block place n p h a b c =
    let g = given-fields block (le-ltb byte_limit (length block) h) in
    step-last block place (rw g c) ∙ (ap last_of g ∙ rw (a, b))
