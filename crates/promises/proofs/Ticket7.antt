-- 02, ticket [7], "Stripping in two steps": what is promised of the two calls together. When each is refused is in Demand1Steps.
use Prim.Native.Nat.{ℕ, zero, suc, ◌≤◌}
use mathlib.Core.Path.{◌≡◌, refl, ap, ◌∙◌}
use mathlib.Core.Bool.{Bool, cond}
use mathlib.Core.List.{List, [], ◌∷◌, ◌++◌, map}
use lib.ListN.{length, take, drop}
use lib.Seq.{take-append_seam}
use Rattle.base_readers.specs.Texts.{bytes}
use Rattle.block_rules.specs.Fields.{Field, field_limit, fields, bytes_of}
use Rattle.ownlist_rules.specs.OwnList.{own_list}
use Rattle.ownlist_rules.specs.Listed.{among}
use Rattle.ownlist_rules.specs.Calls.{Known}
use Rattle.strip_rules.specs.Strip.{is_removed, strip}
use Rattle.strip_rules.specs.ByFields.{Kept}
use Rattle.strip_rules.specs.Terms.{kept_fields}
use Rattle.strip_laws.proofs.Numbers as numbers-of-strip
use Rattle.strip_steps_rules.specs.Steps.{marks_of, mark}
use Rattle.strip_steps_rules.specs.Pair.{pair}
use Rattle.strip_steps_rules.specs.Terms.{marks_for}
use Rattle.strip_steps_rules.proofs.Examples as steps
use Rattle.strip_steps_laws.proofs.Marks as marks-laws
use Rattle.strip_steps_laws.proofs.Numbers as numbers
use Rattle.strip_steps_laws.proofs.PairStrips as pairs
use Rattle.promises.specs.Calls.{strips, marks, copies, marks_then_copies}
use Rattle.promises.proofs.Demand2.{strip-by-fields, strip-twice}

-- ==== one call writes a byte for each field in order, 1 if it goes, else 0

marks-map : (listed : List ℕ → Bool) (fs : List Field) → marks_of listed fs ≡ map (λ (f : Field). cond (is_removed listed f) 1 0) fs
unfolding marks_of
marks-map listed [] = refl
marks-map listed (f ∷ fs) = ap (◌∷◌ (cond (is_removed listed f) 1 0)) (marks-map listed fs)

pub marks-told : (block list old : List ℕ) → Known block list → length (fields block).items ≤ length old
    → marks block list old
    ≡ record {
      answer = record { number = 0; place = 0; written = length (fields block).items };
      left = map (λ (f : Field). cond (is_removed (among (own_list list).items) f) 1 0) (fields block).items ++ drop (length (fields block).items) old;
    }
marks-told block list old k h =
    rw ((numbers.mark-order block list (length old)).when-zero k (rw (marks-laws.marks-for-long block list) h), marks-laws.marks-for-long block list, marks-map (among (own_list list).items) (fields block).items)

-- as many bytes as a block may have fields are always room enough
pub marks-room : (block list old : List ℕ) → field_limit ≤ length old → (marks block list old).answer.number ≡ 6 → ⊥
marks-room block list old = pairs.mark-room block list (length old)

-- four fields, of which the first and the third go
abbrev pub block-example : List ℕ
block-example = bytes "Authentication-Results:/\r\nA: b\r\nAuthentication-Results: a\r\nAuthentication-Results: c\r\n"

marks-example :
    marks block-example (bytes "a\n") (bytes ".....") ≡ record { answer = record { number = 0; place = 0; written = 4 }; left = 1 ∷ 0 ∷ 1 ∷ 0 ∷ bytes "." }
unfolding steps.opened
marks-example = refl

-- ==== if it isn't exactly the one that the first call gives for this block and list, it refuses with number 13 (`copy-13` of Demand1Steps)

-- that is what the first call wrote, wherever it answers 0
pub marks-wrote : (block list first : List ℕ) → (marks block list first).answer.number ≡ 0
    → take (marks block list first).answer.written (marks block list first).left ≡ marks_for block list
marks-wrote block list first z =
    let w = (numbers.mark-order block list (length first)).zero-when z in
    rw ((numbers.mark-order block list (length first)).when-zero w.0 w.1) (take-append_seam (marks_for block list) (drop (length (marks_for block list)) first))

-- one byte more, one fewer, another byte, and the marks of another list, or of the block before a field was added: 13; and nothing is written
others-example :
    map (λ (handed : List ℕ). (copies block-example (bytes "a\n") handed (bytes "..")).answer.number)
    ((1 ∷ 0 ∷ 1 ∷ 0 ∷ 0 ∷ [])
    ∷ (1 ∷ 0 ∷ 1 ∷ [])
    ∷ (1 ∷ 0 ∷ 1 ∷ 1 ∷ [])
    ∷ take 4 (marks block-example (bytes "c\n") (bytes "....")).left
    ∷ take 3 (marks (drop 26 block-example) (bytes "a\n") (bytes "...")).left
    ∷ [])
    ≡ 13 ∷ 13 ∷ 13 ∷ 13 ∷ 13 ∷ []
unfolding steps.opened
others-example = refl

other-example :
    copies block-example (bytes "a\n") (1 ∷ 0 ∷ 1 ∷ []) (bytes "..")
    ≡ record { answer = record { number = 13; place = 0; kept = 0; removed = 0; fields = 0 }; left = bytes ".." }
unfolding steps.opened
other-example = refl

-- ==== Where the first call has room for its bytes, the pair gives what 01's stripping gave, the counts coming from the second call

pub pair-strips : (block list : List ℕ) (marks_room room : ℕ) → ((mark block list marks_room).number ≡ 6 → ⊥) → pair block list marks_room room ≡ strip block list room
pair-strips block list marks_room room = pairs.pair-strips block list room marks_room

-- the same of the calls, and of every byte of the lent buffer
pub calls-strip : (block list first old : List ℕ) → ((marks block list first).answer.number ≡ 6 → ⊥) → marks_then_copies block list first old ≡ strips block list old
unfolding pair
calls-strip block list first old ne = go (mark block list (length first)).number refl
  where
    is : pair block list (length first) (length old) ≡ strip block list (length old)
    is = pair-strips block list (length first) (length old) ne

    wrote : take (length (mark block list (length first)).written) ((mark block list (length first)).written ++ drop (length (mark block list (length first)).written) first)
        ≡ (mark block list (length first)).written
    wrote = take-append_seam (mark block list (length first)).written (drop (length (mark block list (length first)).written) first)

    go : (n : ℕ) → (mark block list (length first)).number ≡ n → marks_then_copies block list first old ≡ strips block list old
    go zero z = rw (← is, z, wrote)
    go (suc n) z = rw (← is, z)

calls-example :
    marks_then_copies block-example (bytes "a\n") (bytes ".....") (bytes "..................................")
    ≡ record { answer = record { number = 0; place = 0; kept = 33; removed = 53; fields = 2 }; left = bytes "A: b\r\nAuthentication-Results: c\r\n." }
unfolding steps.opened
calls-example = refl

-- ==== so demand 2 holds of the pair: it removes exactly the fields that Demand2 says, and stripping twice removes nothing more

module _ (block list first old : List ℕ) (roomy : (marks block list first).answer.number ≡ 6 → ⊥)
    (z : (marks_then_copies block list first old).answer.number ≡ 0) where
  is : marks_then_copies block list first old ≡ strips block list old
  is = calls-strip block list first old roomy

  done : (strips block list old).answer.number ≡ 0
  done = rw is at z

  -- what the pair left in front
  abbrev kept : List ℕ
  kept = take (marks_then_copies block list first old).answer.kept (marks_then_copies block list first old).left

  pub kept-is : kept ≡ (strip block list (length old)).written
  kept-is =
      let w = numbers-of-strip.zero-when block list (length old) done in
      let e = numbers-of-strip.when-zero block list (length old) w.0 w.1 in
      rw (is, e) (take-append_seam (bytes_of (kept_fields block list)) (drop (length (bytes_of (kept_fields block list))) old))

  -- Stripping removes exactly the Authentication-Results fields whose identifier is on our own list or can't be read, and keeps every other byte in order
  pub pair-by-fields : (bytes_of (fields block).items ≡ block) × (Kept (own_list list).items (fields block).items (fields kept).items)
  pair-by-fields = let d = strip-by-fields block list old done in (d.0, rw kept-is d.1.0)

  -- stripping the stripped block with the same list, and room for it, gives the same bytes and removes nothing
  pub pair-twice : (first' old' : List ℕ) → ((marks kept list first').answer.number ≡ 6 → ⊥)
      → (marks_then_copies block list first old).answer.kept ≤ length old'
      → marks_then_copies kept list first' old'
      ≡ record {
        answer = record { number = 0; place = 0; kept = (marks_then_copies block list first old).answer.kept; removed = 0; fields = 0 };
        left = kept ++ drop (length kept) old';
      }
  pair-twice first' old' room' h =
      let t = strip-twice block list old done (length old') (rw is at h) in
      calls-strip kept list first' old' room' ∙ rw (kept-is, t, is)
