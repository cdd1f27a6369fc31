-- Which numbers the two calls answer, and that each is given exactly when its rule says so. The first call has the order of all calls with a block and our
-- own list; the second tries 13 between 4 and 6.
use Prim.Native.Nat.{ℕ, zero, suc, ◌≤◌, ◌<◌}
use native.Mathlib.Omega.{arith}
use mathlib.Core.Path.{◌≡◌, refl, sym, ap, ◌∙◌}
use mathlib.Core.Bool.{Bool, true, false}
use mathlib.Core.List.{List}
use borrow.Author.Tests.{ltb-true, ltb-false}
use lib.Dec.{ltb}
use lib.ListN.{length, drop}
use lib.Seq.{drop-append_seam}
use Rattle.base_sequences.proofs.Booleans.{no_true}
use Rattle.base_readers.specs.Texts.{same}
use Rattle.base_readers.proofs.Texts.{same_refl, same-eq}
use Rattle.block_rules.specs.Fields.{bytes_of}
use Rattle.ownlist_rules.specs.Listed.{among}
use Rattle.ownlist_rules.specs.Calls.{or_short, Known}
use Rattle.ownlist_laws.proofs.AnswersInOrder.{Course, long, bad, cut, through, course, InOrder, in_order, InOrderToSix, in-order-to-six, short-when, fits-when, short-later}
use Rattle.ownlist_laws.proofs.CallCases.{or-short-short, or-short-fits}
use Rattle.strip_rules.specs.Strip.{removed_of, kept_of, Answer, refuse, done, fitted}
use Rattle.strip_rules.specs.Answers as copied
use Rattle.strip_rules.specs.Terms.{kept_fields, removed_fields}
use Rattle.strip_steps_rules.specs.Steps.{marks_of, Marks, refuse_marks, done_marks, mark_fields, mark, or_other, copy_fields, copy}
use Rattle.strip_steps_rules.specs.Answers.{leaves}
use Rattle.strip_steps_rules.specs.Terms.{marks_for}

-- ==== the first call: 1, 5, 2 to 4, 6

pub mark-course : (block list : List ℕ) (room : ℕ)
    → Course refuse_marks block list (or_short refuse_marks room (length (marks_for block list)) (done_marks (marks_for block list))) (mark block list room)
unfolding mark mark_fields
mark-course block list room =
    course refuse_marks block list (λ own fs. or_short refuse_marks room (length (marks_of (among own) fs)) (done_marks (marks_of (among own) fs)))

pub mark-order : (block list : List ℕ) (room : ℕ)
    → InOrderToSix (λ (a : Marks). a.number) (λ (a : Marks). a.place) refuse_marks block list room (length (marks_for block list))
    (done_marks (marks_for block list)) (mark block list room)
mark-order block list room =
    in-order-to-six (λ (a : Marks). a.number) (λ (a : Marks). a.place) refuse_marks (λ n p. refl) (λ n p. refl) block list room
    (length (marks_for block list)) (done_marks (marks_for block list)) (mark block list room) refl (mark-course block list room)

-- 01, Answer numbers: on every answer, bytes past those written stay unchanged
pub mark-past : (block list old : List ℕ)
    → drop (length (mark block list (length old)).written) (leaves (mark block list (length old)) old) ≡ drop (length (mark block list (length old)).written) old
mark-past block list old =
    drop-append_seam (mark block list (length old)).written (drop (length (mark block list (length old)).written) old)

-- ==== the second: 1, 5, 2 to 4, 13, 6

-- what is handed in is the first call's answer, or another
pub or-other-same : (handed marks : List ℕ) (a : Answer) → handed ≡ marks → or_other handed marks a ≡ a
or-other-same handed marks a e = let s : same handed marks ≡ true = rw e (same_refl marks) in rw (or_other, s)

pub or-other-other : (handed marks : List ℕ) (a : Answer) → (handed ≡ marks → ⊥) → or_other handed marks a ≡ refuse 13 0
or-other-other handed marks a ne = go (same handed marks) refl
  where
    go : (t : Bool) → same handed marks ≡ t → or_other handed marks a ≡ refuse 13 0
    go true e = absurd (ne (same-eq handed marks e))
    go false e = rw (or_other, e)

-- one of the two
pub data Handed (handed marks : List ℕ) : Type 0 where
  right : handed ≡ marks → Handed handed marks
  other : (handed ≡ marks → ⊥) → Handed handed marks

pub handed-is : (handed marks : List ℕ) → Handed handed marks
handed-is handed marks = go (same handed marks) refl
  where
    go : (t : Bool) → same handed marks ≡ t → Handed handed marks
    go true e = right (same-eq handed marks e)
    go false e = other (λ z. no_true (sym e ∙ (ap (λ (x : List ℕ). same x marks) z ∙ same_refl marks)))

module _ (block list handed : List ℕ) (room : ℕ) where
  abbrev size : ℕ
  size = length (bytes_of (kept_fields block list))

  abbrev stripped : Answer
  stripped = done (kept_fields block list) (removed_fields block list)

  abbrev fits : Answer
  fits = or_short refuse room size stripped

  abbrev rest : Answer
  rest = or_other handed (marks_for block list) fits

  abbrev number : Answer → ℕ
  number a = a.number

  pub copy-course : Course refuse block list rest (copy block list handed room)
  unfolding copy copy_fields fitted
  copy-course =
      course refuse block list (λ own fs. or_other handed (marks_of (among own) fs) (fitted (kept_of (among own) fs) (removed_of (among own) fs) room))

  -- what is answered behind 4 is 13, 6 or 0
  rest-right : handed ≡ marks_for block list → rest ≡ fits
  rest-right = or-other-same handed (marks_for block list) fits

  rest-other : (handed ≡ marks_for block list → ⊥) → rest ≡ refuse 13 0
  rest-other = or-other-other handed (marks_for block list) fits

  later : 1 ≤ rest.number → rest.number ≤ 5 → ⊥
  later i j =
      elim (handed-is handed (marks_for block list)) [
        | right e ↦
            (let z = ap number (rest-right e) in
            short-later number (λ (a : Answer). a.place) refuse (λ n p. refl) (λ n p. refl) room size stripped (λ k l. omega arith) (omega arith) (omega arith))
        | other ne ↦ (let z = ap number (rest-other ne) in omega arith)
      ]

  -- 1, 5, 2 to 4
  pub copy-order : InOrder number refuse block list rest (copy block list handed room)
  copy-order = in_order number refuse (λ n p. refl) block list rest (copy block list handed room) later copy-course

  -- 13: what is handed in isn't exactly the first call's answer
  pub thirteen-when : (copy block list handed room).number ≡ 13 → Known block list × (handed ≡ marks_for block list → ⊥)
  thirteen-when e =
      let w = copy-order.through-when (λ i j. omega arith) in
      (w.0, λ q. none (ltb room size) refl (ap number (w.1 ∙ rest-right q)))
    where
      none : (t : Bool) → ltb room size ≡ t → (copy block list handed room).number ≡ fits.number → ⊥
      none true l z = let k = ap number (or-short-short refuse room size stripped (ltb-true room size l)) in omega arith
      none false l z = let k = ap number (or-short-fits refuse room size stripped (ltb-false room size l)) in omega arith

  pub when-thirteen : Known block list → (handed ≡ marks_for block list → ⊥) → copy block list handed room ≡ refuse 13 0
  when-thirteen k ne = copy-order.when-through k ∙ rest-other ne

  -- given the first call's answer: 6 or 0
  when-right : Known block list → handed ≡ marks_for block list → copy block list handed room ≡ fits
  when-right k q = copy-order.when-through k ∙ rest-right q

  right-when : ((copy block list handed room).number ≡ 13 → ⊥) → (1 ≤ (copy block list handed room).number → (copy block list handed room).number ≤ 5 → ⊥)
      → Known block list × ((handed ≡ marks_for block list) × (copy block list handed room ≡ fits))
  right-when ne late =
      let w = copy-order.through-when late in
      elim (handed-is handed (marks_for block list)) [
        | right q ↦ (w.0, (q, w.1 ∙ rest-right q))
        | other n ↦ absurd (ne (ap number (w.1 ∙ rest-other n)))
      ]

  pub six-when : (copy block list handed room).number ≡ 6 → Known block list × ((handed ≡ marks_for block list) × (room < size))
  six-when e =
      let w = right-when (λ z. omega arith) (λ i j. omega arith) in
      (w.0, (w.1.0, short-when number (λ (a : Answer). a.place) refuse (λ n p. refl) (λ n p. refl) room size stripped (λ z. omega arith) (sym (ap number w.1.1) ∙ e)))

  pub when-six : Known block list → handed ≡ marks_for block list → room < size → copy block list handed room ≡ refuse 6 size
  when-six k q h = when-right k q ∙ or-short-short refuse room size stripped h

  pub zero-when : (copy block list handed room).number ≡ 0 → Known block list × ((handed ≡ marks_for block list) × (size ≤ room))
  zero-when e =
      let w = right-when (λ z. omega arith) (λ i j. omega arith) in
      (w.0, (w.1.0, fits-when number (λ (a : Answer). a.place) refuse (λ n p. refl) (λ n p. refl) room size stripped (sym (ap number w.1.1) ∙ e)))

  pub when-zero : Known block list → handed ≡ marks_for block list → size ≤ room → copy block list handed room ≡ stripped
  when-zero k q h = when-right k q ∙ or-short-fits refuse room size stripped h

  -- 01, Answer numbers: a refusal, whatever its number, has zero counts and writes nothing
  pub refused : ((copy block list handed room).number ≡ 0 → ⊥)
      → copy block list handed room ≡ refuse (copy block list handed room).number (copy block list handed room).place
  refused ne =
      elim copy-course [
        | long l q ↦ rw q
        | bad l o q ↦ rw q
        | cut l o n f i j q ↦ rw q
        | through k q ↦ behind k (handed-is handed (marks_for block list)) (ltb room size) refl
      ]
    where
      behind : Known block list → Handed handed (marks_for block list) → (t : Bool) → ltb room size ≡ t
          → copy block list handed room ≡ refuse (copy block list handed room).number (copy block list handed room).place
      behind k (other n) t l = rw (when-thirteen k n)
      behind k (right e) true l = rw (when-six k e (ltb-true room size l))
      behind k (right e) false l = absurd (ne (ap number (when-zero k e (ltb-false room size l))))

  -- there is no other number than 0 to 6 and 13
  pub numbers : ((copy block list handed room).number ≤ 6 → ⊥) → (copy block list handed room).number ≡ 13
  numbers ne =
      elim copy-course [
        | long l q ↦ absurd (ne (rw q (omega arith)))
        | bad l o q ↦ absurd (ne (rw q (omega arith)))
        | cut l o n f i j q ↦ absurd (ne (rw q (omega arith)))
        | through k q ↦ behind k (handed-is handed (marks_for block list)) (ltb room size) refl
      ]
    where
      behind : Known block list → Handed handed (marks_for block list) → (t : Bool) → ltb room size ≡ t → (copy block list handed room).number ≡ 13
      behind k (other n) t l = rw (when-thirteen k n)
      behind k (right e) true l = absurd (ne (rw (when-six k e (ltb-true room size l)) (omega arith)))
      behind k (right e) false l = absurd (ne (rw (when-zero k e (ltb-false room size l)) (omega arith)))

-- on every answer, bytes past those written stay unchanged
pub copy-past : (block list handed old : List ℕ)
    → drop (copy block list handed (length old)).kept (copied.leaves (copy block list handed (length old)) old) ≡ drop (copy block list handed (length old)).kept old
copy-past block list handed old = go (copy block list handed (length old)).number refl
  where
    go : (n : ℕ) → (copy block list handed (length old)).number ≡ n
        → drop (copy block list handed (length old)).kept (copied.leaves (copy block list handed (length old)) old) ≡ drop (copy block list handed (length old)).kept old
    go zero z =
        let w = zero-when block list handed (length old) z in
        rw (when-zero block list handed (length old) w.0 w.1.0 w.1.1)
        (drop-append_seam (bytes_of (kept_fields block list)) (drop (length (bytes_of (kept_fields block list))) old))
    go (suc n) z = rw (refused block list handed (length old) (λ e. omega arith))
