-- 02, ticket [7], "Stripping in two steps": one call writes a byte for each field in order, 1 if it goes, else 0; the other copies the rest, given that answer.
-- Which fields go is document 01's rule of stripping.
use Rattle.std.specs.Prelude.{ℕ, Bool, true, false, cond, List, [], ◌∷◌, length}
use Rattle.base_readers.specs.Texts.{same}
use Rattle.block_rules.specs.Fields.{Field}
use Rattle.ownlist_rules.specs.Listed.{among}
use Rattle.ownlist_rules.specs.Calls.{by_list, by_fields, or_short}
use Rattle.strip_rules.specs.Strip.{is_removed, removed_of, kept_of, Answer, refuse, fitted}

-- a byte for each field in order, 1 if it goes, else 0
unfoldable pub marks_of : (List ℕ → Bool) → List Field → List ℕ
marks_of listed [] = []
marks_of listed (f ∷ fs) = cond (is_removed listed f) 1 0 ∷ marks_of listed fs

-- ==== the first call

-- an answer, and what is written
pub record Marks : Type 0 where
  pub number : ℕ
  pub place : ℕ
  pub written : List ℕ

-- 01, Answer numbers: refusals write nothing
abbrev pub refuse_marks : ℕ → ℕ → Marks
refuse_marks n p = record { number = n; place = p; written = [] }

abbrev pub done_marks : List ℕ → Marks
done_marks marks = record { number = 0; place = 0; written = marks }

-- 2 to 4, then 6: lent output shorter than the whole output, which has as many bytes as there are fields
unfoldable pub mark_fields : List ℕ → (List ℕ → Bool) → ℕ → Marks
mark_fields block listed room =
    by_fields refuse_marks block (λ fs. or_short refuse_marks room (length (marks_of listed fs)) (done_marks (marks_of listed fs)))

-- 1, 5, then 2 to 4, then 6. An identifier is listed when it equals a list entry
unfoldable pub mark : List ℕ → List ℕ → ℕ → Marks
mark block list room = by_list refuse_marks block list (λ own. mark_fields block (among own) room)

-- ==== the second call

-- if the answer that it is handed isn't exactly the one that the first call gives, it refuses with number 13. Its place is 0
abbrev pub or_other : List ℕ → List ℕ → Answer → Answer
or_other handed marks a = elim (same handed marks) [ true ↦ a | false ↦ refuse 13 0 ]

-- 2 to 4, then 13, tried just before 6
unfoldable pub copy_fields : List ℕ → (List ℕ → Bool) → List ℕ → ℕ → Answer
copy_fields block listed handed room =
    by_fields refuse block (λ fs. or_other handed (marks_of listed fs) (fitted (kept_of listed fs) (removed_of listed fs) room))

-- 1, 5, then 2 to 4, then 13, then 6
unfoldable pub copy : List ℕ → List ℕ → List ℕ → ℕ → Answer
copy block list handed room = by_list refuse block list (λ own. copy_fields block (among own) handed room)
