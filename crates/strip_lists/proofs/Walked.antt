-- Both calls of stripping in terms of the one walk: what is refused before the fields are looked at, and what their fields give.
use Prim.Native.Nat.{ℕ, zero, suc, ◌≤◌}
use native.Mathlib.Omega.{arith}
use mathlib.Core.Path.{◌≡◌, refl, sym, ap, ◌∙◌}
use mathlib.Core.Bool.{Bool, true, false}
use mathlib.Core.List.{List}
use borrow.Author.Tests.{ltb-true, ltb-false}
use lib.Dec.{ltb}
use lib.ListN.{length}
use Rattle.base_readers.specs.Walks.{Walked, ended}
use Rattle.lexis_rules.specs.Limits.{byte_limit}
use Rattle.block_rules.specs.Fields.{Field, field_limit, fields}
use Rattle.block_laws.proofs.Fields.{fields-fine}
use Rattle.ownlist_rules.specs.OwnList.{own_list}
use Rattle.ownlist_rules.specs.Listed.{among}
use Rattle.ownlist_rules.specs.Calls.{or_refusal, by_list, by_fields, or_short}
use Rattle.ownlist_laws.proofs.Entries.{list-five}
use Rattle.ownlist_laws.proofs.CallCases.{by-list-long, by-list-bad, by-list-good}
use Rattle.strip_rules.specs.Strip.{removed_of, kept_of, refuse, fitted}
use Rattle.strip_steps_rules.specs.Steps.{marks_of, refuse_marks, done_marks, mark_fields, mark, or_other, copy_fields, copy}
use Rattle.strip_lists.specs.Walk.{listed_by, fields_by}

-- what a call does with the fields of a block by our own list, it does with those of the walk
by-walk : {B : Type 0} (refusing : ℕ → ℕ → B) (s list : List ℕ) (rest : List (List ℕ) → List Field → B)
    → by_list refusing s list (λ own. by_fields refusing s (rest own)) ≡ or_refusal refusing (fields_by s list) (rest (own_list list).items)
unfolding fields_by
by-walk {B} refusing s list rest = big (ltb byte_limit (length s)) refl
  where
    by : List (List ℕ) → B
    by own = by_fields refusing s (rest own)

    with : Walked Field → B
    with w = or_refusal refusing w (rest (own_list list).items)

    own : length s ≤ byte_limit → (n : ℕ) → (own_list list).number ≡ n → by_list refusing s list by ≡ with (fields_by s list)
    own h zero o = by-list-good refusing s list by h o ∙ sym (ap with (by-list-good ended s list (λ own. fields s) h o))
    own h (suc n) o =
        let f = o ∙ list-five list n o in
        by-list-bad refusing s list by h f ∙ sym (ap with (by-list-bad ended s list (λ own. fields s) h f))

    big : (t : Bool) → ltb byte_limit (length s) ≡ t → by_list refusing s list by ≡ with (fields_by s list)
    big true l =
        let h = ltb-true byte_limit (length s) l in
        by-list-long refusing s list by h ∙ sym (ap with (by-list-long ended s list (λ own. fields s) h))
    big false l = own (ltb-false byte_limit (length s) l) (own_list list).number refl

pub mark-by : (s list : List ℕ) (room : ℕ)
    → mark s list room
    ≡ or_refusal refuse_marks (fields_by s list) (λ fs. or_short refuse_marks room (length (marks_of (listed_by list) fs)) (done_marks (marks_of (listed_by list) fs)))
unfolding mark mark_fields
mark-by s list room = by-walk refuse_marks s list (λ own fs. or_short refuse_marks room (length (marks_of (among own) fs)) (done_marks (marks_of (among own) fs)))

pub copy-by : (s list handed : List ℕ) (room : ℕ)
    → copy s list handed room
    ≡ or_refusal refuse (fields_by s list) (λ fs. or_other handed (marks_of (listed_by list) fs) (fitted (kept_of (listed_by list) fs) (removed_of (listed_by list) fs) room))
unfolding copy copy_fields
copy-by s list handed room =
    by-walk refuse s list (λ own fs. or_other handed (marks_of (among own) fs) (fitted (kept_of (among own) fs) (removed_of (among own) fs) room))

-- where nothing is refused, the walk is that over the block, and comes to its end
pub found : (s list : List ℕ) → (fields_by s list).number ≡ 0 → (fields_by s list ≡ fields s) × ((fields s).number ≡ 0)
unfolding fields_by
found s list z = big (ltb byte_limit (length s)) refl
  where
    number : Walked Field → ℕ
    number w = w.number

    own : length s ≤ byte_limit → (n : ℕ) → (own_list list).number ≡ n → (fields_by s list ≡ fields s) × ((fields s).number ≡ 0)
    own h zero o = let e = by-list-good ended s list (λ own. fields s) h o in (e, sym (ap number e) ∙ z)
    own h (suc n) o = absurd (omega (arith, sym z ∙ ap number (by-list-bad ended s list (λ own. fields s) h (o ∙ list-five list n o))))

    big : (t : Bool) → ltb byte_limit (length s) ≡ t → (fields_by s list ≡ fields s) × ((fields s).number ≡ 0)
    big true l = absurd (omega (arith, sym z ∙ ap number (by-list-long ended s list (λ own. fields s) (ltb-true byte_limit (length s) l))))
    big false l = own (ltb-false byte_limit (length s) l) (own_list list).number refl

-- there are no more of them than a block may have
pub found-few : (s list : List ℕ) → (fields_by s list).number ≡ 0 → length (fields_by s list).items ≤ field_limit
found-few s list z = let f = found s list z in rw f.0 (omega (arith, (fields-fine s f.1).few))
