-- The marks of fields: there are as many, and they hang on the listed identifiers alone, and with them both calls.
use Prim.Native.Nat.{ℕ, suc}
use mathlib.Core.Path.{◌≡◌, refl, ap}
use mathlib.Core.Bool.{Bool}
use mathlib.Core.List.{List, [], ◌∷◌}
use lib.ListN.{length}
use Rattle.block_rules.specs.Fields.{Field, fields}
use Rattle.ownlist_rules.specs.OwnList.{own_list}
use Rattle.ownlist_rules.specs.Listed.{among}
use Rattle.ownlist_rules.specs.Calls.{or_short}
use Rattle.ownlist_laws.proofs.CallCases.{or-refusal-same}
use Rattle.strip_rules.specs.Strip.{removed_of, kept_of, refuse, fitted}
use Rattle.strip_laws.proofs.Alike.{same-goes, same-gone, same-stays}
use Rattle.strip_steps_rules.specs.Steps.{marks_of, refuse_marks, done_marks, mark_fields, or_other, copy_fields}
use Rattle.strip_steps_rules.specs.Terms.{marks_for}

pub marks-long : (listed : List ℕ → Bool) (fs : List Field) → length (marks_of listed fs) ≡ length fs
unfolding marks_of
marks-long listed [] = refl
marks-long listed (f ∷ fs) = ap suc (marks-long listed fs)

-- where the same identifiers are listed
module _ (listed listed' : List ℕ → Bool) (alike : (i : List ℕ) → listed i ≡ listed' i) where
  pub same-marks : (fs : List Field) → marks_of listed fs ≡ marks_of listed' fs
  unfolding marks_of
  same-marks [] = refl
  same-marks (f ∷ fs) = rw (same-goes listed listed' alike f, same-marks fs)

  pub same-marked : (block : List ℕ) (room : ℕ) → mark_fields block listed room ≡ mark_fields block listed' room
  unfolding mark_fields
  same-marked block room =
      or-refusal-same refuse_marks (fields block) (λ fs. or_short refuse_marks room (length (marks_of listed fs)) (done_marks (marks_of listed fs)))
      (λ fs. or_short refuse_marks room (length (marks_of listed' fs)) (done_marks (marks_of listed' fs))) (λ fs. rw (same-marks fs))

  pub same-copied : (block handed : List ℕ) (room : ℕ) → copy_fields block listed handed room ≡ copy_fields block listed' handed room
  unfolding copy_fields
  same-copied block handed room =
      or-refusal-same refuse (fields block) (λ fs. or_other handed (marks_of listed fs) (fitted (kept_of listed fs) (removed_of listed fs) room))
      (λ fs. or_other handed (marks_of listed' fs) (fitted (kept_of listed' fs) (removed_of listed' fs) room))
      (λ fs. rw (same-marks fs, same-gone listed listed' alike fs, same-stays listed listed' alike fs))

-- the marks of a block are as many as its fields
pub marks-for-long : (block list : List ℕ) → length (marks_for block list) ≡ length (fields block).items
marks-for-long block list = marks-long (among (own_list list).items) (fields block).items
