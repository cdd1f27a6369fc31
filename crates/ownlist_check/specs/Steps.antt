-- What the code's answers say: one step of the walk over the list, at places of the slice.
use Rattle.std.specs.Prelude.{ℕ, zero, suc, ◌+◌, ◌-◌, List, [], ◌∷◌, drop}
use Rattle.base_readers.specs.Walks.{Met, item, refused, Walked}
use Rattle.ownlist_check.specs.declared.Entries.{Entries}
use Rattle.ownlist_check.specs.declared.Listed.{Listed}
use Rattle.ownlist_check.specs.declared.Listed.TheVariants as listed
use Rattle.ownlist_check.specs.declared.Checked.{Checked}
use Rattle.ownlist_check.specs.declared.Checked.TheVariants as checked
use Rattle.ownlist_rules.specs.OwnList.{entry_at}

-- ==== entries

abbrev pub fresh_entries : Entries
fresh_entries = record { at = 0; count = 0 }

-- an entry by the places where it starts and where its LF stands; or the bad entry's place
abbrev pub listed_of : ℕ → Met (List ℕ) → Listed
listed_of at (item t n) = listed.Entry at (at + (n - 1))
listed_of at (refused n p) = listed.Bad p

unfoldable pub listed_from : ℕ → ℕ → List ℕ → Listed
listed_from at count [] = listed.End
listed_from at count (x ∷ xs) = listed_of at (entry_at at count (x ∷ xs))

abbrev pub listed_at : List ℕ → Entries → Listed
listed_at s w = listed_from w.at w.count (drop w.at s)

-- the list is good, or bad from the start of its first bad entry
abbrev pub checked_of : Walked (List ℕ) → Checked
checked_of w = elim w.number [ zero ↦ checked.Good | suc n ↦ checked.Bad w.place ]

-- 01, Answer numbers: the number and the place of each case
abbrev pub number_of : Checked → ℕ
number_of checked.Good = 0
number_of (checked.Bad p) = 5

abbrev pub place_of : Checked → ℕ
place_of checked.Good = 0
place_of (checked.Bad p) = p
