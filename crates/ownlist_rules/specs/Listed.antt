-- Whether an identifier is on a list.
use Rattle.std.specs.Prelude.{ℕ, Bool, true, false, ◌||◌, List, [], ◌∷◌}
use Rattle.base_readers.specs.Parsers.{Got, nothing, got}
use Rattle.ownlist_rules.specs.declared.Own.{Own}
use Rattle.ownlist_rules.specs.declared.Own.TheVariants.{Ours, Others, Unreadable}
use Rattle.identifier_rules.specs.Identifier.{same_identifier}

-- an identifier equals an entry of a list
unfoldable pub among : List (List ℕ) → List ℕ → Bool
among [] i = false
among (e ∷ own) i = same_identifier e i || among own i

abbrev pub own_if : Bool → Own
own_if true = Ours
own_if false = Others

-- whose an identifier is: on the list, not on it, or unreadable
abbrev pub own_of : List (List ℕ) → Got (List ℕ) → Own
own_of own nothing = Unreadable
own_of own (got i n) = own_if (among own i)
