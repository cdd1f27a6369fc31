-- Our own list as it is compared: its lines, whose an identifier is by them, and which lists are compared as they stand. The theorem with premises has an
-- instance below it.
use Prim.Native.Nat.{ℕ}
use mathlib.Core.Path.{◌≡◌, refl}
use mathlib.Core.Bool.{false}
use mathlib.Core.List.{List, map}
use Rattle.base_readers.specs.Texts.{bytes}
use Rattle.base_readers.specs.Parsers.{Got}
use Rattle.base_readers.specs.Lines.{lines_of}
use Rattle.punycode_rules.specs.Labels.{spelling, double_hyphen}
use Rattle.ownlist_rules.specs.OwnList.{own_list}
use Rattle.ownlist_rules.specs.Listed.{own_of}
use Rattle.ownlist_rules.specs.Spelled.{spelled_list, own_of_spelled}
use Rattle.ownlist_rules.proofs.Unfolding.{opened}
use Rattle.ownlist_laws.proofs.OwnListLaws as lists

-- its lines are the spellings of the entries
pub list-lines : (list : List ℕ) → lines_of (spelled_list (own_list list).items) ≡ map spelling (own_list list).items
list-lines = lists.list-lines

-- they tell whose an identifier is as the entries do
pub list-own : (list : List ℕ) (g : Got (List ℕ)) → own_of_spelled (lines_of (spelled_list (own_list list).items)) g ≡ own_of (own_list list).items g
list-own = lists.list-own

-- a good list without two hyphens in a row is compared as it stands
pub list-plain : (list : List ℕ) → (own_list list).number ≡ 0 → double_hyphen list ≡ false → spelled_list (own_list list).items ≡ list
list-plain = lists.list-plain

list-instance : spelled_list (own_list (bytes "a.example\nb-c\n")).items ≡ bytes "a.example\nb-c\n"
unfolding opened
list-instance = list-plain (bytes "a.example\nb-c\n") refl refl
