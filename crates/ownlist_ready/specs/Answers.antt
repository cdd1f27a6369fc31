-- Whether a call that is handed a block, or a field body, and our own list may go on.
use Rattle.std.specs.Prelude.{ℕ, Bool, true, false, List}
use Rattle.punycode_rules.specs.Labels.{double_hyphen}
use Rattle.ownlist_rules.specs.Calls.{by_list}
use Rattle.ownlist_ready.specs.declared.Ready.{Ready}
use Rattle.ownlist_ready.specs.declared.Ready.TheVariants.{Refused, AsItStands, ToSpell}

-- a list with two hyphens in a row may have an A-label, and is spelled before it is compared; any other is compared as it stands
abbrev pub ready_if : Bool → Ready
ready_if true = ToSpell
ready_if false = AsItStands

-- 01, Answer numbers: 1, then 5; else whether the list has two hyphens in a row
unfoldable pub ready_of : List ℕ → List ℕ → Ready
ready_of s list = by_list Refused s list (λ own. ready_if (double_hyphen list))
