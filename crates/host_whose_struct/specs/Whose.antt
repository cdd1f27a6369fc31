-- Whose the identifier of a body is, with the answers in stripping's order.
use Rattle.std.specs.Prelude.{ℕ, List}
use Rattle.ownlist_rules.specs.declared.Own.{Own}
use Rattle.ownlist_rules.specs.declared.Own.TheVariants.{Ours, Others, Unreadable}
use Rattle.identifier_rules.specs.Identifier.{identifier}
use Rattle.ownlist_rules.specs.Listed.{own_of}
use Rattle.ownlist_rules.specs.Calls.{by_list}
use Rattle.host_whose_struct.specs.declared.WhoseFace.{WhoseFace}

-- 0 ours, 1 another's, 2 unreadable
abbrev pub owner_code : Own → ℕ
owner_code Ours = 0
owner_code Others = 1
owner_code Unreadable = 2

-- 01, Answer numbers: refusals return zero counts
abbrev pub refuse_whose : ℕ → ℕ → WhoseFace
refuse_whose n p = record { number = n; whose = 0; place = p }

abbrev pub tell_whose : Own → WhoseFace
tell_whose o = record { number = 0; whose = owner_code o; place = 0 }

-- 01, Answer numbers, in stripping's order: 1 for the body, then 5 for the list; else whose the identifier is
unfoldable pub whose : List ℕ → List ℕ → WhoseFace
whose list body = by_list refuse_whose body list (λ own. tell_whose (own_of own (identifier body)))
