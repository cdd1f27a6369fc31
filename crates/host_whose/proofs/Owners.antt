-- The answers of `whose`, one law for each way out of the code.
use Prim.Native.Nat.{ℕ}
use mathlib.Core.Path.{◌≡◌, sym, ap, ◌∙◌}
use mathlib.Core.List.{List}
use Rattle.base_readers.specs.Lines.{lines_of}
use Rattle.identifier_rules.specs.Identifier.{identifier}
use Rattle.ownlist_rules.specs.declared.Own.{Own}
use Rattle.ownlist_rules.specs.OwnList.{own_list}
use Rattle.ownlist_rules.specs.Listed.{own_of}
use Rattle.ownlist_rules.specs.Spelled.{own_of_spelled}
use Rattle.ownlist_laws.proofs.AsCompared.{list-own}
use Rattle.ownlist_ready.specs.declared.Ready.TheVariants.{Refused, AsItStands, ToSpell}
use Rattle.ownlist_ready.specs.Answers.{ready_of}
use Rattle.ownlist_ready.proofs.CallsGoOn.{ready_refused, ready-as-it-stands, ready-to-spell, as-it-stands-spelled}
use Rattle.host_whose_struct.specs.declared.WhoseFace.{WhoseFace}
use Rattle.host_whose_struct.specs.Whose.{refuse_whose, tell_whose, whose}

module _ (list body : List ℕ) (r : WhoseFace) where
  abbrev by : List (List ℕ) → WhoseFace
  by own = tell_whose (own_of own (identifier body))

  pub answer-1-5 : (n p : ℕ) → Refused n p ≡ ready_of body list → r ≡ refuse_whose n p → r ≡ whose list body
  unfolding whose
  answer-1-5 n p q e = e ∙ sym (ready_refused body list refuse_whose by n p q)

  pub answer-spelled : (o : Own) → ToSpell ≡ ready_of body list → o ≡ own_of (own_list list).items (identifier body) → r ≡ tell_whose o → r ≡ whose list body
  unfolding whose
  answer-spelled o q w e = e ∙ (ap tell_whose w ∙ sym (ready-to-spell body list refuse_whose by q))

  -- a list without two hyphens in a row tells as it stands what its entries tell
  pub answer-plain : (o : Own) → AsItStands ≡ ready_of body list → o ≡ own_of_spelled (lines_of list) (identifier body) → r ≡ tell_whose o → r ≡ whose list body
  unfolding whose
  answer-plain o q w e =
      let s = as-it-stands-spelled body list q in
      let same : own_of_spelled (lines_of list) (identifier body) ≡ own_of (own_list list).items (identifier body) = rw s at (list-own list (identifier body)) in
      e ∙ (ap tell_whose (w ∙ same) ∙ sym (ready-as-it-stands body list refuse_whose by q))
