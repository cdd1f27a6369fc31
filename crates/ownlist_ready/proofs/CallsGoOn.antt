-- What each case of a call's readiness tells of the call: a refusal is the call's own, and else it answers what the entries of the list give. By the cases of
-- the order of refusals.
use Prim.Native.Nat.{ℕ, zero, suc, ◌≤◌, ◌<◌}
use native.Mathlib.Omega.{arith}
use mathlib.Core.Path.{◌≡◌, refl, sym, ap, ◌∙◌}
use mathlib.Core.Bool.{Bool, true, false}
use mathlib.Core.List.{List}
use borrow.Author.Tests.{ltb-true, ltb-false}
use lib.Dec.{ltb}
use lib.ListN.{length}
use Rattle.lexis_rules.specs.Limits.{byte_limit}
use Rattle.punycode_rules.specs.Labels.{double_hyphen}
use Rattle.ownlist_rules.specs.OwnList.{own_list}
use Rattle.ownlist_rules.specs.Spelled.{spelled_list}
use Rattle.ownlist_rules.specs.Calls.{by_list}
use Rattle.ownlist_laws.proofs.Entries.{list-five}
use Rattle.ownlist_laws.proofs.AsCompared.{list-plain}
use Rattle.ownlist_laws.proofs.CallCases.{by-list-long, by-list-bad, by-list-good}
use Rattle.ownlist_check.specs.declared.Checked.TheVariants.{Good, Bad}
use Rattle.ownlist_check.specs.Steps.{checked_of, number_of, place_of}
use Rattle.ownlist_check.proofs.ListAnswers.{check-number, check-place}
use Rattle.ownlist_ready.specs.declared.Ready.{Ready}
use Rattle.ownlist_ready.specs.declared.Ready.TheVariants.{Refused, AsItStands, ToSpell}
use Rattle.ownlist_ready.specs.Answers.{ready_if, ready_of}

-- ==== the answers of the code, by what its calls tell

module _ (s list : List ℕ) (big : Bool) (b : big ≡ ltb byte_limit (length s)) where
  pub answer-1 : big ≡ true → Refused 1 0 ≡ ready_of s list
  unfolding ready_of
  answer-1 h = sym (by-list-long Refused s list (λ own. ready_if (double_hyphen list)) (ltb-true byte_limit (length s) (sym b ∙ h)))

  module _ (h : big ≡ false) where
    small : length s ≤ byte_limit
    small = ltb-false byte_limit (length s) (sym b ∙ h)

    pub answer-5 : (p : ℕ) → Bad p ≡ checked_of (own_list list) → Refused 5 p ≡ ready_of s list
    unfolding ready_of
    answer-5 p q =
        let five : (own_list list).number ≡ 5 = sym (check-number list) ∙ ap number_of (sym q) in
        let at : (own_list list).place ≡ p = sym (check-place list five) ∙ ap place_of (sym q) in
        sym (by-list-bad Refused s list (λ own. ready_if (double_hyphen list)) small five ∙ ap (Refused 5) at)

    pub answer-good : Good ≡ checked_of (own_list list) → (double t : Bool) → double ≡ double_hyphen list → double ≡ t → ready_if t ≡ ready_of s list
    unfolding ready_of
    answer-good g double t d e =
        let good : (own_list list).number ≡ 0 = sym (check-number list) ∙ ap number_of (sym g) in
        sym (by-list-good Refused s list (λ own. ready_if (double_hyphen list)) small good ∙ ap ready_if (sym d ∙ e))

-- ==== what it tells of a call

-- what a call answers: its refusal, or what it answers where it goes on
abbrev pub answer_by : {B : Type 0} → (ℕ → ℕ → B) → B → Ready → B
answer_by refuse b (Refused n p) = refuse n p
answer_by refuse b AsItStands = b
answer_by refuse b ToSpell = b

module _ (s list : List ℕ) where
  -- in each case of the order of refusals
  cases : (P : Type 0) → (byte_limit < length s → P) → (length s ≤ byte_limit → (own_list list).number ≡ 5 → P) → (length s ≤ byte_limit → (own_list list).number ≡ 0 → P) → P
  cases P long bad good = big (ltb byte_limit (length s)) refl
    where
      own : length s ≤ byte_limit → (n : ℕ) → (own_list list).number ≡ n → P
      own h zero e = good h e
      own h (suc n) e = bad h (e ∙ list-five list n e)

      big : (t : Bool) → ltb byte_limit (length s) ≡ t → P
      big true l = long (ltb-true byte_limit (length s) l)
      big false l = own (ltb-false byte_limit (length s) l) (own_list list).number refl

  -- every call that is handed these two answers by it
  pub by-list-ready : {B : Type 0} (refuse : ℕ → ℕ → B) (f : List (List ℕ) → B) → by_list refuse s list f ≡ answer_by refuse (f (own_list list).items) (ready_of s list)
  unfolding ready_of
  by-list-ready {B} refuse f =
      cases _
      (λ h. by-list-long refuse s list f h ∙ sym (ap answer (by-list-long Refused s list ready h)))
      (λ h e. by-list-bad refuse s list f h e ∙ sym (ap answer (by-list-bad Refused s list ready h e)))
      (λ h e. by-list-good refuse s list f h e ∙ sym (ap answer (by-list-good Refused s list ready h e) ∙ either (double_hyphen list)))
    where
      answer : Ready → B
      answer = answer_by refuse (f (own_list list).items)

      ready : List (List ℕ) → Ready
      ready own = ready_if (double_hyphen list)

      either : (t : Bool) → answer (ready_if t) ≡ f (own_list list).items
      either true = refl
      either false = refl

  pub ready_refused : {B : Type 0} (refuse : ℕ → ℕ → B) (f : List (List ℕ) → B) (n p : ℕ) → Refused n p ≡ ready_of s list → by_list refuse s list f ≡ refuse n p
  ready_refused refuse f n p e = by-list-ready refuse f ∙ ap (answer_by refuse (f (own_list list).items)) (sym e)

  pub ready-as-it-stands : {B : Type 0} (refuse : ℕ → ℕ → B) (f : List (List ℕ) → B) → AsItStands ≡ ready_of s list → by_list refuse s list f ≡ f (own_list list).items
  ready-as-it-stands refuse f e = by-list-ready refuse f ∙ ap (answer_by refuse (f (own_list list).items)) (sym e)

  pub ready-to-spell : {B : Type 0} (refuse : ℕ → ℕ → B) (f : List (List ℕ) → B) → ToSpell ≡ ready_of s list → by_list refuse s list f ≡ f (own_list list).items
  ready-to-spell refuse f e = by-list-ready refuse f ∙ ap (answer_by refuse (f (own_list list).items)) (sym e)

  -- where a call goes on, what it is handed is within the limit, and the list is good
  goes_on : (r : Ready) → r ≡ ready_of s list → answer_by (λ n p. n) 0 r ≡ 0 → (length s ≤ byte_limit) × ((own_list list).number ≡ 0)
  goes_on r e z =
      let q : by_list (λ n p. n) s list (λ own. 0) ≡ 0 = by-list-ready (λ n p. n) (λ own. 0) ∙ (ap (answer_by (λ n p. n) 0) (sym e) ∙ z) in
      cases _
      (λ h. absurd (omega (arith, q, by-list-long (λ n p. n) s list (λ own. 0) h)))
      (λ h k. absurd (omega (arith, q, by-list-bad (λ n p. n) s list (λ own. 0) h k)))
      (λ h k. (h, k))

  pub as-it-stands-goes-on : AsItStands ≡ ready_of s list → (length s ≤ byte_limit) × ((own_list list).number ≡ 0)
  as-it-stands-goes-on e = goes_on AsItStands e refl

  pub to-spell-goes-on : ToSpell ≡ ready_of s list → (length s ≤ byte_limit) × ((own_list list).number ≡ 0)
  to-spell-goes-on e = goes_on ToSpell e refl

  -- a list that is compared as it stands is its own spelling
  pub as-it-stands-spelled : AsItStands ≡ ready_of s list → spelled_list (own_list list).items ≡ list
  unfolding ready_of
  as-it-stands-spelled e =
      let g = as-it-stands-goes-on e in
      list-plain list g.1 (plain (double_hyphen list) (e ∙ by-list-good Refused s list (λ own. ready_if (double_hyphen list)) g.0 g.1))
    where
      asks : Ready → Bool
      asks ToSpell = true
      asks AsItStands = false
      asks (Refused n p) = false

      plain : (t : Bool) → AsItStands ≡ ready_if t → t ≡ false
      plain false q = refl
      plain true q = sym (ap asks q)
