-- Which numbers `whose` answers with, and that each is given exactly when its rule says so: 1 for the body, then 5 for the list, and else 0. By the three
-- courses that such a call takes.
use Prim.Native.Nat.{ℕ, zero, suc, ◌≤◌, ◌<◌}
use native.Mathlib.Omega.{arith}
use mathlib.Core.Path.{◌≡◌, refl, sym, ap, ◌∙◌}
use mathlib.Core.Bool.{Bool, true, false}
use mathlib.Core.List.{List, [], ◌∷◌}
use borrow.Author.Tests.{ltb-true, ltb-false}
use lib.Dec.{ltb}
use lib.ListN.{length}
use Rattle.base_readers.specs.Texts.{one_of}
use Rattle.lexis_rules.specs.Limits.{byte_limit}
use Rattle.ownlist_rules.specs.OwnList.{own_list}
use Rattle.ownlist_rules.specs.Listed.{own_of}
use Rattle.identifier_rules.specs.Identifier.{identifier}
use Rattle.ownlist_laws.proofs.Entries.{list-five}
use Rattle.ownlist_laws.proofs.CallCases.{by-list-long, by-list-bad, by-list-good}
use Rattle.host_whose_struct.specs.declared.WhoseFace.{WhoseFace}
use Rattle.host_whose_struct.specs.Whose.{owner_code, tell_whose, refuse_whose, whose}

-- a refusal: 0 for whose it is
abbrev pub refusing : ℕ → ℕ → WhoseFace
refusing n p = record { number = n; whose = 0; place = p }

-- whose the identifier at the front of a body is, by a list
abbrev pub telling : List ℕ → List ℕ → WhoseFace
telling list body = record { number = 0; whose = owner_code (own_of (own_list list).items (identifier body)); place = 0 }

data Course (list body : List ℕ) : Type 0 where
  long : byte_limit < length body → whose list body ≡ refusing 1 0 → Course list body
  bad : length body ≤ byte_limit → (own_list list).number ≡ 5 → whose list body ≡ refusing 5 (own_list list).place → Course list body
  told : length body ≤ byte_limit → (own_list list).number ≡ 0 → whose list body ≡ telling list body → Course list body

module _ (list body : List ℕ) where
  course : Course list body
  unfolding whose
  course = big (ltb byte_limit (length body)) refl
    where
      by : List (List ℕ) → WhoseFace
      by own = tell_whose (own_of own (identifier body))

      own : length body ≤ byte_limit → (n : ℕ) → (own_list list).number ≡ n → Course list body
      own h zero e = told h e (by-list-good refuse_whose body list by h e)
      own h (suc n) e = let f = e ∙ list-five list n e in bad h f (by-list-bad refuse_whose body list by h f)

      big : (t : Bool) → ltb byte_limit (length body) ≡ t → Course list body
      big true l = let h = ltb-true byte_limit (length body) l in long h (by-list-long refuse_whose body list by h)
      big false l = own (ltb-false byte_limit (length body) l) (own_list list).number refl

  -- an answer with one number has no other
  other : {A : Type 0} (n m : ℕ) → (whose list body).number ≡ n → (whose list body).number ≡ m → (n ≡ m → ⊥) → A
  other n m p q ne = absurd (ne (sym p ∙ q))

  number : (a : WhoseFace) → whose list body ≡ a → (whose list body).number ≡ a.number
  number a q = ap (λ (x : WhoseFace). x.number) q

  pub one-when : (whose list body).number ≡ 1 → byte_limit < length body
  one-when e =
      elim course [
        | long h q ↦ h
        | bad h f q ↦ other 5 1 (number _ q) e (λ z. omega (arith, z))
        | told h f q ↦ other 0 1 (number _ q) e (λ z. omega (arith, z))
      ]

  pub when-one : byte_limit < length body → whose list body ≡ refusing 1 0
  when-one l = elim course [ long h q ↦ q | bad h f q ↦ absurd (omega arith) | told h f q ↦ absurd (omega arith) ]

  pub five-when : (whose list body).number ≡ 5 → (length body ≤ byte_limit) × ((own_list list).number ≡ 5)
  five-when e =
      elim course [
        | long h q ↦ other 1 5 (number _ q) e (λ z. omega (arith, z))
        | bad h f q ↦ (h, f)
        | told h f q ↦ other 0 5 (number _ q) e (λ z. omega (arith, z))
      ]

  pub when-five : length body ≤ byte_limit → (own_list list).number ≡ 5 → whose list body ≡ refusing 5 (own_list list).place
  when-five l o = elim course [ long h q ↦ absurd (omega arith) | bad h f q ↦ q | told h f q ↦ absurd (omega (arith, o, f)) ]

  pub zero-when : (whose list body).number ≡ 0 → (length body ≤ byte_limit) × ((own_list list).number ≡ 0)
  zero-when e =
      elim course [
        | long h q ↦ other 1 0 (number _ q) e (λ z. omega (arith, z))
        | bad h f q ↦ other 5 0 (number _ q) e (λ z. omega (arith, z))
        | told h f q ↦ (h, f)
      ]

  pub when-zero : length body ≤ byte_limit → (own_list list).number ≡ 0 → whose list body ≡ telling list body
  when-zero l o = elim course [ long h q ↦ absurd (omega arith) | bad h f q ↦ absurd (omega (arith, o, f)) | told h f q ↦ q ]

  -- there is no other number than 0, 1 and 5
  pub numbers : one_of (0 ∷ 1 ∷ 5 ∷ []) (whose list body).number ≡ true
  unfolding one_of
  numbers = elim course [ long h q ↦ rw q | bad h f q ↦ rw q | told h f q ↦ rw q ]

  -- 01, Answer numbers: refusals return zero counts
  pub refused-blank : ((whose list body).number ≡ 0 → ⊥) → whose list body ≡ refusing (whose list body).number (whose list body).place
  refused-blank ne = elim course [ long h q ↦ rw q | bad h f q ↦ rw q | told h f q ↦ absurd (ne (number _ q)) ]
