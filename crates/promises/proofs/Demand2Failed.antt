-- Demand 2, of a chain that failed: which field the answer names, and a block for each reason. These stand apart from Demand2, whose theorems they rest on.
use Prim.Native.Nat.{ℕ, ◌≤◌}
use native.Mathlib.Omega.{arith}
use mathlib.Core.Path.{◌≡◌, refl, ap}
use mathlib.Core.Bool.{false}
use mathlib.Core.List.Memᴰ
use mathlib.Core.List.{List, [], ◌∷◌, ◌++◌, Memᴰ}
use lib.Dec.{lit≤}
use Rattle.base_readers.specs.Texts.{bytes}
use Rattle.block_rules.specs.Fields.{Field, fields}
use Rattle.arc_rules.specs.declared.Judged.{Judged}
use Rattle.arc_rules.specs.Terms.{Known as KnownFields}
use Rattle.arc_rules.specs.Accepted.{kind_of, is_arc}
use Rattle.arc_rules.specs.Reasons.{unread, repeats, first_unread, first_repeating, FirstAt}
use Rattle.arc_rules.proofs.Unfolding as arc-opened
use Rattle.arc_rules.proofs.ReasonExamples as reason-opened
use Rattle.arc_laws.proofs.BuiltExactly as judge-laws
use Rattle.arc_laws.proofs.ReasonsExactly as reason-laws
use Rattle.promises.specs.Exactly.{Exactly}
use Rattle.promises.specs.Calls.{judges}
use Rattle.promises.proofs.Demand2.{failed_for, judge-failed, judge-failed-a, judge-failed-b, judge-failed-c, judge-failed-d, judge-failed-e, judge-else}

module _ (block verdicts : List ℕ) (k : KnownFields block) where
  abbrev fs : List Field
  fs = (fields block).items

  -- Reasons a and b name the first such field (in b the repeating one) by its number among all fields from 1, the others give 0
  pub judge-field-a : (judges block verdicts).reason ≡ 1 → judges block verdicts ≡ failed_for 1 (first_unread fs)
  judge-field-a e = judge-failed block verdicts 1 (first_unread fs) k (reason-laws.when-unread fs ((judge-failed-a block verdicts k).0 e))

  pub judge-field-b : (judges block verdicts).reason ≡ 2 → judges block verdicts ≡ failed_for 2 (first_repeating fs)
  judge-field-b e = judge-failed block verdicts 2 (first_repeating fs) k (reason-laws.when-repeated fs ((judge-failed-b block verdicts k).0 e))

  pub judge-field-0 : 3 ≤ (judges block verdicts).reason → judges block verdicts ≡ failed_for (judges block verdicts).reason 0
  judge-field-0 h = let q = reason-laws.judge-others block verdicts k h in judge-failed block verdicts (judges block verdicts).reason 0 k q

  -- the same, said of that field and those before it: field n is the first ARC field that doesn't read; all read, and it is the first whose kind one before
  -- it has at the same instance
  pub judge-first-a : (n : ℕ) → Exactly (judges block verdicts ≡ failed_for 1 n) (FirstAt (λ before f. unread f) fs n)
  judge-first-a n = (
    (λ e. (reason-laws.unread-first fs n).0 (reason-laws.judge-names block verdicts k 1 n (lit≤ tt) (ap (λ (x : Judged). x.reason) e) (ap (λ (x : Judged). x.field) e))),
    λ w. judge-failed block verdicts 1 n k ((reason-laws.unread-first fs n).1 w),
  )

  pub judge-first-b : (n : ℕ) → Exactly (judges block verdicts ≡ failed_for 2 n) ((first_unread fs ≡ 0) × FirstAt repeats fs n)
  judge-first-b n = (
    (λ e. (reason-laws.repeated-first fs n).0 (reason-laws.judge-names block verdicts k 2 n (lit≤ tt) (ap (λ (x : Judged). x.reason) e) (ap (λ (x : Judged). x.field) e))),
    λ w. judge-failed block verdicts 2 n k ((reason-laws.repeated-first fs n).1 w),
  )

-- a block for each: a field that doesn't read; each kind repeated at its instance; no seal; a seal with fail, with pass, and with none
abbrev set : List ℕ → List ℕ
set cv =
    bytes "ARC-Authentication-Results: i=1;\r\nARC-Message-Signature: i=1;a=;b=;bh=;d=;h=;s=\r\n"
    ++ (bytes "ARC-Seal: i=1;a=;b=;d=;s=;cv=" ++ (cv ++ bytes "\r\n"))

abbrev unreadable : List ℕ
unreadable = bytes "A:\r\nARC-Seal: i=1\r\n"

a-example : judges unreadable [] ≡ failed_for 1 2
unfolding reason-opened.opened
a-example = judge-field-a unreadable [] (lit≤ tt, refl) ((judge-failed-a unreadable [] (lit≤ tt, refl)).1 (lit≤ tt))

abbrev repeated : List ℕ
repeated = set (bytes "none") ++ (bytes "A:\r\n" ++ set (bytes "none"))

b-example : judges repeated [] ≡ failed_for 2 5
unfolding reason-opened.opened
b-example = judge-field-b repeated [] (lit≤ tt, refl) ((judge-failed-b repeated [] (lit≤ tt, refl)).1 (refl, lit≤ tt))

first-example : FirstAt (λ before f. unread f) (fields unreadable).items 2 × FirstAt repeats (fields repeated).items 5
unfolding reason-opened.opened
first-example = ((judge-first-a unreadable [] (lit≤ tt, refl) 2).0 a-example, ((judge-first-b repeated [] (lit≤ tt, refl) 5).0 b-example).1)

abbrev unsealed : List ℕ
unsealed = bytes "ARC-Authentication-Results: i=1;\r\nARC-Message-Signature: i=1;a=;b=;bh=;d=;h=;s=\r\n"

c-example : ((judges unsealed []).reason ≡ 3) × (judges unsealed [] ≡ failed_for 3 0)
unfolding reason-opened.opened
c-example = ((judge-failed-c unsealed [] (lit≤ tt, refl)).1 (refl, (refl, refl)), judge-field-0 unsealed [] (lit≤ tt, refl) (lit≤ tt))

d-example : ((judges (set (bytes "fail")) []).reason ≡ 4) × (judges (set (bytes "fail")) [] ≡ failed_for 4 0)
unfolding reason-opened.opened
d-example =
    ((judge-failed-d (set (bytes "fail")) [] (lit≤ tt, refl)).1 (refl, (refl, (refl, refl))), judge-field-0 (set (bytes "fail")) [] (lit≤ tt, refl) (lit≤ tt))

e-example : ((judges (set (bytes "pass")) []).reason ≡ 5) × (judges (set (bytes "pass")) [] ≡ failed_for 5 0)
unfolding reason-opened.opened
e-example =
    ((judge-failed-e (set (bytes "pass")) [] (lit≤ tt, refl)).1 (refl, (refl, (refl, (refl, refl)))), judge-field-0 (set (bytes "pass")) [] (lit≤ tt, refl) (lit≤ tt))

else-example : ((judges (set (bytes "none")) (3 ∷ [])).outcome ≡ 2) × ((judges (set (bytes "none")) (3 ∷ [])).instances ≡ 1)
unfolding reason-opened.opened
else-example = judge-else (set (bytes "none")) (3 ∷ []) (lit≤ tt, refl) (refl, (refl, (refl, (refl, refl)))) (lit≤ tt) refl

-- ==== the judgement of a chain: none

-- exactly where there are no such fields, whatever the verdicts
pub judge-none : (block verdicts : List ℕ) → KnownFields block
    → Exactly (judges block verdicts ≡ record { number = 0; place = 0; outcome = 0; reason = 0; field = 0; instances = 0; status = 0; oldest = 0 })
    ((f : Field) → Memᴰ f (fields block).items → is_arc (kind_of f) ≡ false)
judge-none block verdicts k =
    let l = judge-laws.none-exactly block verdicts k in
    ((λ e. l.0 (ap (λ (x : Judged). x.number) e, ap (λ (x : Judged). x.outcome) e)), (λ h. rw (l.1 h)))

-- a block without ARC fields
none-example : judges (bytes "A:\r\n") (9 ∷ []) ≡ record { number = 0; place = 0; outcome = 0; reason = 0; field = 0; instances = 0; status = 0; oldest = 0 }
unfolding arc-opened.opened
none-example = (judge-none (bytes "A:\r\n") (9 ∷ []) (lit≤ tt, refl)).1 others
  where
    others : (f : Field) → Memᴰ f (fields (bytes "A:\r\n")).items → is_arc (kind_of f) ≡ false
    others f m = ap (λ (g : Field). is_arc (kind_of g)) (Memᴰ.eq_of_singleton m)

-- verdicts are read only where the chain is built
pub judge-unread : (block vs ws : List ℕ) → ((judges block vs).outcome ≡ 2 → ⊥) → ((judges block vs).number ≡ 10 → ⊥) → judges block vs ≡ judges block ws
judge-unread block vs ws a b = rw (judge-laws.unread-unless-built block vs ws a b)

-- a field alone fails for (c), and a block without ARC fields is none, whatever is handed in as verdicts
unread-example : (judges (bytes "ARC-Authentication-Results: i=1;\r\n") [] ≡ judges (bytes "ARC-Authentication-Results: i=1;\r\n") (9 ∷ []))
    × (judges (bytes "A:\r\n") [] ≡ judges (bytes "A:\r\n") (9 ∷ []))
unfolding arc-opened.opened
unread-example = (
  judge-unread (bytes "ARC-Authentication-Results: i=1;\r\n") [] (9 ∷ []) (λ e. omega (arith, e)) (λ e. omega (arith, e)),
  judge-unread (bytes "A:\r\n") [] (9 ∷ []) (λ e. omega (arith, e)) (λ e. omega (arith, e)),
)
