-- The numbers of a judgement are small, so 512 bytes have room for what is said of it.
use Prim.Native.Nat.{ℕ, zero, suc, ◌+◌, ◌-◌, ◌≤◌}
use native.Mathlib.Omega.{arith}
use mathlib.Core.Path.{◌≡◌, refl, ap}
use mathlib.Core.Bool.{Bool, true, false, cond}
use mathlib.Core.List.{List, [], ◌∷◌}
use borrow.Author.Tests.{eqb-true}
use lib.Dec.{eqb}
use lib.ListN.{length, get_or, take}
use Rattle.base_sequences.proofs.Booleans.{and_left}
use Rattle.base_readers.specs.Parsers.{Got, nothing, got}
use Rattle.block_rules.specs.Fields.{Field, name_of, body_of, fields}
use Rattle.block_laws.proofs.Fields.{fields-fine}
use Rattle.arc_rules.specs.declared.Kind.{Kind}
use Rattle.arc_rules.specs.declared.Kind.TheVariants.{Results, Signature, Seal, Other}
use Rattle.arc_rules.specs.Sets.{kind_named, Said, says}
use Rattle.arc_rules.specs.Chain.{Sets, no_sets, place_of, placed, recorded, noted, gathered, Outcome, none, failed, built, any_empty, prescribed, complete_outcome, outcome_of, outcome, signature_good, valid_for, passes, oldest_from, Answer, judge}
use Rattle.arc_rules.specs.Answers.{answer_of}
use Rattle.arc_laws.proofs.Gathering.{sets-told}
use Rattle.arc_laws.proofs.Numbers.{way, long, cut, without, fails, bad, whole}
use Rattle.judgement_rules.specs.Judgement.{judgement}
use Rattle.judgement_rules.proofs.JudgementsFit.{judgement-short}

-- ==== the field that a failed chain names is one of the block

-- no number of a field is past the last one
record Low (n : ℕ) (z : Sets) : Type 0 where
  unread : z.unreadable ≤ n
  again : z.repeated ≤ n

first-low : (a n : ℕ) → a ≤ n → cond (eqb a 0) (suc n) a ≤ suc n
first-low a n h = go (eqb a 0)
  where
    go : (t : Bool) → cond t (suc n) a ≤ suc n
    go true = omega arith
    go false = omega (arith, h)

recorded-low : (n : ℕ) (k : Kind) (g : Got Said) (z : Sets) → Low n z → Low (suc n) (recorded (suc n) k g z)
unfolding placed
recorded-low n k nothing z l = record { unread = first-low z.unreadable n l.unread; again = omega (arith, l.again) }
recorded-low n k (got x m) z l = go (eqb (place_of z.places x.instance k) 0) refl
  where
    go : (t : Bool) → eqb (place_of z.places x.instance k) 0 ≡ t → Low (suc n) (placed (suc n) k x z)
    go true e = rw (placed, e) (record { unread = omega (arith, l.unread); again = omega (arith, l.again) })
    go false e = rw (placed, e) (record { unread = omega (arith, l.unread); again = first-low z.repeated n l.again })

noted-low : (n : ℕ) (k : Kind) (body : List ℕ) (z : Sets) → Low n z → Low (suc n) (noted (suc n) k body z)
noted-low n Results body z l = recorded-low n Results (says Results body) z l
noted-low n Signature body z l = recorded-low n Signature (says Signature body) z l
noted-low n Seal body z l = recorded-low n Seal (says Seal body) z l
noted-low n Other body z l = record { unread = omega (arith, l.unread); again = omega (arith, l.again) }

gathered-low : (n : ℕ) (fs : List Field) (z : Sets) → Low n z → Low (n + length fs) (gathered n fs z)
unfolding gathered
gathered-low n [] z l = record { unread = omega (arith, l.unread); again = omega (arith, l.again) }
gathered-low n (f ∷ fs) z l =
    let w = gathered-low (suc n) fs (noted (suc n) (kind_named (name_of f)) (body_of f) z) (noted-low n (kind_named (name_of f)) (body_of f) z l) in
    record { unread = omega (arith, w.unread); again = omega (arith, w.again) }

-- the field that is named, and the sets that there are
abbrev field_in : Outcome → ℕ
field_in none = 0
field_in (failed r f) = f
field_in (built n) = 0

abbrev sets_in : Outcome → ℕ
sets_in none = 0
sets_in (failed r f) = 0
sets_in (built n) = n

complete-low : (n : ℕ) (z : Sets) → (field_in (complete_outcome n z) ≡ 0) × (sets_in (complete_outcome n z) ≤ n)
unfolding complete_outcome
complete-low n z = empty (any_empty (take n z.places)) refl
  where
    rest : (t : Bool) → prescribed (take n z.cvs) ≡ t → any_empty (take n z.places) ≡ false → eqb (get_or z.cvs (n - 1) 0) 3 ≡ false
        → (field_in (complete_outcome n z) ≡ 0) × (sets_in (complete_outcome n z) ≤ n)
    rest true e p q = rw (complete_outcome, p, q, e) (refl, omega arith)
    rest false e p q = rw (complete_outcome, p, q, e) (refl, omega arith)

    last : (t : Bool) → eqb (get_or z.cvs (n - 1) 0) 3 ≡ t → any_empty (take n z.places) ≡ false → (field_in (complete_outcome n z) ≡ 0) × (sets_in (complete_outcome n z) ≤ n)
    last true e p = rw (complete_outcome, p, e) (refl, omega arith)
    last false e p = rest (prescribed (take n z.cvs)) refl p e

    empty : (t : Bool) → any_empty (take n z.places) ≡ t → (field_in (complete_outcome n z) ≡ 0) × (sets_in (complete_outcome n z) ≤ n)
    empty true e = rw (complete_outcome, e) (refl, omega arith)
    empty false e = last (eqb (get_or z.cvs (n - 1) 0) 3) refl e

outcome-low : (m : ℕ) (z : Sets) → Low m z → (field_in (outcome_of z) ≤ m) × (sets_in (outcome_of z) ≤ z.highest)
unfolding outcome_of
outcome-low m z l = unread z.unreadable refl
  where
    highest : (h : ℕ) → z.highest ≡ h → z.unreadable ≡ 0 → z.repeated ≡ 0 → (field_in (outcome_of z) ≤ m) × (sets_in (outcome_of z) ≤ z.highest)
    highest zero e p q = rw (outcome_of, p, q, e) (omega arith, omega arith)
    highest (suc n) e p q = let w = complete-low (suc n) z in rw (outcome_of, p, q, e) (omega (arith, w.0), omega (arith, w.1))

    again : (b : ℕ) → z.repeated ≡ b → z.unreadable ≡ 0 → (field_in (outcome_of z) ≤ m) × (sets_in (outcome_of z) ≤ z.highest)
    again zero e p = highest z.highest refl p e
    again (suc b) e p = rw (outcome_of, p, e) (omega (arith, l.again, e), omega arith)

    unread : (a : ℕ) → z.unreadable ≡ a → (field_in (outcome_of z) ≤ m) × (sets_in (outcome_of z) ≤ z.highest)
    unread zero e = again z.repeated refl e
    unread (suc a) e = rw (outcome_of, e) (omega (arith, l.unread, e), omega arith)

chain-low : (fs : List Field) → (field_in (outcome fs) ≤ length fs) × (sets_in (outcome fs) ≤ 50)
chain-low fs =
    let w = outcome-low (0 + length fs) (gathered 0 fs no_sets) (gathered-low 0 fs no_sets (record { unread = omega arith; again = omega arith })) in
    let h = (sets-told fs).most in
    (omega (arith, w.0), omega (arith, w.1, h))

-- ==== the oldest-pass is at most one more than the sets

oldest-low : (i : ℕ) (vs : List ℕ) → oldest_from i vs ≤ i + length vs
unfolding oldest_from
oldest-low i [] = omega arith
oldest-low i (v ∷ vs) = go (oldest_from (suc i) vs) refl (oldest-low (suc i) vs)
  where
    good : (t : Bool) → cond t 0 (suc i) ≤ i + length (v ∷ vs)
    good true = omega arith
    good false = omega arith

    go : (m : ℕ) → oldest_from (suc i) vs ≡ m → oldest_from (suc i) vs ≤ suc i + length vs → oldest_from i (v ∷ vs) ≤ i + length (v ∷ vs)
    go (suc m) e ih = rw (oldest_from, e) (omega (arith, ih, e))
    go zero e ih = rw (oldest_from, e) (good (signature_good v))

-- ==== a judgement

record Small (a : Answer) : Type 0 where
  field-low : a.field ≤ 512
  instances-low : a.instances ≤ 50
  oldest-small : a.oldest ≤ 51

judge-small : (block vs : List ℕ) → Small (judge block vs)
unfolding valid_for
judge-small block vs =
    elim (way block vs) [
      | long l q ↦ rw q (record { field-low = omega arith; instances-low = omega arith; oldest-small = omega arith })
      | cut l n f i j q ↦ rw q (record { field-low = omega arith; instances-low = omega arith; oldest-small = omega arith })
      | without l f o q ↦ rw q (record { field-low = omega arith; instances-low = omega arith; oldest-small = omega arith })
      | fails l f r g o q ↦
          (let w = chain-low (fields block).items in
          let e : field_in (outcome (fields block).items) ≡ g = ap field_in o in
          let few = (fields-fine block f).few in
          rw q (record { field-low = omega (arith, w.0, e, few); instances-low = omega arith; oldest-small = omega arith }))
      | bad l f n o v q ↦ rw q (record { field-low = omega arith; instances-low = omega arith; oldest-small = omega arith })
      | whole l f n o v q ↦
          (let w = chain-low (fields block).items in
          let e : sets_in (outcome (fields block).items) ≡ n = ap sets_in o in
          let m : length vs ≡ n = eqb-true (length vs) n (and_left _ _ v) in
          let k : cond (passes vs) (oldest_from 1 vs) 0 ≤ 51 = either (passes vs) (omega (arith, oldest-low 1 vs, m, w.1, e)) in
          rw q (record { field-low = omega arith; instances-low = omega (arith, w.1, e); oldest-small = k }))
    ]
  where
    either : (t : Bool) → oldest_from 1 vs ≤ 51 → cond t (oldest_from 1 vs) 0 ≤ 51
    either true h = h
    either false h = omega arith

-- what is said of the judgement of any block by any verdicts
pub judgement-fits : (block vs : List ℕ) → length (judgement (answer_of (judge block vs))) ≤ 512
judgement-fits block vs =
    let w = judge-small block vs in
    judgement-short (answer_of (judge block vs)) (omega (arith, w.field-low)) (omega (arith, w.instances-low)) (omega (arith, w.oldest-small))
