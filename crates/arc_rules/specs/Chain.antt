-- Document 01, "The chain": fifty instances with three places each, the outcome, the verdicts, and the answer.
use Rattle.std.specs.Prelude.{ℕ, zero, suc, ◌-◌, ◌%◌, Bool, true, false, cond, ◌&&◌, ◌||◌, List, [], ◌∷◌, eqb, leb, ltb, length, get_or, set, take, replicate}
use Rattle.base_readers.specs.Parsers.{Got, nothing, got}
use Rattle.lexis_rules.specs.Limits.{byte_limit}
use Rattle.block_rules.specs.Fields.{Field, name_of, body_of, fields}
use Rattle.arc_rules.specs.declared.Kind.{Kind}
use Rattle.arc_rules.specs.declared.Kind.TheVariants.{Results, Signature, Seal, Other}
use Rattle.arc_rules.specs.Sets.{kind_named, last_instance, Said, says}

-- ==== fifty instances with three places each

-- `places` has for each instance the number of the field of each kind, 0 for an empty place; `cvs` the chain value of each seal;
-- `unreadable` and `repeated` the numbers of the first such fields, 0 for none; `highest` the highest instance
pub record Sets : Type 0 where
  pub places : List (List ℕ)
  pub cvs : List ℕ
  pub unreadable : ℕ
  pub repeated : ℕ
  pub highest : ℕ

abbrev pub no_sets : Sets
no_sets = record { places = replicate last_instance (replicate 3 0); cvs = replicate last_instance 0; unreadable = 0; repeated = 0; highest = 0 }

-- where a kind stands among the three places
abbrev pub column : Kind → ℕ
column Results = 0
column Signature = 1
column Seal = 2
column Other = 3

abbrev pub place_of : List (List ℕ) → ℕ → Kind → ℕ
place_of t i k = get_or (get_or t (i - 1) []) (column k) 0

-- the first of such fields stays
abbrev pub first : ℕ → ℕ → ℕ
first a n = cond (eqb a 0) n a

-- a seal's chain value
abbrev pub sealed : Kind → ℕ → ℕ → List ℕ → List ℕ
sealed Results i c cs = cs
sealed Signature i c cs = cs
sealed Seal i c cs = set cs (i - 1) c
sealed Other i c cs = cs

-- the field with this number takes its place
abbrev pub put : ℕ → Kind → Said → Sets → Sets
put n k x z =
    record {
      places = set z.places (x.instance - 1) (set (get_or z.places (x.instance - 1) []) (column k) n);
      cvs = sealed k x.instance x.cv z.cvs;
      unreadable = z.unreadable;
      repeated = z.repeated;
      highest = cond (ltb z.highest x.instance) x.instance z.highest;
    }

-- .. unless that is taken: a repeated kind at one instance
unfoldable pub placed : ℕ → Kind → Said → Sets → Sets
placed n k x z =
    elim (eqb (place_of z.places x.instance k) 0) [
      | true ↦ put n k x z
      | false ↦ record { places = z.places; cvs = z.cvs; unreadable = z.unreadable; repeated = first z.repeated n; highest = z.highest }
    ]

abbrev pub recorded : ℕ → Kind → Got Said → Sets → Sets
recorded n k nothing z = record { places = z.places; cvs = z.cvs; unreadable = first z.unreadable n; repeated = z.repeated; highest = z.highest }
recorded n k (got x m) z = placed n k x z

-- a field of another name is passed over
abbrev pub noted : ℕ → Kind → List ℕ → Sets → Sets
noted n Results body z = recorded n Results (says Results body) z
noted n Signature body z = recorded n Signature (says Signature body) z
noted n Seal body z = recorded n Seal (says Seal body) z
noted n Other body z = z

-- all fields of a block, after the first n of them
unfoldable pub gathered : ℕ → List Field → Sets → Sets
gathered n [] z = z
gathered n (f ∷ fs) z = gathered (suc n) fs (noted (suc n) (kind_named (name_of f)) (body_of f) z)

-- ==== the outcome

-- reasons (a) to (e) are 1 to 5
pub data Outcome : Type 0 where
  none : Outcome
  failed : ℕ → ℕ → Outcome
  built : ℕ → Outcome

-- an empty place
unfoldable pub row_empty : List ℕ → Bool
row_empty [] = false
row_empty (x ∷ xs) = eqb x 0 || row_empty xs

unfoldable pub any_empty : List (List ℕ) → Bool
any_empty [] = false
any_empty (r ∷ rs) = row_empty r || any_empty rs

-- later ones are pass
unfoldable pub all_pass : List ℕ → Bool
all_pass [] = true
all_pass (c ∷ cs) = eqb c 2 && all_pass cs

-- the seal at 1 is none and each later one is pass
unfoldable pub prescribed : List ℕ → Bool
prescribed [] = true
prescribed (c ∷ cs) = eqb c 1 && all_pass cs

-- (c) with N the highest instance, an empty place in 1 to N; (d) the seal at N has cv fail; (e) the seal at 1 isn't none or a later one
-- isn't pass. Else built, with N
unfoldable pub complete_outcome : ℕ → Sets → Outcome
complete_outcome n z =
    elim (any_empty (take n z.places)) [
      | true ↦ failed 3 0
      | false ↦ (elim (eqb (get_or z.cvs (n - 1) 0) 3) [
        | true ↦ failed 4 0
        | false ↦ (elim (prescribed (take n z.cvs)) [ true ↦ built n | false ↦ failed 5 0 ])
      ])
    ]

-- none if there are no such fields; else failed for the first reason that applies: (a) an unreadable field; (b) the first repeated kind ..
unfoldable pub outcome_of : Sets → Outcome
outcome_of z =
    elim z.unreadable [
      | suc a ↦ failed 1 (suc a)
      | zero ↦ (elim z.repeated [
        | suc b ↦ failed 2 (suc b)
        | zero ↦ (elim z.highest [ zero ↦ none | suc n ↦ complete_outcome (suc n) z ])
      ])
    ]

abbrev pub outcome : List Field → Outcome
outcome fs = outcome_of (gathered 0 fs no_sets)

-- ==== verdicts

-- seal good counting 2 and signature good counting 1
abbrev pub seal_good : ℕ → Bool
seal_good v = leb 2 v

abbrev pub signature_good : ℕ → Bool
signature_good v = eqb (v % 2) 1

unfoldable pub all : (ℕ → Bool) → List ℕ → Bool
all p [] = true
all p (v ∷ vs) = p v && all p vs

-- N bytes, one per instance from 1: 0 to 3
unfoldable pub valid_for : ℕ → List ℕ → Bool
valid_for n vs = eqb (length vs) n && all (λ v. leb v 3) vs

-- The status is pass when all N seals and signature N are good
unfoldable pub passes : List ℕ → Bool
passes vs = all seal_good vs && signature_good (get_or vs (length vs - 1) 0)

-- one more than the highest instance with a bad signature, of those from i on; 0 if all are good
unfoldable pub oldest_from : ℕ → List ℕ → ℕ
oldest_from i [] = 0
oldest_from i (v ∷ vs) = elim (oldest_from (suc i) vs) [ suc m ↦ suc m | zero ↦ cond (signature_good v) 0 (suc i) ]

abbrev pub oldest_pass : List ℕ → ℕ
oldest_pass vs = oldest_from 1 vs

-- ==== the answer

-- outcome: 0 none, 1 failed, 2 built. reason: 1 to 5, else 0. status: 0 none, 1 pass, 2 fail. oldest: the oldest-pass, which there is exactly
-- where the status is pass; else 0
pub record Answer : Type 0 where
  pub number : ℕ
  pub place : ℕ
  pub outcome : ℕ
  pub reason : ℕ
  pub field : ℕ
  pub instances : ℕ
  pub status : ℕ
  pub oldest : ℕ

-- a number and its place, and 0 for everything else: also the answer to a block without such fields. 01, Answer numbers: refusals return
-- zero counts
abbrev pub blank : ℕ → ℕ → Answer
blank n p =
    record { number = n; place = p; outcome = 0; reason = 0; field = 0; instances = 0; status = 0; oldest = 0 }

-- if built, N bytes ..; any other length or byte is 10. Otherwise they aren't read, and the status is the outcome's, none or fail
unfoldable pub judged : Outcome → List ℕ → Answer
judged none vs = blank 0 0
judged (failed r f) vs =
    record { number = 0; place = 0; outcome = 1; reason = r; field = f; instances = 0; status = 2; oldest = 0 }
judged (built n) vs =
    elim (valid_for n vs) [
      | false ↦ blank 10 0
      | true ↦ (elim (passes vs) [
        | true ↦ record { number = 0; place = 0; outcome = 2; reason = 0; field = 0; instances = n; status = 1; oldest = oldest_pass vs }
        | false ↦ record { number = 0; place = 0; outcome = 2; reason = 0; field = 0; instances = n; status = 2; oldest = 0 }
      ])
    ]

-- 01, Answer numbers: ARC 1, then 2 to 4, then 10
unfoldable pub judge : List ℕ → List ℕ → Answer
judge block verdicts =
    elim (ltb byte_limit (length block)) [
      | true ↦ blank 1 0
      | false ↦ (elim (fields block).number [
        | suc n ↦ blank (suc n) (fields block).place
        | zero ↦ judged (outcome (fields block).items) verdicts
      ])
    ]
