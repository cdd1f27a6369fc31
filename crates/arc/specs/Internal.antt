-- What private functions say: no public contract cites these.
use Rattle.std.specs.Prelude.{ℕ, ◌<◌, ◌≡◌, Bool, true, false, List, [], length, get_or, Option, Some, None}
use Rattle.std.proofs.Math.Option as math
use Rattle.std.proofs.Math.Option.{none, some}
use Rattle.base_readers.specs.Parsers.{nothing, got}
use Rattle.block_rules.specs.Fields.{fields}
use Rattle.arc.specs.declared.Field.{Field}
use Rattle.arc.specs.declared.Counts.{Counts}
use Rattle.arc.specs.declared.Gathered.{Gathered}
use Rattle.arc_rules.specs.declared.Kind.{Kind}
use Rattle.arc_rules.specs.declared.Kind.TheVariants.{Results, Signature, Seal, Other}
use Rattle.arc_rules.specs.Sets.{last_instance, Said, says}
use Rattle.arc_rules.specs.Chain.{Sets, gathered, Outcome, complete_outcome}

-- ==== fields

abbrev pub field_said : Option Field → math.Option Said
field_said (Some f) = some (record { instance = f.instance; cv = f.cv })
field_said None = none

unfoldable pub said_of : Kind → List ℕ → math.Option Said
said_of k body = elim (says k body) [ nothing ↦ none | got x n ↦ some x ]

abbrev pub is_other : Kind → Bool
is_other Results = false
is_other Signature = false
is_other Seal = false
is_other Other = true

-- ==== the chain

abbrev pub sets_of : List (List ℕ) → List ℕ → Counts → Sets
sets_of places cvs c = record { places = places; cvs = cvs; unreadable = c.unreadable; repeated = c.repeated; highest = c.highest }

abbrev pub no_counts : Counts
no_counts = record { unreadable = 0; repeated = 0; highest = 0 }

-- the fields up to the first refusal are noted, and the refusal is returned
pub record GatheredFrom (s : List ℕ) (p : List (List ℕ)) (v : List ℕ) (p' : List (List ℕ)) (v' : List ℕ) (r : Gathered) : Type 0 where
  pub number : r.number ≡ (fields s).number
  pub place : r.place ≡ (fields s).place
  pub sets : sets_of p' v' r.counts ≡ gathered 0 (fields s).items (sets_of p v no_counts)

-- fifty instances with three places each. (Of an array behind a reference the code isn't told how long it is.)
pub record Places (p : List (List ℕ)) : Type 0 where
  pub instances : length p ≡ last_instance
  pub kinds : (i : ℕ) → i < last_instance → length (get_or p i []) ≡ 3

abbrev pub ranked_by : ℕ → List (List ℕ) → List ℕ → Outcome
ranked_by n p v = complete_outcome n (sets_of p v (record { unreadable = 0; repeated = 0; highest = n }))
