-- Demand 2's sentence on chains: an ARC structure is accepted exactly when every ARC field reads, and instances 1 to N, N from 1 to 50,
-- each have one field of each kind and the chain values RFC 8617 prescribes. Said of the fields themselves, not of the table of places.
use Rattle.std.specs.Prelude.{ℕ, ◌≤◌, ◌<◌, ◌≡◌, Bool, true, false, cond, ◌&&◌, eqb, length}
use mathlib.Core.List.{List, Memᴰ}
use Rattle.base_readers.specs.Parsers.{Got, nothing, got}
use Rattle.block_rules.specs.Fields.{Field, name_of, body_of, select}
use Rattle.arc_rules.specs.declared.Kind.{Kind}
use Rattle.arc_rules.specs.declared.Kind.TheVariants.{Results, Signature, Seal, Other}
use Rattle.arc_rules.specs.Sets.{kind_named, first_instance, last_instance, Said, says}

abbrev pub kind_of : Field → Kind
kind_of f = kind_named (name_of f)

abbrev pub is_arc : Kind → Bool
is_arc Results = true
is_arc Signature = true
is_arc Seal = true
is_arc Other = false

-- what a field says
abbrev pub said_by : Field → Got Said
said_by f = says (kind_of f) (body_of f)

unfoldable pub reads : Field → Bool
reads f = elim (said_by f) [ nothing ↦ false | got x n ↦ true ]

abbrev pub same_kind : Kind → Kind → Bool
same_kind Results k = elim k [ Results ↦ true | Signature ↦ false | Seal ↦ false | Other ↦ false ]
same_kind Signature k = elim k [ Results ↦ false | Signature ↦ true | Seal ↦ false | Other ↦ false ]
same_kind Seal k = elim k [ Results ↦ false | Signature ↦ false | Seal ↦ true | Other ↦ false ]
same_kind Other k = elim k [ Results ↦ false | Signature ↦ false | Seal ↦ false | Other ↦ true ]

-- a field of this kind, which reads, at this instance
unfoldable pub stands_at : Kind → ℕ → Field → Bool
stands_at k i f = same_kind k (kind_of f) && (elim (said_by f) [ nothing ↦ false | got x n ↦ eqb x.instance i ])

-- how many there are
abbrev pub fields_at : Kind → ℕ → List Field → ℕ
fields_at k i fs = length (select (stands_at k i) fs)

-- none at instance 1 and pass after it (RFC 8617, 5.2)
abbrev pub cv_prescribed : ℕ → ℕ
cv_prescribed i = cond (eqb i 1) 1 2

pub record Accepted (fs : List Field) (n : ℕ) : Type 0 where
  -- N from 1 to 50
  pub from : first_instance ≤ n
  pub to : n ≤ last_instance
  -- every ARC field reads
  pub reads : (f : Field) → Memᴰ f fs → is_arc (kind_of f) ≡ true → reads f ≡ true
  -- instances 1 to N each have one field of each kind
  pub one : (k : Kind) → is_arc k ≡ true → (i : ℕ) → 1 ≤ i → i ≤ n → fields_at k i fs ≡ 1
  -- and there are no others
  pub none : (k : Kind) → is_arc k ≡ true → (i : ℕ) → n < i → fields_at k i fs ≡ 0
  -- the chain values
  pub cv : (f : Field) → Memᴰ f fs → (x : Said) (m : ℕ) → kind_of f ≡ Seal → said_by f ≡ got x m → x.cv ≡ cv_prescribed x.instance
