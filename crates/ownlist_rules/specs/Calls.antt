-- The order of refusals of a call that is handed a block, or a field body, and our own list: document 01, "Answer numbers": stripping 1, 5, then 2 to 4,
-- then 6. In each definition `refuse` makes the call's refusal from its number and place.
use Rattle.std.specs.Prelude.{ℕ, zero, suc, ◌≤◌, ◌≡◌, true, false, List, ltb, length}
use Rattle.base_readers.specs.Walks.{Walked}
use Rattle.lexis_rules.specs.Limits.{byte_limit}
use Rattle.block_rules.specs.Fields.{Field, fields}
use Rattle.ownlist_rules.specs.OwnList.{own_list}

-- a walk's refusal, or what its items give
abbrev pub or_refusal : {A B : Type 0} → (ℕ → ℕ → B) → Walked A → (List A → B) → B
or_refusal refuse w f = elim w.number [ zero ↦ f w.items | suc n ↦ refuse (suc n) w.place ]

-- 01, Answer numbers: 1, a block or body over 65,536 bytes: 0; then 5, a bad own list: the start of its first bad entry; else what its entries give
abbrev pub by_list : {B : Type 0} → (ℕ → ℕ → B) → List ℕ → List ℕ → (List (List ℕ) → B) → B
by_list refuse s list f = elim (ltb byte_limit (length s)) [ true ↦ refuse 1 0 | false ↦ or_refusal refuse (own_list list) f ]

-- 01, Answer numbers: then 2 to 4, by the walk over the fields of a block; else what its fields give
abbrev pub by_fields : {B : Type 0} → (ℕ → ℕ → B) → List ℕ → (List Field → B) → B
by_fields refuse block f = or_refusal refuse (fields block) f

-- 01, Answer numbers: then 6, lent output shorter than the whole output: the bytes needed
abbrev pub or_short : {B : Type 0} → (ℕ → ℕ → B) → ℕ → ℕ → B → B
or_short refuse room size a = elim (ltb room size) [ true ↦ refuse 6 size | false ↦ a ]

-- what theorems speak of: none of 1 to 5 is given. The block is within the limit, the list is good, and the walk over the block comes to its end
abbrev pub Known : List ℕ → List ℕ → Type 0
Known block list = (length block ≤ byte_limit) × (((own_list list).number ≡ 0) × ((fields block).number ≡ 0))
