-- How many sets the chain of a block has (RFC 8617, section 4.2; 01, The chain).
use Rattle.std.specs.Prelude.{ℕ, zero, suc, true, false, List, ltb, length}
use Rattle.lexis_rules.specs.Limits.{byte_limit}
use Rattle.block_rules.specs.Fields.{fields}
use Rattle.arc_rules.specs.Chain.{Outcome, none, failed, built, outcome}

-- those of a chain that is built; else none are told
abbrev pub built_of : Outcome → ℕ
built_of none = 0
built_of (failed r f) = 0
built_of (built n) = n

-- of the fields of a block that is not refused
unfoldable pub sets_of : List ℕ → ℕ
sets_of block =
    elim (ltb byte_limit (length block)) [
      | true ↦ 0
      | false ↦ (elim (fields block).number [ suc n ↦ 0 | zero ↦ built_of (outcome (fields block).items) ])
    ]
