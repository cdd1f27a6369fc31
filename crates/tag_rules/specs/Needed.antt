-- Document 01, "The chain": which tags a signature and a seal need, and what the chain value of a seal says.
use Rattle.std.specs.Prelude.{ℕ, Bool, not, cond, ◌&&◌, List, [], ◌∷◌, eqb}
use Rattle.base_readers.specs.Texts.{bytes}
use Rattle.lexis_rules.specs.Bytes.{alike}
use Rattle.tag_rules.specs.Tags.{Tag, named, unrepeated, needs, value_named}

-- none twice, no second i
unfoldable pub sound : List Tag → Bool
sound ts = unrepeated ts && not (named ts (bytes "i"))

-- cv none, pass and fail in any case: 1, 2 and 3; 0 for anything else
unfoldable pub chain_value : List ℕ → ℕ
chain_value v = cond (alike v (bytes "none")) 1 (cond (alike v (bytes "pass")) 2 (cond (alike v (bytes "fail")) 3 0))

-- A signature needs a, b, bh, d, h and s
abbrev pub signature_tags : List (List ℕ)
signature_tags = bytes "a" ∷ bytes "b" ∷ bytes "bh" ∷ bytes "d" ∷ bytes "h" ∷ bytes "s" ∷ []

unfoldable pub is_signature : List Tag → Bool
is_signature ts = sound ts && needs signature_tags ts

-- A seal needs a, b, d, s and cv, has no h, and its cv is none, pass or fail in any case
abbrev pub seal_tags : List (List ℕ)
seal_tags = bytes "a" ∷ bytes "b" ∷ bytes "d" ∷ bytes "s" ∷ bytes "cv" ∷ []

unfoldable pub is_seal : List Tag → Bool
is_seal ts =
    sound ts
    && needs seal_tags ts
    && not (named ts (bytes "h"))
    && not (eqb (chain_value (value_named (bytes "cv") ts)) 0)
