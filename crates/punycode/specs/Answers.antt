-- 02, ticket [2]: what `decode` and `spell` answer, and what they leave in the buffer that is lent to them.
use Rattle.std.specs.Prelude.{ℕ, ◌+◌, Bool, true, false, cond, List, leb, length}
use Rattle.std.proofs.Math.Option.{none, some}
use Rattle.std.proofs.lemmas.List.Edits.{sets}
use Rattle.punycode_rules.specs.Unicode.{utf8s}
use Rattle.punycode_rules.specs.Labels.{decoded, spelling, spelling_limit}
use Rattle.punycode.specs.declared.Decoded.{Decoded}
use Rattle.punycode.specs.declared.Decoded.TheVariants.{Text, Failed, Long}

-- no longer than the longest spelling of a list entry
abbrev pub fits : List ℕ → Bool
fits t = leb (length t) spelling_limit

-- the length of the code points in UTF-8, or that it doesn't decode; a label behind its prefix that is too long is not decoded
unfoldable pub decode_answer : List ℕ → Decoded
decode_answer label = elim (fits label) [ true ↦ (elim (decoded label) [ none ↦ Failed | some u ↦ Text (length (utf8s u)) ]) | false ↦ Long ]

-- the code points in UTF-8 are stored from the front on, as far as there is room
unfoldable pub decode_stored : List ℕ → List ℕ → List ℕ
decode_stored label out = elim (fits label) [ true ↦ (elim (decoded label) [ none ↦ out | some u ↦ sets out 0 (utf8s u) ]) | false ↦ out ]

-- the length of a spelling, or one more than the limit where it is over that
unfoldable pub spell_answer : List ℕ → ℕ
spell_answer t = cond (fits (spelling t)) (length (spelling t)) (spelling_limit + 1)

-- the spelling is stored from the front on, as far as there is room, if it isn't over the limit
unfoldable pub spell_stored : List ℕ → List ℕ → List ℕ
spell_stored t out = elim (fits (spelling t)) [ true ↦ sets out 0 (spelling t) | false ↦ out ]
