-- The words of a judgement in parts, which private functions write. No public contract cites these.
use Rattle.std.specs.Prelude.{ℕ, cond, List, [], ◌++◌, eqb}
use Rattle.base_readers.specs.Texts.{bytes}
use Rattle.text_decimals_rules.specs.Decimals.{decimal}
use Rattle.text_write.specs.Phrases.{phrase}
use Rattle.arc_rules.specs.declared.Judged.{Judged}
use Rattle.judgement_rules.specs.Judgement.{sets_words, oldest_words, status_words}

-- one phrase for 0, and for another number the other phrase and its digits
unfoldable pub numbered : List ℕ → ℕ → List ℕ
numbered all n = phrase n all ++ cond (eqb n 0) [] (decimal n)

-- how many sets there are, and what divides it from the verdict
abbrev pub sets_on : ℕ → List ℕ
sets_on n = sets_words n ++ bytes "; "

-- a chain that passes
abbrev pub pass_words : ℕ → List ℕ
pass_words n = bytes "pass: every seal and the last signature are good" ++ oldest_words n

-- a chain that is built
abbrev pub built_words : Judged → List ℕ
built_words j = sets_on j.instances ++ status_words j.status j.oldest
