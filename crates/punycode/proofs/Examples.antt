-- The answers and what is stored at worked examples, by computing them.
use mathlib.Core.Path.{◌≡◌, refl}
use mathlib.Core.List.{[], ◌∷◌, ◌++◌}
use Rattle.base_readers.specs.Texts.{bytes}
use Rattle.base_readers.proofs.Cases.{copies}
use Rattle.punycode_rules.proofs.Unfolding.{opened}
use Rattle.punycode.specs.declared.Decoded.TheVariants.{Text, Failed, Long}
use Rattle.punycode.specs.Answers.{decode_answer, decode_stored, spell_answer, spell_stored}

-- ==== one label behind its prefix

-- a label with one code point that is not basic, and room for all, and for a part of that code point
some-decoded : decode_answer (bytes "bcher-kva") ≡ Text 7
unfolding opened decode_answer
some-decoded = refl

some_stored : decode_stored (bytes "bcher-kva") (copies 9 7) ≡ 98 ∷ 195 ∷ 188 ∷ 99 ∷ 104 ∷ 101 ∷ 114 ∷ 7 ∷ 7 ∷ []
unfolding opened decode_stored
some_stored = refl

less-stored : decode_stored (bytes "bcher-kva") (copies 2 7) ≡ 98 ∷ 195 ∷ []
unfolding opened decode_stored
less-stored = refl

-- one that doesn't decode, of as many bytes as are decoded, and of one more
none-decoded : decode_answer (copies 1020 33) ≡ Failed
unfolding opened decode_answer
none-decoded = refl

none-stored : decode_stored (bytes "!") (copies 2 7) ≡ copies 2 7
unfolding opened decode_stored
none-stored = refl

long-decoded : decode_answer (copies 1021 33) ≡ Long
unfolding opened decode_answer
long-decoded = refl

-- one that would decode, the same
most-decoded : decode_answer (copies 1019 97 ++ bytes "-") ≡ Text 1019
unfolding opened decode_answer
most-decoded = refl

many-decoded : decode_answer (copies 1020 97 ++ bytes "-") ≡ Long
unfolding opened decode_answer
many-decoded = refl

many-stored : decode_stored (copies 1020 97 ++ bytes "-") (copies 2 7) ≡ copies 2 7
unfolding opened decode_stored
many-stored = refl

-- ==== a text

-- a label that is decoded: as many code points as can be written, and one more
most-spelled : spell_answer (bytes "xn--" ++ copies 1020 97 ++ bytes "-") ≡ 1020
unfolding opened spell_answer
most-spelled = refl

many-spelled : spell_answer (bytes "xn--" ++ copies 1021 97 ++ bytes "-") ≡ 1021
unfolding opened spell_answer
many-spelled = refl

many-unspelled : spell_stored (bytes "xn--" ++ copies 1021 97 ++ bytes "-") (copies 2 7) ≡ copies 2 7
unfolding opened spell_stored
many-unspelled = refl

-- one that doesn't decode stays as it stands: as many bytes as can be written, and one more
plain-spelled : spell_answer (bytes "xn--" ++ copies 1016 33) ≡ 1020
unfolding opened spell_answer
plain-spelled = refl

plain-stored : spell_stored (bytes "xn--!") (copies 6 7) ≡ bytes "xn--!" ++ 7 ∷ []
unfolding opened spell_stored
plain-stored = refl

long-spelled : spell_answer (bytes "xn--" ++ copies 1017 33) ≡ 1021
unfolding opened spell_answer
long-spelled = refl
