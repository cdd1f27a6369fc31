-- Texts as they are shown and read back, at worked examples on both sides of each clause.
use Prim.Native.Nat.{ℕ}
use mathlib.Core.Path.{◌≡◌, refl}
use mathlib.Core.Bool.{true, false}
use mathlib.Core.List.{List, [], ◌∷◌, ◌++◌, map}
use Rattle.base_readers.specs.Texts.{bytes}
use Rattle.explain_rules.specs.Texts.{decoded, in_word, is_word, read_shown}
use Rattle.explain_rules.specs.Explained.{shown, text}
use Rattle.explain_rules.proofs.Unfolding.{opened}

-- ==== the escaping of a report undone

decoded-space : decoded (bytes "SPF%20not%20aligned") ≡ bytes "SPF not aligned"
unfolding opened
decoded-space = refl

-- each digit counts at its place, up to the last byte there is
decoded-digits : decoded (bytes "%00%09%0A%1B%25%7F%80%A9%FF") ≡ 0 ∷ 9 ∷ 10 ∷ 27 ∷ 37 ∷ 127 ∷ 128 ∷ 169 ∷ 255 ∷ []
unfolding opened
decoded-digits = refl

-- a percent sign that comes of a code starts none
decoded-once : decoded (bytes "%2541") ≡ bytes "%41"
unfolding opened
decoded-once = refl

-- what is no code stands for itself: a lower-case digit, one digit alone, a letter behind F, bytes next to the digits, a percent sign before a code
decoded-other : decoded (bytes "%2f%4") ∷ decoded (bytes "%G0%0G%:0%/0") ∷ decoded (bytes "%%41%") ∷ decoded [] ∷ []
    ≡ bytes "%2f%4" ∷ bytes "%G0%0G%:0%/0" ∷ bytes "%A%" ∷ [] ∷ []
unfolding opened
decoded-other = refl

-- ==== plain words

words-bare : map is_word (bytes "a" ∷ bytes "AZaz09" ∷ bytes "mx.example.com" ∷ bytes "@a_b-c+d/e" ∷ []) ≡ true ∷ true ∷ true ∷ true ∷ []
unfolding opened
words-bare = refl

-- each byte that parts things, and those next to the ranges of a word; an empty text is no word
words-quoted : map in_word (bytes " !\"#$%&'()*,:;<=>?[\\]^`{|}~") ≡ map (λ _. false) (bytes " !\"#$%&'()*,:;<=>?[\\]^`{|}~")
unfolding opened
words-quoted = refl

word_none : map is_word ([] ∷ bytes "a b" ∷ bytes "a," ∷ bytes ":a" ∷ (128 ∷ []) ∷ (10 ∷ []) ∷ []) ≡ false ∷ false ∷ false ∷ false ∷ false ∷ false ∷ []
unfolding opened
word_none = refl

-- ==== what is shown

shown-word : shown (bytes "mx.example.com") ∷ shown (bytes "%41%42") ∷ [] ≡ bytes "mx.example.com" ∷ bytes "AB" ∷ []
unfolding opened
shown-word = refl

shown-reason : shown (bytes "SPF%20not%20aligned") ≡ bytes "\"SPF not aligned\""
unfolding opened
shown-reason = refl

-- a value that looks like more is shown as one
shown-dressed : shown (bytes "a,header.from:bank.example,dmarc:pass") ∷ shown (bytes "dmarc=pass") ∷ [] ≡ bytes "\"a,header.from:bank.example,dmarc:pass\"" ∷ bytes "\"dmarc=pass\"" ∷ []
unfolding opened
shown-dressed = refl

-- nothing is shown as an empty text
shown-empty : shown [] ≡ bytes "\"\""
unfolding opened
shown-empty = refl

-- a text can't end its own quotes, nor make a backslash look like ours
shown-quote : shown (bytes "a\", dmarc: pass") ∷ shown (bytes "\\") ∷ shown (bytes "\\\"") ∷ [] ≡ bytes "\"a\\\", dmarc: pass\"" ∷ bytes "\"\\\\\"" ∷ bytes "\"\\\\\\\"\"" ∷ []
unfolding opened
shown-quote = refl

-- bytes outside of 32 to 126, by code or as they are, by two upper-case digits; those next to them as they are
shown-hex : shown (bytes "%00%0A%1B%1F%20~%7F%80%AF%FF") ∷ shown (27 ∷ 171 ∷ []) ∷ [] ≡ bytes "\"\\x00\\x0A\\x1B\\x1F ~\\x7F\\x80\\xAF\\xFF\"" ∷ bytes "\"\\x1B\\xAB\"" ∷ []
unfolding opened
shown-hex = refl

-- a percent sign is shown as one, also before two digits
shown-percent : shown (bytes "100%25") ∷ shown (bytes "%2g") ∷ shown (bytes "%2541") ∷ [] ≡ bytes "\"100%\"" ∷ bytes "\"%2g\"" ∷ bytes "\"%41\"" ∷ []
unfolding opened
shown-percent = refl

-- the text of the first column alone
text-column : text (bytes "a%20b\tc") ≡ bytes "\"a b\""
unfolding opened
text-column = refl

-- ==== what is read back

read_word : read_shown (bytes "a.b: c") ∷ read_shown (bytes "ab") ∷ read_shown (bytes ",a") ∷ read_shown [] ∷ []
    ≡ record { text = bytes "a.b"; rest = bytes ": c" } ∷ record { text = bytes "ab"; rest = [] } ∷ record { text = []; rest = bytes ",a" } ∷ record { text = []; rest = [] } ∷ []
unfolding opened
read_word = refl

read-quoted : read_shown (bytes "\"a\\\"\\\\\\x1B \\xFF, b: c\", d") ∷ read_shown (bytes "\"\"\"\"") ∷ read_shown (bytes "\"a") ∷ []
    ≡ record { text = bytes "a\"\\" ++ (27 ∷ 32 ∷ 255 ∷ bytes ", b: c"); rest = bytes ", d" } ∷ record { text = []; rest = bytes "\"\"" } ∷ record { text = bytes "a"; rest = [] } ∷ []
unfolding opened
read-quoted = refl

-- cut behind a backslash, behind an x, and behind one digit: 0 for what is missing
read-cut : map (λ (t : List ℕ). (read_shown t).text) (bytes "\"\\" ∷ bytes "\"\\x" ∷ bytes "\"\\x4" ∷ []) ≡ (0 ∷ []) ∷ (0 ∷ []) ∷ (64 ∷ []) ∷ []
unfolding opened
read-cut = refl
