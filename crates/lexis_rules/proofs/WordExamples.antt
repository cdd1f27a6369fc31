-- The small pieces as parsers that yield their texts, and the code's answers at a place, at worked examples, computed.
use mathlib.Core.Path.{◌≡◌, refl}
use mathlib.Core.List.{[], ◌∷◌, map}
use Rattle.base_readers.specs.Texts.{bytes}
use Rattle.base_readers.specs.Parsers.{nothing, got, after, ◌>>=◌, give, when, skipping, text, pass}
use Rattle.base_readers.proofs.Cases.{case, Says}
use Rattle.lexis_rules.specs.declared.Value.TheVariants.{Token, Quoted, Nothing}
use Rattle.lexis_rules.specs.declared.VersionNumber.TheVariants.{Exact, Large}
use Rattle.lexis_rules.specs.Words.{skip, gap, read_value, read_keyword, read_word, read_digits}
use Rattle.lexis_rules.specs.Answers.{value_at, value_got, digits_at}
use Rattle.lexis_rules.proofs.Examples as pieces

unfoldable opened : Unit {0}
unfolding pieces.opened after ◌>>=◌ give when skipping text pass read_value read_keyword read_word read_digits value_at digits_at
opened = tt

-- 01, Results: space allowed between parts: it may be empty
skips : Says skip (case (bytes " (a)\tb") (got tt 5) ∷ case (bytes "b") (got tt 0) ∷ case [] (got tt 0) ∷ [])
unfolding opened
skips = refl

-- 01, Results: after non-empty space
gaps : Says gap (case (bytes " (a)\tb") (got tt 5) ∷ case (bytes "(a)b") (got tt 3) ∷ case (bytes "b") nothing ∷ case [] nothing ∷ [])
unfolding opened
gaps = refl

-- 01, Small pieces: Value, with its text
read_values :
    Says read_value
    (case (bytes "a.B;") (got (bytes "a.B") 3)
    ∷ case (bytes "\"a\\\";\r\n\tb\" c") (got (bytes "a\";\tb") 10)
    ∷ case (bytes "\"\"x") (got [] 2)
    ∷ case (bytes "\"a") nothing
    ∷ case (bytes ";") nothing
    ∷ case [] nothing
    ∷ [])
unfolding opened
read_values = refl

-- 01, Small pieces: Keyword, in lower case
read_keywords :
    Says read_keyword (case (bytes "DKIM-x9=") (got (bytes "dkim-x9") 7) ∷ case (bytes "pass-") nothing ∷ case (bytes " a") nothing ∷ case [] nothing ∷ [])
unfolding opened
read_keywords = refl

-- 01, Small pieces: none and reason too, compare without case: the whole keyword is the word
read_words :
    Says (read_word (bytes "none"))
    (case (bytes "none") (got tt 4)
    ∷ case (bytes "NoNe;") (got tt 4)
    ∷ case (bytes "nones") nothing
    ∷ case (bytes "non") nothing
    ∷ case (bytes "none-") nothing
    ∷ case (bytes "some") nothing
    ∷ [])
unfolding opened
read_words = refl

-- 01, Small pieces: digit run, without the zeros that don't count
read_digit_runs :
    Says read_digits
    (case (bytes "0012;") (got (bytes "12") 4) ∷ case (bytes "00") (got (bytes "0") 2) ∷ case (bytes "10 2") (got (bytes "10") 2) ∷ case (bytes "x1") nothing ∷ [])
unfolding opened
read_digit_runs = refl

-- ==== the code's answers

-- the value at each place of a text
values_at :
    map (value_at (bytes "a.b;\"c\\\"\"\"")) (0 ∷ 2 ∷ 3 ∷ 4 ∷ 8 ∷ 9 ∷ 10 ∷ [])
    ≡ Token 0 3 ∷ Token 2 3 ∷ Nothing ∷ Quoted 4 9 ∷ Quoted 8 10 ∷ Nothing ∷ Nothing ∷ []
unfolding opened
values_at = refl

-- the text of a value, and the place after it
values_got :
    map (value_got (bytes "a.b;\"c\\\"\"\"")) (Token 0 3 ∷ Token 2 3 ∷ Quoted 4 9 ∷ Quoted 8 10 ∷ Nothing ∷ [])
    ≡ got (bytes "a.b") 3 ∷ got (bytes "b") 3 ∷ got (bytes "c\"") 9 ∷ got [] 10 ∷ nothing ∷ []
unfolding opened
values_got = refl

-- the digit run at each place of a text
digit_runs_at :
    map (digits_at (bytes "a001;12 00 01000000")) (0 ∷ 1 ∷ 5 ∷ 8 ∷ 10 ∷ 11 ∷ 19 ∷ [])
    ≡ record { start = 0; end = 0; number = Exact 0 }
    ∷ record { start = 3; end = 4; number = Exact 1 }
    ∷ record { start = 5; end = 7; number = Exact 12 }
    ∷ record { start = 9; end = 10; number = Exact 0 }
    ∷ record { start = 10; end = 10; number = Exact 0 }
    ∷ record { start = 12; end = 19; number = Large }
    ∷ record { start = 19; end = 19; number = Exact 0 }
    ∷ []
unfolding opened
digit_runs_at = refl
