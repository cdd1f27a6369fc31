-- The definitions at worked examples, computed.
use Prim.Native.Nat.{min}
use mathlib.Core.Path.{◌≡◌, refl}
use mathlib.Core.List.{[], ◌∷◌}
use lib.ListN.{length}
use Rattle.base_readers.specs.Texts.{bytes, within}
use Rattle.base_readers.proofs.Cases.{case, Says, copies}
use Rattle.text_decimals_rules.specs.Decimals.{decimal}
use Rattle.text_decimals_rules.specs.Decimals.{digits as decimal_digits}
use Rattle.sample_sums.specs.Sums.{sums, changed}
use Rattle.sample_support.specs.Samples.{number, cases, digits, plain, shown}
use Rattle.sample_support.specs.Lines.{numbered, sums_part, text_part, bytes_part}

-- a byte before "0" counts 0, the others by their distance from it
told : Says (number 0) (case [] 0 ∷ case (bytes "00417") 417 ∷ case (bytes "1-2") 102 ∷ case (bytes "1:a") 249 ∷ [])
unfolding number
told = refl

cut : min (number 0 (bytes "65541")) 65540 ∷ min (number 0 (bytes "65539")) 65540 ∷ [] ≡ 65540 ∷ 65539 ∷ []
unfolding number
cut = refl

values : Says digits (case [] [] ∷ case (bytes "-12") [] ∷ case (bytes "0129") (0 ∷ 1 ∷ 2 ∷ 9 ∷ []) ∷ case (bytes "12:3") (1 ∷ 2 ∷ []) ∷ [])
unfolding digits within
values = refl

-- the bytes on both sides of each edge
text : Says shown (case [] [] ∷ case (bytes "a b%~") (bytes "a%20b%25~") ∷ case (0 ∷ 32 ∷ 33 ∷ 126 ∷ 127 ∷ 175 ∷ 250 ∷ []) (bytes "%00%20!~%7f%af%fa") ∷ [])
unfolding shown plain within
text = refl

-- no words, the name of the program alone, one word too few for a case, enough for one and for two, one left over; no case has no argument
counted : cases 0 2 ∷ cases 1 2 ∷ cases 3 3 ∷ cases 4 3 ∷ cases 11 5 ∷ cases 6 2 ∷ cases 7 0 ∷ [] ≡ 0 ∷ 0 ∷ 0 ∷ 1 ∷ 2 ∷ 2 ∷ 0 ∷ []
unfolding cases
counted = refl

-- the parts of a line: of a byte that was written and two that were not, of more than there are, and of none
named : numbered (bytes " place ") 65540 ∷ numbered [] 0 ∷ [] ≡ bytes " place 65540" ∷ bytes "0" ∷ []
unfolding decimal decimal_digits
named = refl

lent : sums_part (97 ∷ 170 ∷ 171 ∷ []) 1 ∷ sums_part (97 ∷ []) 2 ∷ sums_part [] 0 ∷ []
    ≡ bytes ", check 6422626 changed 1" ∷ bytes ", check 6422626 changed 0" ∷ bytes ", check 1 changed 0" ∷ []
unfolding sums_part sums changed decimal decimal_digits
lent = refl

both : bytes_part (97 ∷ 170 ∷ []) 1 ≡ bytes ", check 6422626 changed 0 text [a]"
unfolding bytes_part sums_part text_part sums changed decimal decimal_digits shown plain within
both = refl

-- 256 bytes, and no more
first : text_part (bytes "a b") ∷ text_part [] ∷ [] ≡ bytes " text [a%20b]" ∷ bytes " text []" ∷ []
unfolding text_part shown plain within
first = refl

most : length (text_part (copies 256 97)) ∷ length (text_part (copies 257 97)) ∷ length (text_part (copies 255 97)) ∷ [] ≡ 264 ∷ 264 ∷ 263 ∷ []
unfolding text_part shown plain within
most = refl
