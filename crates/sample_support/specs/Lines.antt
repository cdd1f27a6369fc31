-- The parts of the line that a program writes of a case.
use Rattle.std.specs.Prelude.{ℕ, List, ◌++◌, take, drop}
use Rattle.base_readers.specs.Texts.{bytes}
use Rattle.text_decimals_rules.specs.Decimals.{decimal}
use Rattle.sample_sums.specs.Sums.{adler, changed}
use Rattle.sample_support.specs.Samples.{shown}

-- a number behind its name
abbrev pub numbered : List ℕ → ℕ → List ℕ
numbered label n = label ++ decimal n

-- of lent bytes of which the first n were written: the sum of these, and how many of the others are changed
unfoldable pub sums_part : List ℕ → ℕ → List ℕ
sums_part lent n = numbered (bytes ", check ") (adler (take n lent)) ++ numbered (bytes " changed ") (changed (drop n lent))

-- the first 256 bytes
unfoldable pub text_part : List ℕ → List ℕ
text_part s = bytes " text [" ++ (shown (take 256 s) ++ bytes "]")

-- both, of the bytes that were written
unfoldable pub bytes_part : List ℕ → ℕ → List ℕ
bytes_part lent n = sums_part lent n ++ text_part (take n lent)
