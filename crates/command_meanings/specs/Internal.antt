-- The phrases of the meanings, and the place of a number among them, for private functions. No public contract cites these.
use Rattle.std.specs.Prelude.{ℕ, cond, List, eqb}
use Rattle.base_readers.specs.Texts.{bytes}

-- what is wrong with an entry
abbrev pub faults : List ℕ
faults = bytes "it is the 65th|it has more than 255 bytes|it does not end with LF|it is empty|it has a byte that may not stand there"

-- what a number means of a block or our own list; behind the fifth phrase stands what is wrong with an entry
abbrev pub meanings : List ℕ
meanings =
    bytes "the block has more than 65,536 bytes|a CR without LF, an LF without CR, or a last line without CRLF|an empty line, a first line that starts with space or tab, or a field without name or colon|a 513th field|a bad entry of the list: |the output is too long"

unfoldable pub meaning_place : ℕ → ℕ
meaning_place n = cond (eqb n 1) 0 (cond (eqb n 2) 1 (cond (eqb n 3) 2 (cond (eqb n 4) 3 (cond (eqb n 5) 4 5))))

-- what a number means of report lines
abbrev pub lines_meanings : List ℕ
lines_meanings = bytes "no body has that report, at line |the body would have more than 65,536 bytes, at |the output is too long, at "
