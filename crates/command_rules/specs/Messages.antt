-- The one line on standard error with which the command ends: its name, a number and what that means; behind a refusal the place. 0 is said
-- where all of the output has been written. The numbers below 64 are those of 01 and 02, the others are the command's own (sysexits.h).
use Prim.Native.Char.{code}
use Rattle.std.specs.Prelude.{ℕ, suc, Bool, true, false, not, List, [], ◌∷◌, ◌++◌, leb, eqb, length, take, drop}
use Rattle.base_readers.specs.Texts.{bytes}
use Rattle.base_readers.specs.Readers.{Reader, run}
use Rattle.text_decimals_rules.specs.Decimals.{decimal}
use Rattle.ownlist_rules.specs.OwnList.{entry_limit, longest}
use Rattle.command_rules.specs.declared.Ending.{Ending}
use Rattle.command_rules.specs.declared.Ending.TheVariants.{Done, Usage, ListClosed, ListUnread, InputUnread, InputTooLong, OutputTooLong, Unwritten, VerdictsRefused, Refused, LinesRefused}

-- ==== what is wrong with an entry of our own list that is known to be bad (01, Block and list)

-- how many LF there are: so many entries end here
unfoldable pub feeds : List ℕ → ℕ
feeds [] = 0
feeds (x ∷ xs) = elim (eqb x (code "\n")) [ true ↦ suc (feeds xs) | false ↦ feeds xs ]

-- any byte but LF
unfoldable pub feedless : ℕ → Bool
feedless x = not (eqb x (code "\n"))

-- the bytes of an entry: all up to the next LF, or the end
abbrev pub until_feed : Reader
until_feed = run feedless

-- the entry at the front of `xs`, after so many entries: the first of these that holds
unfoldable pub fault : ℕ → List ℕ → List ℕ
fault count xs =
    elim (leb entry_limit count) [
      | true ↦ bytes "it is the 65th"
      | false ↦ (elim (leb (until_feed xs) longest) [
        | false ↦ bytes "it has more than 255 bytes"
        | true ↦ (elim (leb (length xs) (until_feed xs)) [
          | true ↦ bytes "it does not end with LF"
          | false ↦ (elim (eqb (until_feed xs) 0) [
            | true ↦ bytes "it is empty"
            | false ↦ bytes "it has a byte that may not stand there"
          ])
        ])
      ])
    ]

-- the entry that starts at a place of a list
abbrev pub fault_at : List ℕ → ℕ → List ℕ
fault_at list place = fault (feeds (take place list)) (drop place list)

-- ==== what the numbers mean

-- of a block and our own list (01, Answer numbers)
unfoldable pub meaning : ℕ → ℕ → List ℕ → List ℕ
meaning number place list =
    elim (eqb number 1) [
      | true ↦ bytes "the block has more than 65,536 bytes"
      | false ↦ (elim (eqb number 2) [
        | true ↦ bytes "a CR without LF, an LF without CR, or a last line without CRLF"
        | false ↦ (elim (eqb number 3) [
          | true ↦ bytes "an empty line, a first line that starts with space or tab, or a field without name or colon"
          | false ↦ (elim (eqb number 4) [
            | true ↦ bytes "a 513th field"
            | false ↦ (elim (eqb number 5) [
              | true ↦ bytes "a bad entry of the list: " ++ fault_at list place
              | false ↦ bytes "the output is too long"
            ])
          ])
        ])
      ])
    ]

-- of report lines, and what the place counts (02, ticket [1])
unfoldable pub lines_meaning : ℕ → List ℕ
lines_meaning number =
    elim (eqb number 11) [
      | true ↦ bytes "no body has that report, at line "
      | false ↦ (elim (eqb number 1) [
        | true ↦ bytes "the body would have more than 65,536 bytes, at "
        | false ↦ bytes "the output is too long, at "
      ])
    ]

-- ==== the line

-- the front of the line of a refusal
abbrev pub opening : ℕ → List ℕ
opening number = bytes "orbendash: " ++ (decimal number ++ bytes ": ")

-- its end
abbrev pub closing : ℕ → List ℕ
closing place = decimal place ++ bytes "\n"

abbrev pub refusal_line : ℕ → ℕ → List ℕ → List ℕ
refusal_line number place list = opening number ++ (meaning number place list ++ (bytes ", at " ++ closing place))

abbrev pub lines_refusal : ℕ → ℕ → List ℕ
lines_refusal number place = opening number ++ (lines_meaning number ++ closing place)

-- bad verdicts, and how many sets the chain has (01, number 10)
abbrev pub verdicts_line : ℕ → List ℕ
verdicts_line sets = bytes "orbendash: 10: bad verdicts: a chain that is built needs one digit from 0 to 3 for each set, of which this one has " ++ closing sets

-- the line of an ending, where our own list is this
unfoldable pub ending_line : Ending → List ℕ → List ℕ
ending_line Done list = bytes "orbendash: 0: done\n"
ending_line Usage list = bytes "orbendash: 64: usage: orbendash strip LIST < BLOCK, the same with report or explain, orbendash check LIST, orbendash judge VERDICTS < BLOCK, orbendash write < LINES or orbendash --help\n"
ending_line ListClosed list = bytes "orbendash: 66: the list can't be opened\n"
ending_line ListUnread list = bytes "orbendash: 66: the list can't be read\n"
ending_line InputUnread list = bytes "orbendash: 74: standard input can't be read\n"
ending_line InputTooLong list = bytes "orbendash: 74: standard input can't be read whole: it has more than 262,144 bytes\n"
ending_line OutputTooLong list = bytes "orbendash: 70: the output is too long\n"
ending_line Unwritten list = bytes "orbendash: 74: standard output can't be written\n"
ending_line (VerdictsRefused sets) list = verdicts_line sets
ending_line (Refused number place) list = refusal_line number place list
ending_line (LinesRefused number place) list = lines_refusal number place
