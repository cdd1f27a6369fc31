-- What is asked for, and the lines, at worked examples, by computing them.
use Prim.Native.Nat.{ℕ, zero, suc}
use mathlib.Core.Path.{◌≡◌, refl}
use Rattle.std.specs.Prelude.{None, Some}
use mathlib.Core.List.{List, [], ◌∷◌, ◌++◌, map}
use Rattle.base_readers.specs.Texts.{bytes, same}
use Rattle.base_readers.specs.Readers.{run}
use Rattle.base_readers.proofs.Cases.{case, Says, copies}
use Rattle.text_decimals_rules.specs.Decimals.{digits, decimal}
use Rattle.command_rules.specs.declared.Asked.TheVariants.{Strip, Log, Report, Explain, Judge, Check, Write}
use Rattle.command_rules.specs.declared.Ending.TheVariants.{Done, Usage, ListClosed, ListUnread, InputUnread, InputTooLong, OutputTooLong, Unwritten, VerdictsRefused, Refused, LinesRefused}
use Rattle.command_rules.specs.Words.{asked}
use Rattle.command_rules.specs.Messages.{feeds, feedless, fault, fault_at, meaning, lines_meaning, ending_line}

-- ==== words

-- with a list or verdicts: in lower case alone, and the whole word
with-list :
    Says (asked 3)
    (case (bytes "strip") (Some Strip)
    ∷ case (bytes "log") (Some Log)
    ∷ case (bytes "logs") None
    ∷ case (bytes "report") (Some Report)
    ∷ case (bytes "explain") (Some Explain)
    ∷ case (bytes "judge") (Some Judge)
    ∷ case (bytes "check") (Some Check)
    ∷ case (bytes "write") None
    ∷ case (bytes "Strip") None
    ∷ case (bytes "reports") None
    ∷ case [] None
    ∷ [])
unfolding asked same
with-list = refl

-- without one
without-list :
    Says (asked 2)
    (case (bytes "strip") None ∷ case (bytes "log") None ∷ case (bytes "check") None ∷ case (bytes "write") (Some Write) ∷ case (bytes "Write") None ∷ case (bytes "writes") None ∷ case [] None ∷ [])
unfolding asked same
without-list = refl

-- from no word at all to one too many
counts :
    map (λ (n : ℕ). asked n (bytes "strip") ∷ asked n (bytes "write") ∷ []) (0 ∷ 1 ∷ 2 ∷ 3 ∷ 4 ∷ [])
    ≡ (None ∷ None ∷ []) ∷ (None ∷ None ∷ []) ∷ (None ∷ Some Write ∷ []) ∷ (Some Strip ∷ None ∷ []) ∷ (None ∷ None ∷ []) ∷ []
unfolding asked same
counts = refl

-- ==== what is wrong with an entry

-- so many entries of one byte
entries : ℕ → List ℕ
entries zero = []
entries (suc n) = 97 ∷ 10 ∷ entries n

opened : ℕ
unfolding entries run feeds feedless fault
opened = 0

sixty-fifth : fault_at (entries 64 ++ bytes "a\n") 128 ≡ bytes "it is the 65th"
unfolding opened
sixty-fifth = refl

-- each LF in front of it counts, that of an empty entry at the front of the list too
sixty-fifth-empty : fault_at (bytes "\n" ++ (entries 63 ++ bytes "a\n")) 127 ≡ bytes "it is the 65th"
unfolding opened
sixty-fifth-empty = refl

-- it is, whatever else is wrong with it
sixty-fifth-first : fault_at (entries 64 ++ copies 256 97) 128 ≡ bytes "it is the 65th"
unfolding opened
sixty-fifth-first = refl

sixty-fourth : fault_at (entries 63 ++ bytes "\n") 126 ≡ bytes "it is empty"
unfolding opened
sixty-fourth = refl

too_long : fault_at (copies 256 97 ++ bytes "\n") 0 ≡ bytes "it has more than 255 bytes"
unfolding opened
too_long = refl

-- it is, also where it has no LF
too-long-first : fault_at (copies 256 97) 0 ≡ bytes "it has more than 255 bytes"
unfolding opened
too-long-first = refl

as_long : fault_at (copies 255 32 ++ bytes "\n") 0 ≡ bytes "it has a byte that may not stand there"
unfolding opened
as_long = refl

no-feed : fault_at (bytes "a\nb") 2 ≡ bytes "it does not end with LF"
unfolding opened
no-feed = refl

empty-entry : fault_at (bytes "a\n\nb\n") 2 ≡ bytes "it is empty"
unfolding opened
empty-entry = refl

bad-byte : fault_at (bytes "a b\n") 0 ≡ bytes "it has a byte that may not stand there"
unfolding opened
bad-byte = refl

-- LF alone ends an entry: one that is a CR is not empty
bad-return : fault_at (bytes "\r\n") 0 ≡ bytes "it has a byte that may not stand there"
unfolding opened
bad-return = refl

-- ==== refusals of a block or a list

said : ℕ
unfolding opened decimal digits meaning lines_meaning ending_line
said = 0

one : ending_line (Refused 1 0) [] ≡ bytes "orbendash: 1: the block has more than 65,536 bytes, at 0\n"
unfolding said
one = refl

two : ending_line (Refused 2 17) [] ≡ bytes "orbendash: 2: a CR without LF, an LF without CR, or a last line without CRLF, at 17\n"
unfolding said
two = refl

three : ending_line (Refused 3 65535) []
    ≡ bytes "orbendash: 3: an empty line, a first line that starts with space or tab, or a field without name or colon, at 65535\n"
unfolding said
three = refl

four : ending_line (Refused 4 9) [] ≡ bytes "orbendash: 4: a 513th field, at 9\n"
unfolding said
four = refl

five : ending_line (Refused 5 2) (bytes "a\n\n") ≡ bytes "orbendash: 5: a bad entry of the list: it is empty, at 2\n"
unfolding said
five = refl

six : ending_line (Refused 6 0) [] ≡ bytes "orbendash: 6: the output is too long, at 0\n"
unfolding said
six = refl

-- ==== refusals of lines

eleven : ending_line (LinesRefused 11 10) [] ≡ bytes "orbendash: 11: no body has that report, at line 10\n"
unfolding said
eleven = refl

lines-one : ending_line (LinesRefused 1 0) [] ≡ bytes "orbendash: 1: the body would have more than 65,536 bytes, at 0\n"
unfolding said
lines-one = refl

lines-six : ending_line (LinesRefused 6 0) [] ≡ bytes "orbendash: 6: the output is too long, at 0\n"
unfolding said
lines-six = refl

-- ==== the command's own

done : ending_line Done [] ≡ bytes "orbendash: 0: done\n"
unfolding ending_line
done = refl

usage : ending_line Usage []
    ≡ bytes "orbendash: 64: usage: orbendash strip LIST < BLOCK, the same with report or explain, orbendash check LIST, orbendash judge VERDICTS < BLOCK, orbendash write < LINES or orbendash --help\n"
unfolding ending_line
usage = refl

verdicts-refused : ending_line (VerdictsRefused 12) []
    ≡ bytes "orbendash: 10: bad verdicts: a chain that is built needs one digit from 0 to 3 for each set, of which this one has 12\n"
unfolding said
verdicts-refused = refl

list-closed : ending_line ListClosed [] ≡ bytes "orbendash: 66: the list can't be opened\n"
unfolding ending_line
list-closed = refl

list-unread : ending_line ListUnread [] ≡ bytes "orbendash: 66: the list can't be read\n"
unfolding ending_line
list-unread = refl

input-unread : ending_line InputUnread [] ≡ bytes "orbendash: 74: standard input can't be read\n"
unfolding ending_line
input-unread = refl

input-too-long : ending_line InputTooLong [] ≡ bytes "orbendash: 74: standard input can't be read whole: it has more than 262,144 bytes\n"
unfolding ending_line
input-too-long = refl

output-too-long : ending_line OutputTooLong [] ≡ bytes "orbendash: 70: the output is too long\n"
unfolding ending_line
output-too-long = refl

unwritten : ending_line Unwritten [] ≡ bytes "orbendash: 74: standard output can't be written\n"
unfolding ending_line
unwritten = refl
