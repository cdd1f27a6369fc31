-- What the command says of our own list. By 01, "Block and list", a list may be empty, and an entry may have any visible byte: such lists are good, and no answer
-- hangs on what is said here. It is for the person who writes the list: an entry of which something is noticed most likely equals no identifier.
use Prim.Native.Char.{code}
use Rattle.std.specs.Prelude.{ℕ, zero, suc, Bool, cond, not, ◌&&◌, List, [], ◌∷◌, ◌++◌, map, eqb, ltb, length, get_or, take, drop, Option, None, Some}
use Rattle.base_readers.specs.Texts.{bytes}
use Rattle.base_readers.specs.Readers.{run}
use Rattle.base_readers.specs.Lines.{lines_of}
use Rattle.text_decimals_rules.specs.Decimals.{decimal}
use Rattle.punycode_rules.specs.Labels.{spelling}
use Rattle.identifier_rules.specs.Identifier.{identifier_byte}
use Rattle.ownlist_rules.specs.OwnList.{own_list}
use Rattle.report_rules.specs.Report.{escape}
use Rattle.command_list_rules.specs.declared.Notice.{Notice}
use Rattle.command_list_rules.specs.declared.Notice.TheVariants.{Mark, Hash, Unbare, Star}
use Rattle.command_list_rules.specs.declared.Said.{Said}
use Rattle.command_list_rules.specs.declared.Said.TheVariants.{Compared, Noticed, Noted}

-- ==== an entry

-- RFC 3629, section 6: the byte order mark in UTF-8, which an editor may have put in front
unfoldable pub marked : List ℕ → Bool
marked e = eqb (get_or e 0 0) 0xEF && (eqb (get_or e 1 0) 0xBB && eqb (get_or e 2 0) 0xBF)

-- any byte but a star
unfoldable pub starless : ℕ → Bool
starless x = not (eqb x (code "*"))

-- a byte of it is not of the class
abbrev pub leaves : (ℕ → Bool) → List ℕ → Bool
leaves c e = ltb (run c e) (length e)

-- what is noticed: the first of these that holds, or nothing
unfoldable pub notice_of : List ℕ → Option Notice
notice_of e =
    cond (marked e) (Some Mark)
    (cond (eqb (get_or e 0 0) (code "#")) (Some Hash)
    (cond (leaves identifier_byte e) (Some Unbare)
    (cond (leaves starless e) (Some Star) None)))

-- the first byte that no identifier without quotes can have
abbrev pub unbare : List ℕ → List ℕ
unbare e = take 1 (drop (run identifier_byte e) e)

unfoldable pub words : Notice → List ℕ → List ℕ
words Mark e = bytes " begins with a byte order mark"
words Hash e = bytes " begins with #, which begins no comment here"
words Unbare e = bytes ": no bare identifier can have " ++ escape (unbare e)
words Star e = bytes ": * stands for itself, not for other names"

-- ==== lines

-- the front of a line that speaks of the entry with this number
abbrev pub entry_front : ℕ → List ℕ
entry_front n = bytes "entry " ++ decimal n

-- what is noticed of it, behind a label; nothing where nothing is
unfoldable pub noticed_line : List ℕ → ℕ → List ℕ → Option Notice → List ℕ
noticed_line label n e None = []
noticed_line label n e (Some k) = label ++ (entry_front n ++ (words k e ++ bytes "\n"))

abbrev pub notice_line : List ℕ → ℕ → List ℕ → List ℕ
notice_line label n e = noticed_line label n e (notice_of e)

-- how it is compared: its text with U-labels for A-labels, coded as in a report
unfoldable pub compared_line : ℕ → List ℕ → List ℕ
compared_line n t = entry_front n ++ (bytes " is compared as " ++ (escape t ++ bytes "\n"))

-- a note on standard error is told from the line with which the command ends by its label
abbrev pub note_label : List ℕ
note_label = bytes "orbendash: note: "

unfoldable pub line_of : Said → ℕ → List ℕ → List ℕ
line_of Compared n t = compared_line n t
line_of Noticed n t = notice_line [] n t
line_of Noted n t = notice_line note_label n t

-- the lines of entries, behind so many others
unfoldable pub lines_from : Said → ℕ → List (List ℕ) → List ℕ
lines_from k count [] = []
lines_from k count (t ∷ ts) = line_of k (suc count) t ++ lines_from k (suc count) ts

-- ==== a list

-- without entries none can be ours
abbrev pub empty_line : List ℕ
empty_line = bytes "the list is empty: nothing in our name can be removed\n"

-- what is noticed of the bytes of a good list, whose entries are its lines
unfoldable pub notices : List ℕ → List ℕ
notices [] = empty_line
notices (x ∷ xs) = lines_from Noticed 0 (lines_of (x ∷ xs))

unfoldable pub notes : List ℕ → List ℕ
notes [] = note_label ++ empty_line
notes (x ∷ xs) = lines_from Noted 0 (lines_of (x ∷ xs))

-- what `strip`, `report` and `explain` say of a list on standard error: of a bad one nothing, since it is refused with 5
unfoldable pub notes_of : List ℕ → List ℕ
notes_of list = elim (own_list list).number [ zero ↦ notes list | suc n ↦ [] ]

-- what `check` says of a good list: how each entry is compared, and then what is noticed
unfoldable pub check_text : List ℕ → List ℕ
check_text list = lines_from Compared 0 (map spelling (own_list list).items) ++ notices list
