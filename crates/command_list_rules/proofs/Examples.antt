-- What is said of a list, at worked examples, by computing it: both sides of each clause.
use Rattle.std.specs.Prelude.{None, Some}
use Prim.Native.Nat.{ℕ}
use mathlib.Core.Path.{◌≡◌, refl}
use mathlib.Core.List.{[], ◌∷◌}
use Rattle.base_readers.specs.Texts.{bytes}
use Rattle.base_readers.specs.Lines.{lines_of}
use Rattle.base_readers.proofs.Cases.{case, Says}
use Rattle.text_decimals_rules.specs.Decimals.{digits, decimal}
use Rattle.identifier_rules.specs.Identifier.{identifier_byte}
use Rattle.ownlist_rules.proofs.Unfolding.{opened}
use Rattle.report_rules.specs.Report.{plain, escape}
use Rattle.command_list_rules.specs.declared.Notice.TheVariants.{Mark, Hash, Unbare, Star}
use Rattle.command_list_rules.specs.Notices.{marked, starless, notice_of, words, noticed_line, compared_line, line_of, lines_from, notices, notes, notes_of, check_text}

said : ℕ
unfolding opened plain escape digits decimal identifier_byte lines_of marked starless notice_of words noticed_line compared_line line_of lines_from notices notes notes_of check_text
said = 0

-- ==== an entry

-- the byte order mark in front, whole, and not elsewhere; "#" in front, and not elsewhere; a byte that no identifier without quotes can have, and those that it
-- can have, "%" and bytes from 128 up among them; a star anywhere; the first of these that holds
entries :
    Says notice_of
    (case (0xEF ∷ 0xBB ∷ 0xBF ∷ bytes "mx.example.com") (Some Mark)
    ∷ case (0xEF ∷ 0xBB ∷ 0xBE ∷ bytes "mx.example.com") None
    ∷ case (0xEF ∷ 0xBC ∷ 0xBF ∷ bytes "mx.example.com") None
    ∷ case (0xEE ∷ 0xBB ∷ 0xBF ∷ bytes "mx.example.com") None
    ∷ case (97 ∷ 0xEF ∷ 0xBB ∷ 0xBF ∷ []) None
    ∷ case (0xEF ∷ 0xBB ∷ 0xBF ∷ bytes "#*;") (Some Mark)
    ∷ case (bytes "#ours") (Some Hash)
    ∷ case (bytes "#ours;*") (Some Hash)
    ∷ case (bytes "ours#") None
    ∷ case (bytes "mx.example.com;") (Some Unbare)
    ∷ case (bytes ";mx.example.com") (Some Unbare)
    ∷ case (bytes "\"mx.example.com\"") (Some Unbare)
    ∷ case (bytes "*.example.com,") (Some Unbare)
    ∷ case (bytes "*.example.com") (Some Star)
    ∷ case (bytes "mx.*") (Some Star)
    ∷ case (bytes "mx.example.com") None
    ∷ case (98 ∷ 0xC3 ∷ 0xBC ∷ bytes "cher.example") None
    ∷ case (bytes "50%_of-it!'") None
    ∷ case [] None
    ∷ [])
unfolding said
entries = refl

-- the first such byte is named, coded as in a report (no entry of a good list has one that has to be)
byte-named : words Unbare (bytes "a;b,c") ≡ bytes ": no bare identifier can have ;"
unfolding said
byte-named = refl

byte-coded : words Unbare (bytes "a\nb") ≡ bytes ": no bare identifier can have %0A"
unfolding said
byte-coded = refl

no_byte : words Unbare (bytes "ab") ≡ bytes ": no bare identifier can have "
unfolding said
no_byte = refl

-- ==== lists

-- all notices, each with the number of its entry; nothing of the others
noted :
    notes_of (0xEF ∷ 0xBB ∷ 0xBF ∷ bytes "mx.example.com\nmx.example.com;\n*.example.com\nexample.com\n#ours\n")
    ≡ bytes "orbendash: note: entry 1 begins with a byte order mark\norbendash: note: entry 2: no bare identifier can have ;\norbendash: note: entry 3: * stands for itself, not for other names\norbendash: note: entry 5 begins with #, which begins no comment here\n"
unfolding said
noted = refl

unnoted : notes_of (bytes "mx.example.com\nexample.com\n") ≡ []
unfolding said
unnoted = refl

empty-noted : notes_of [] ≡ bytes "orbendash: note: the list is empty: nothing in our name can be removed\n"
unfolding said
empty-noted = refl

-- of a bad list nothing is said
bad-unnoted : notes_of (bytes "*.example.com\n#ours") ≡ []
unfolding said
bad-unnoted = refl

-- ==== check

-- how each entry is compared: with U-labels for A-labels, coded as in a report
compared :
    check_text (bytes "mx.example.com\nxn--bcher-kva.example\n50%\n")
    ≡ bytes "entry 1 is compared as mx.example.com\nentry 2 is compared as b%C3%BCcher.example\nentry 3 is compared as 50%25\n"
unfolding said
compared = refl

-- and then what is noticed, of the entry as it was written
checked :
    check_text (bytes "*.example.com\n#xn--bcher-kva\n")
    ≡ bytes "entry 1 is compared as *.example.com\nentry 2 is compared as #xn--bcher-kva\nentry 1: * stands for itself, not for other names\nentry 2 begins with #, which begins no comment here\n"
unfolding said
checked = refl

empty-checked : check_text [] ≡ bytes "the list is empty: nothing in our name can be removed\n"
unfolding said
empty-checked = refl
