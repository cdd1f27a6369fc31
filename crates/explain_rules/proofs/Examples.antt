-- What is said of a report, at worked examples, by computing it.
use Prim.Native.Nat.{ℕ}
use mathlib.Core.Path.{◌≡◌, refl}
use mathlib.Core.Bool.{true, false}
use mathlib.Core.List.{List, [], ◌∷◌, map}
use lib.ListN.{length}
use Rattle.base_readers.specs.Texts.{bytes}
use Rattle.base_readers.proofs.Cases.{case, Says}
use Rattle.lexis_rules.proofs.ClassExamples.{range, members}
use Rattle.explain_rules.specs.Explained.{kind_of, kind_of_line, whose_words, answer_words, count_words, field_words, words, explained}
use Rattle.explain_rules.specs.Promise.{plain, weight, weighed, most, added, is_field, is_head, field_lines, head_lines}
use Rattle.explain_rules.specs.declared.Line.{Line}
use Rattle.explain_rules.specs.declared.Line.TheVariants.{Field, Identifier, Version, NoResult, Method, Reason, Property, Other}
use Rattle.explain_rules.proofs.Unfolding.{opened}

-- ==== whole reports

-- another's field, with a result that has a reason and properties, one without, and one that is not shown
whole :
    explained (bytes "field\t3\tother\t0\t1\nid\tmx.example.com\nm\tdkim\tfail\nr\tbad%20signature\np\theader\td\tt\texample.org\nm\tspf\tpass\n")
    ≡ bytes "Field 3: another's word: strip keeps it; 1 result of a newer version or not known: not shown\n  says it was checked by mx.example.com\n  says dkim: fail, reason: \"bad signature\", header.d: example.org\n  says spf: pass\n"
unfolding opened
whole = refl

-- our own field with a header version and no result, and behind it one of a newer version and one that can't be read
several :
    explained (bytes "field\t1\town\t0\t0\nid\texample.com\nv\t1\nnone\nfield\t2\tother\t8\t0\nfield\t4\tunreadable\t9\t0\n")
    ≡ bytes "Field 1: in our own name: strip removes it; what it says is only claimed\n  says it was checked by example.com\n  says header version 1\n  says that nothing was checked\nField 2: another's word: strip keeps it; of a newer version: what it says is not read\nField 4: its identifier can't be read: strip removes it; not well-formed: none of its results is shown\n"
unfolding opened
several = refl

-- a block without such a field
no_lines : explained [] ≡ bytes "There is no Authentication-Results field.\n"
unfolding opened
no_lines = refl

-- a last line without LF is a line, and what is said of it has an end
unended : explained (bytes "m\tspf\tpass") ≡ bytes "  says spf: pass\n"
unfolding opened
unended = refl

-- ==== the end of a line

-- each reason and property stands in the line of its result, and the next result in a line of its own
one_line : explained (bytes "m\ta\tb\nr\tc\np\td\te\tt\tf\np\tg\th\tq\ti\nm\tj\tk\n") ≡ bytes "  says a: b, reason: c, d.e: f, g.h: i\n  says j: k\n"
unfolding opened
one_line = refl

-- no line goes on behind another field's
next_field : explained (bytes "m\ta\tb\nfield\t2\tother\t0\t0\n") ≡ bytes "  says a: b\nField 2: another's word: strip keeps it\n"
unfolding opened
next_field = refl

-- ==== whose word, which answer, how many

whose :
    Says whose_words
    (case (bytes "own") (bytes "in our own name: strip removes it; what it says is only claimed")
    ∷ case (bytes "other") (bytes "another's word: strip keeps it")
    ∷ case (bytes "unreadable") (bytes "its identifier can't be read: strip removes it")
    ∷ [])
unfolding opened
whose = refl

-- of a field that was read nothing is said here, and of one whose identifier can't be read (7) it has been said whose it is. No field has another number
answers :
    Says answer_words
    (case (bytes "0") []
    ∷ case (bytes "7") []
    ∷ case (bytes "8") (bytes "; of a newer version: what it says is not read")
    ∷ case (bytes "9") (bytes "; not well-formed: none of its results is shown")
    ∷ case (bytes "1") []
    ∷ case (bytes "6") []
    ∷ [])
unfolding opened
answers = refl

unreadable : explained (bytes "field\t4\tunreadable\t7\t0\n") ≡ bytes "Field 4: its identifier can't be read: strip removes it\n"
unfolding opened
unreadable = refl

counts :
    Says count_words
    (case (bytes "0") []
    ∷ case (bytes "1") (bytes "; 1 result of a newer version or not known: not shown")
    ∷ case (bytes "2") (bytes "; 2 results of a newer version or not known: not shown")
    ∷ case (bytes "10") (bytes "; 10 results of a newer version or not known: not shown")
    ∷ [])
unfolding opened
counts = refl

-- ==== what a line is

kinds : kind_of (bytes "field") ∷ kind_of (bytes "id") ∷ kind_of (bytes "v") ∷ kind_of (bytes "none") ∷ kind_of (bytes "m") ∷ kind_of (bytes "r") ∷ kind_of (bytes "p") ∷ []
    ≡ Field ∷ Identifier ∷ Version ∷ NoResult ∷ Method ∷ Reason ∷ Property ∷ []
unfolding opened
kinds = refl

-- no line of a report: another word, one that only starts with a word, and nothing; nothing is said of it
kinds-other : kind_of (bytes "x") ∷ kind_of (bytes "fields") ∷ kind_of (bytes "M") ∷ kind_of [] ∷ [] ≡ Other ∷ Other ∷ Other ∷ Other ∷ []
unfolding opened
kinds-other = refl

says_nothing : explained (bytes "x\ty\n\nv\t1\n") ≡ bytes "\n\n  says header version 1\n"
unfolding opened
says_nothing = refl

-- a line without a tab is one column, and what it says has no texts
without-tab : kind_of_line (bytes "none") ≡ NoResult
unfolding opened
without-tab = refl

texts-missing : explained (bytes "m\nid\n") ≡ bytes "  says \"\": \"\"\n  says it was checked by \"\"\n"
unfolding opened
texts-missing = refl

-- ==== texts stand between quotes where they could look like more

-- a text that says what we say is one text
dressed :
    explained (bytes "field\t1\town\t0\t0\nid\tMX.EXAMPLE.COM\nm\tspf\tpass\np\tsmtp\tmailfrom\tq\ta,header.from:bank.example,dmarc:pass\n")
    ≡ bytes "Field 1: in our own name: strip removes it; what it says is only claimed\n  says it was checked by MX.EXAMPLE.COM\n  says spf: pass, smtp.mailfrom: \"a,header.from:bank.example,dmarc:pass\"\n"
unfolding opened
dressed = refl

-- so are a line's end and a control byte in it
dressed-line : explained (bytes "id\ta%0AField%201\nm\tdkim\tpass\nr\t%1B[0m\"\n") ≡ bytes "  says it was checked by \"a\\x0AField 1\"\n  says dkim: pass, reason: \"\\x1B[0m\\\"\"\n"
unfolding opened
dressed-line = refl

-- also the number of a field and a count, where they are none
count-shown : count_words (27 ∷ []) ≡ bytes "; \"\\x1B\" results of a newer version or not known: not shown"
unfolding opened
count-shown = refl

number-shown : field_words (bytes "1,%202\tother\t0\t0") ≡ bytes "Field \"1, 2\": another's word: strip keeps it"
unfolding opened
number-shown = refl

-- ==== what the theorems speak of

unfoldable measured : Unit {0}
unfolding opened plain weight weighed most added is_field is_head field_lines head_lines
measured = tt

-- the bytes that may reach a terminal: LF, and 32 to 126
plains : members plain ≡ 10 ∷ range 32 126
unfolding measured
plains = refl

-- at the ends of those that are shown with two bytes at most
weights : map weight (31 ∷ 32 ∷ 126 ∷ 127 ∷ []) ≡ 4 ∷ 2 ∷ 2 ∷ 4 ∷ []
unfolding measured
weights = refl

weighs : map weighed ([] ∷ bytes "ab" ∷ bytes "a\tb" ∷ []) ≡ 0 ∷ 4 ∷ 8 ∷ []
unfolding measured
weighs = refl

-- so many bytes of our own are said in a line of each kind whose texts are all empty: no fewer would do
mosts :
    length (words Field (bytes "\town\t9\t")) ∷ map (λ (k : Line). length (words k [])) (Identifier ∷ Version ∷ NoResult ∷ Method ∷ Reason ∷ Property ∷ Other ∷ [])
    ≡ map most (Field ∷ Identifier ∷ Version ∷ NoResult ∷ Method ∷ Reason ∷ Property ∷ Other ∷ [])
unfolding measured
mosts = refl

-- the lines of a field, and those that stand in front of its results
abbrev all_lines : List Line
all_lines = Field ∷ Identifier ∷ Version ∷ NoResult ∷ Method ∷ Reason ∷ Property ∷ Other ∷ []

of_fields : map is_field all_lines ≡ true ∷ false ∷ false ∷ false ∷ false ∷ false ∷ false ∷ false ∷ []
unfolding measured
of_fields = refl

of-heads : map is_head all_lines ≡ true ∷ true ∷ true ∷ true ∷ false ∷ false ∷ false ∷ false ∷ []
unfolding measured
of-heads = refl

-- counted and summed up over two fields
abbrev two_fields : List (List ℕ)
two_fields = bytes "field\t1\town\t0\t0" ∷ bytes "id\ta" ∷ bytes "m\tspf\tpass" ∷ bytes "r\tb" ∷ bytes "field\t2\tother\t0\t0" ∷ bytes "x" ∷ []

sums : field_lines two_fields ∷ head_lines two_fields ∷ added two_fields ∷ [] ≡ 2 ∷ 3 ∷ 402 ∷ []
unfolding measured
sums = refl
