-- What a report says to a person: the lines of the report of a block (blockreport_rules), in words. Each field has a line that says whose word it is
-- and what is not shown of it, then one with its identifier, and one for each result with its reason and its properties. What a field says is told as
-- what it says, never as what is so, and no text of it can look like a part that it is not (`shown_text`).
use Prim.Native.Char.{code}
use Rattle.std.specs.Prelude.{ℕ, suc, Bool, true, false, cond, not, List, [], ◌∷◌, ◌++◌, eqb, take, drop}
use Rattle.base_readers.specs.Texts.{bytes, same}
use Rattle.base_readers.specs.Readers.{run}
use Rattle.base_readers.specs.Lines.{lines_of}
use Rattle.explain_rules.specs.declared.Line.{Line}
use Rattle.explain_rules.specs.declared.Line.TheVariants.{Field, Identifier, Version, NoResult, Method, Reason, Property, Other}
use Rattle.explain_rules.specs.Texts.{decoded, shown_text}

-- ==== columns

-- any byte but tab
abbrev pub in_column : ℕ → Bool
in_column x = not (eqb x (code "\t"))

-- the first column of a line, and what stands behind the tab that ends it
abbrev pub column : List ℕ → List ℕ
column l = take (run in_column l) l

abbrev pub behind : List ℕ → List ℕ
behind l = drop (suc (run in_column l)) l

-- what a line is, by its first column
unfoldable pub kind_of : List ℕ → Line
kind_of w =
    cond (same w (bytes "field")) Field
    (cond (same w (bytes "id")) Identifier
    (cond (same w (bytes "v")) Version
    (cond (same w (bytes "none")) NoResult
    (cond (same w (bytes "m")) Method
    (cond (same w (bytes "r")) Reason
    (cond (same w (bytes "p")) Property Other))))))

-- ==== texts

-- the text of a column, and that of the first one, as they are shown
abbrev pub shown : List ℕ → List ℕ
shown w = shown_text (decoded w)

abbrev pub text : List ℕ → List ℕ
text l = shown (column l)

-- ==== what is said of a field

-- whose word it is, and what stripping does with it. Who writes our own name into a field need not be us, so what such a field says is only claimed
unfoldable pub whose_words : List ℕ → List ℕ
whose_words w =
    cond (same w (bytes "own")) (bytes "in our own name: strip removes it; what it says is only claimed")
    (cond (same w (bytes "other")) (bytes "another's word: strip keeps it")
    (bytes "its identifier can't be read: strip removes it"))

-- by the number of its answer: a newer header version, or a body that is not well-formed
unfoldable pub answer_words : List ℕ → List ℕ
answer_words w =
    cond (same w (bytes "8")) (bytes "; of a newer version: what it says is not read")
    (cond (same w (bytes "9")) (bytes "; not well-formed: none of its results is shown") [])

-- how many results are not shown, and why
unfoldable pub count_words : List ℕ → List ℕ
count_words w =
    cond (same w (bytes "0")) []
    (bytes "; " ++ (shown w ++ (cond (same w (bytes "1")) (bytes " result") (bytes " results") ++ bytes " of a newer version or not known: not shown")))

-- the columns behind `field`: its number, whose it is, its answer and how many results are ignored
unfoldable pub field_words : List ℕ → List ℕ
field_words l =
    bytes "Field " ++ (text l ++ (bytes ": " ++ (whose_words (column (behind l))
    ++ (answer_words (column (behind (behind l))) ++ count_words (column (behind (behind (behind l))))))))

-- ==== what is said of its report

-- method and result
unfoldable pub method_words : List ℕ → List ℕ
method_words l = bytes "  says " ++ (text l ++ (bytes ": " ++ text (behind l)))

-- ptype, property, and behind the letter of its kind the text
unfoldable pub property_words : List ℕ → List ℕ
property_words l = bytes ", " ++ (text l ++ (bytes "." ++ (text (behind l) ++ (bytes ": " ++ text (behind (behind (behind l)))))))

-- a line that is of this kind, by what stands behind its first column
unfoldable pub words : Line → List ℕ → List ℕ
words Field l = field_words l
words Identifier l = bytes "  says it was checked by " ++ text l
words Version l = bytes "  says header version " ++ text l
words NoResult l = bytes "  says that nothing was checked"
words Method l = method_words l
words Reason l = bytes ", reason: " ++ text l
words Property l = property_words l
words Other l = []

abbrev pub kind_of_line : List ℕ → Line
kind_of_line l = kind_of (column l)

abbrev pub line_words : List ℕ → List ℕ
line_words l = words (kind_of_line l) (behind l)

-- ==== the whole text

-- a reason and a property stand in the line of their result
unfoldable pub goes_on : Line → Bool
goes_on Field = false
goes_on Identifier = false
goes_on Version = false
goes_on NoResult = false
goes_on Method = false
goes_on Reason = true
goes_on Property = true
goes_on Other = false

-- the end of what was said, by the lines behind it
unfoldable pub ended : List (List ℕ) → List ℕ
ended [] = code "\n" ∷ []
ended (l ∷ ls) = cond (goes_on (kind_of_line l)) [] (code "\n" ∷ [])

unfoldable pub lines_words : List (List ℕ) → List ℕ
lines_words [] = []
lines_words (l ∷ ls) = line_words l ++ (ended ls ++ lines_words ls)

-- a block without such a field has no lines
unfoldable pub explained : List ℕ → List ℕ
explained [] = bytes "There is no Authentication-Results field.\n"
explained (x ∷ xs) = lines_words (lines_of (x ∷ xs))
