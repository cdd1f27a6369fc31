-- What private functions say of each other. No public contract cites these.
use Rattle.std.specs.Prelude.{ℕ, cond, List, ◌++◌}
use Rattle.base_readers.specs.Texts.{bytes, same}
use Rattle.explain_rules.specs.Explained.{column, behind, whose_words, answer_words, count_words}

-- the columns of the line of a field: the last two, and those from the second on
abbrev pub answer_on : List ℕ → List ℕ
answer_on l = answer_words (column l) ++ count_words (column (behind l))

abbrev pub whose_on : List ℕ → List ℕ
whose_on l = whose_words (column l) ++ answer_on (behind l)

-- what is said behind a count that is not 0
unfoldable pub results_words : List ℕ → List ℕ
results_words w = cond (same w (bytes "1")) (bytes " result") (bytes " results") ++ bytes " of a newer version or not known: not shown"

-- the phrases: behind a count, for an answer, for an owner
abbrev pub results : List ℕ
results = bytes " result of a newer version or not known: not shown| results of a newer version or not known: not shown"

abbrev pub answers : List ℕ
answers = bytes "; of a newer version: what it says is not read|; not well-formed: none of its results is shown|"

abbrev pub whoses : List ℕ
whoses = bytes "in our own name: strip removes it; what it says is only claimed|another's word: strip keeps it|its identifier can't be read: strip removes it"
