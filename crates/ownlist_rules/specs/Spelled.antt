-- Our own list as it is compared: the spelling of each entry, ended by LF. It is made once for a whole block.
use Rattle.std.specs.Prelude.{ℕ, Bool, false, ◌&&◌, ◌||◌, List, [], ◌∷◌, map, leb, length}
use Rattle.base_readers.specs.Parsers.{Got, nothing, got}
use Rattle.base_readers.specs.Lines.{lined}
use Rattle.lexis_rules.specs.Bytes.{alike}
use Rattle.punycode_rules.specs.Labels.{spelling, spelling_limit}
use Rattle.ownlist_rules.specs.declared.Own.{Own}
use Rattle.ownlist_rules.specs.declared.Own.TheVariants.{Unreadable}
use Rattle.ownlist_rules.specs.Listed.{own_if}

-- the entries of a list as they are compared
abbrev pub spelled_list : List (List ℕ) → List ℕ
spelled_list own = lined (map spelling own)

-- a text equals a line but for ASCII case
unfoldable pub among_lines : List (List ℕ) → List ℕ → Bool
among_lines [] t = false
among_lines (l ∷ ls) t = alike l t || among_lines ls t

-- the spelling of an identifier does; a spelling longer than that of any entry does not
unfoldable pub among_spelled : List (List ℕ) → List ℕ → Bool
among_spelled lines i = leb (length (spelling i)) spelling_limit && among_lines lines (spelling i)

-- whose an identifier is, by such lines. For those of an own list it is what `own_of` says of its entries (`list-own` in ownlist_laws/proofs/AsCompared.antt)
abbrev pub own_of_spelled : List (List ℕ) → Got (List ℕ) → Own
own_of_spelled lines nothing = Unreadable
own_of_spelled lines (got i n) = own_if (among_spelled lines i)
