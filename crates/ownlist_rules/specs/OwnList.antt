-- Document 01, "Block and list": our own list of identifiers, and answer 5; 02, ticket [2]: its entries in UTF-8.
use Prim.Native.Char.{code}
use Rattle.std.specs.Prelude.{ℕ, zero, suc, ◌+◌, true, false, cond, ◌&&◌, List, leb, eqb, get_or, take}
use Rattle.base_readers.specs.Readers.{Reader, run, many}
use Rattle.base_readers.specs.Walks.{Met, item, refused, Walked, walk}
use Rattle.lexis_rules.specs.declared.Class.TheVariants.{Visible}
use Rattle.lexis_rules.specs.Bytes.{in_class}
use Rattle.ownlist_rules.specs.Utf8.{sequence}

-- 01, What the library is handed: 64 list entries of 1 to 255 bytes
abbrev pub entry_limit : ℕ
entry_limit = 64

abbrev pub longest : ℕ
longest = 255

-- bytes 33 to 126
abbrev pub visible : Reader
visible = run (in_class Visible)

-- entries of bytes 33 to 126; 02, ticket [2]: or valid UTF-8 from 128 up
unfoldable pub entry_item : Reader
entry_item xs = cond (in_class Visible (get_or xs 0 0)) 1 (sequence xs)

abbrev pub entry_text : Reader
entry_text = many entry_item 0

-- each ended by LF: an entry with its LF; nothing where it is empty, over 255 bytes, holds another byte or lacks its LF
unfoldable pub entry : Reader
entry xs = cond (leb 1 (entry_text xs) && leb (entry_text xs) longest && eqb (get_or xs (entry_text xs) 0) (code "\n")) (entry_text xs + 1) 0

-- the entry at the front of xs, which starts at a place of the list, after so many entries: 5 where it is bad, or is the 65th
unfoldable pub entry_at : ℕ → ℕ → List ℕ → Met (List ℕ)
entry_at at count xs =
    elim (entry xs) [
      | zero ↦ refused 5 at
      | suc n ↦ (elim (leb entry_limit count) [ true ↦ refused 5 at | false ↦ item (take n xs) (suc n) ])
    ]

-- the entries before the first bad one, and the answer
abbrev pub own_list : List ℕ → Walked (List ℕ)
own_list list = walk entry_at 0 0 0 list
