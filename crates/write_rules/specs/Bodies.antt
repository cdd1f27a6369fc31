-- 02, ticket [1], "Write our own field": the body that is written.
use Prim.Native.Char.{code}
use Rattle.std.specs.Prelude.{ℕ, Bool, true, false, ◌&&◌, List, [], ◌∷◌, ◌++◌}
use Rattle.base_readers.specs.Texts.{bytes, one_of}
use Rattle.base_readers.specs.Readers.{run}
use Rattle.lexis_rules.specs.Pieces.{token}
use Rattle.identifier_rules.specs.Identifier.{identifier_token}
use Rattle.result_rules.specs.Results.{Token, Quoted, Mailbox, AtDomain, Value, in_local_part, single_dots}
use Rattle.write_rules.specs.Entries.{Entry, identified, unstated, judged, reasoned, shown, whole, local_of, domain_of}

-- 02, ticket [1]: In a quoted string only the quote and the backslash are escaped
unfoldable pub guarded : List ℕ → List ℕ
guarded [] = []
guarded (x ∷ xs) = elim (one_of (bytes "\"\\") x) [ true ↦ code "\\" ∷ x ∷ guarded xs | false ↦ x ∷ guarded xs ]

-- 01, Small pieces: Quoted: between two quotes
unfoldable pub quote : List ℕ → List ℕ
quote t = code "\"" ∷ (guarded t ++ (code "\"" ∷ []))

-- 02, ticket [1]: Identifier, reason and a mailbox's local part are written bare where the grammar lets that text stand bare and as a
-- quoted string otherwise
unfoldable pub bare_or : Bool → List ℕ → List ℕ
bare_or true t = t
bare_or false t = quote t

-- 01, Results: the run may have no leading, trailing or doubled dot; an empty one makes an at-domain, so it can't stand bare
unfoldable pub is_bare_local : List ℕ → Bool
is_bare_local l = whole (run in_local_part) l && single_dots true l

-- 02, ticket [1]: a property of kind t or q is written as its letter says; 01, Results: an at-domain has no local part to quote
unfoldable pub pvalue : Value → List ℕ
pvalue v =
    elim v.kind [
      | Token ↦ v.text
      | Quoted ↦ quote v.text
      | Mailbox ↦ bare_or (is_bare_local (local_of v.text)) (local_of v.text) ++ (code "@" ∷ domain_of v.text)
      | AtDomain ↦ v.text
    ]

-- 02, ticket [1]: The body starts with one space; "; " stands before the word none and before each result, one space before a reason or
-- property, and no other space or folding is written. A method has no version
unfoldable pub piece : Entry → List ℕ
piece (identified i) = code " " ∷ bare_or (whole identifier_token i) i
piece unstated = bytes "; none"
piece (judged m r) = bytes "; " ++ (m ++ (code "=" ∷ r))
piece (reasoned t) = bytes " reason=" ++ bare_or (whole token t) t
piece (shown p) = code " " ∷ (p.ptype ++ (code "." ∷ (p.property ++ (code "=" ∷ pvalue p.value))))

-- 02, ticket [1]: the body, line by line
unfoldable pub body_of : List Entry → List ℕ
body_of [] = []
body_of (e ∷ es) = piece e ++ body_of es
