-- What the code's answers say.
use Prim.Native.Char.{code}
use Rattle.std.specs.Prelude.{ℕ, ◌+◌, ◌-◌, Bool, true, false, List, eqb, get_or, take, drop}
use Rattle.base_readers.specs.Texts.{follows}
use Rattle.base_readers.specs.Parsers.{Got, nothing, got}
use Rattle.lexis_rules.specs.declared.Class.TheVariants.{Delimiter}
use Rattle.lexis_rules.specs.Bytes.{in_class}
use Rattle.lexis_rules.specs.Pieces.{space, quoted}
use Rattle.lexis_rules.specs.Words.{quoted_text}
use Rattle.identifier.specs.declared.Identifier.{Identifier}
use Rattle.identifier.specs.declared.Identifier.TheVariants.{Readable, Unreadable}
use Rattle.identifier_rules.specs.Identifier.{identifier_token}

-- a value from a up to e, if there is one and the end or a delimiter comes next
unfoldable pub readable : List ℕ → ℕ → ℕ → Bool → Identifier
readable s a e q =
    elim (eqb e a) [
      | true ↦ Unreadable
      | false ↦ (elim (follows (in_class Delimiter) (drop e s)) [ true ↦ Readable a e q | false ↦ Unreadable ])
    ]

-- the value at a place: a quoted string where it starts with a quote, else a token
unfoldable pub identifier_from : List ℕ → ℕ → Identifier
identifier_from s a =
    elim (eqb (get_or (drop a s) 0 0) (code "\"")) [
      | true ↦ readable s a (a + quoted (drop a s)) true
      | false ↦ readable s a (a + identifier_token (drop a s)) false
    ]

abbrev pub identifier_at : List ℕ → Identifier
identifier_at s = identifier_from s (space s)

-- the text of a value from a up to e, quoted or not
abbrev pub text_of : List ℕ → ℕ → ℕ → Bool → List ℕ
text_of s a e true = quoted_text (drop a s)
text_of s a e false = take (e - a) (drop a s)

-- the text of an identifier that was found, and the place after it
abbrev pub identifier_got : List ℕ → Identifier → Got (List ℕ)
identifier_got s (Readable a e q) = got (text_of s a e q) e
identifier_got s Unreadable = nothing
