-- Document 01, "Results": one result (RFC 8601, 2.2: resinfo from its ";" on), as abstract syntax and as a grammar.
use Prim.Native.Char.{code}
use Rattle.std.specs.Prelude.{ℕ, Bool, true, false, not, ◌&&◌, ◌||◌, List, [], ◌∷◌, ◌++◌, eqb, drop}
use Rattle.std.proofs.Math.Option.{Option, none, some}
use Rattle.base_readers.specs.Texts.{bytes, one_of, same, starts}
use Rattle.base_readers.specs.Readers.{Reader, run, passing}
use Rattle.base_readers.specs.Parsers.{Parser, ◌>>=◌, ◌>>◌, give, when, byte, taken, text, branch, optional, several}
use Rattle.lexis_rules.specs.declared.Class.TheVariants.{Digit, Keyword}
use Rattle.lexis_rules.specs.declared.VersionNumber.{VersionNumber}
use Rattle.lexis_rules.specs.Bytes.{in_class, letter}
use Rattle.lexis_rules.specs.Pieces.{token, quoted}
use Rattle.lexis_rules.specs.Words.{quoted_text, skip, gap, read_value, read_keyword, read_word, read_number}
use Rattle.lexis_rules.specs.Numbers.{one}

-- ==== what a result says

-- A property value is one of four kinds: token, quoted, mailbox or at-domain
pub data Kind : Type 0 where
  Token Quoted Mailbox AtDomain : Kind

-- a property value (RFC 8601: pvalue)
pub record Value : Type 0 where
  pub kind : Kind
  pub text : List ℕ

-- ptype "." property "=" property value (RFC 8601: propspec)
pub record Property : Type 0 where
  pub ptype : List ℕ
  pub property : List ℕ
  pub value : Value

-- method, method version (its number, 1 if absent) and result (RFC 8601: methodspec)
pub record Methodspec : Type 0 where
  pub method : List ℕ
  pub version : VersionNumber
  pub result : List ℕ

-- a result: method, version and result, a reason if there is one, properties
pub record Result : Type 0 where
  pub methodspec : Methodspec
  pub reason : Option (List ℕ)
  pub properties : List Property

-- ==== parts

-- a byte between parts, with space allowed on both sides
unfoldable pub separator : ℕ → Parser Unit
separator c = do
  skip
  byte c
  skip

-- this byte comes next
abbrev pub next : ℕ → List ℕ → Bool
next c = starts (λ b. eqb b c)

-- absent means 1
unfoldable pub or_one : Option VersionNumber → VersionNumber
or_one none = one
or_one (some v) = v

-- Quoted. Its text drops the quotes, the escaping backslashes and the CRLFs
unfoldable pub read_quoted : Parser (List ℕ)
read_quoted = do
  q ← text quoted
  give (quoted_text q)

-- ==== property values

-- a letter or digit
unfoldable pub alphanumeric : ℕ → Bool
alphanumeric x = letter x || in_class Digit x

-- letters, digits, ! # $ % & ' * + - / = ? ^ _ ` { | } ~ and dots
unfoldable pub in_local_part : ℕ → Bool
in_local_part x = alphanumeric x || one_of (bytes "!#$%&'*+-/=?^_`{|}~.") x

-- letters, digits and hyphens, and the dots between labels
unfoldable pub in_domain : ℕ → Bool
in_domain x = in_class Keyword x || eqb x (code ".")

-- no leading, trailing or doubled dot; `dot` says that a dot, or the front, stands before
unfoldable pub single_dots : Bool → List ℕ → Bool
single_dots dot [] = not dot
single_dots dot (x ∷ xs) = elim (eqb x (code ".")) [ true ↦ not dot && single_dots true xs | false ↦ single_dots false xs ]

-- the run may have no leading, trailing or doubled dot; it may be empty
unfoldable pub is_local_part : List ℕ → Bool
is_local_part l = same l [] || single_dots true l

-- labels parted by dots, each of letters, digits and hyphens, starting and ending with a letter or digit; b is the byte before, a dot
-- at the front
unfoldable pub labels : ℕ → List ℕ → Bool
labels b [] = alphanumeric b
labels b (x ∷ xs) = (alphanumeric x || eqb x (code ".") && alphanumeric b || eqb x (code "-") && not (eqb b (code "."))) && labels x xs

-- two or more labels
unfoldable pub is_domain : List ℕ → Bool
is_domain d = labels (code ".") d && one_of d (code ".")

-- After "@": the longest run of these bytes, if it is two or more labels
abbrev pub domain : Reader
domain = passing is_domain (run in_domain)

-- an empty run makes an at-domain
unfoldable pub addressed : List ℕ → List ℕ → Value
addressed [] d = record { kind = AtDomain; text = code "@" ∷ d }
addressed (x ∷ l) d = record { kind = Mailbox; text = (x ∷ l) ++ (code "@" ∷ d) }

-- a run, "@" and a domain: there is nothing else to try where one of them is bad
unfoldable pub address : Parser Value
address = do
  l ← taken (run in_local_part)
  when (is_local_part l)
  byte (code "@")
  d ← text domain
  give (addressed l d)

-- A quoted string directly before "@" is also a mailbox
unfoldable pub quoted_mailbox : List ℕ → Parser Value
quoted_mailbox q = do
  byte (code "@")
  d ← text domain
  give (record { kind = Mailbox; text = q ++ (code "@" ∷ d) })

-- quoted, or a mailbox where "@" comes next
unfoldable pub quoted_value : Parser Value
quoted_value = do
  q ← read_quoted
  branch (next (code "@")) (quoted_mailbox q) (give (record { kind = Quoted; text = q }))

-- token
unfoldable pub token_value : Parser Value
token_value = do
  t ← text token
  give (record { kind = Token; text = t })

-- the longest run of the bytes of a local part is followed by "@"
unfoldable pub at_behind : List ℕ → Bool
at_behind xs = next (code "@") (drop (run in_local_part xs) xs)

-- one of four kinds: token, quoted, mailbox or at-domain
unfoldable pub property_value : Parser Value
property_value = branch at_behind address (branch (next (code "\"")) quoted_value token_value)

-- ==== results

-- "/" and a digit run (method version, leading zeros not counted)
unfoldable pub method_version : Parser VersionNumber
method_version = do
  separator (code "/")
  read_number

-- method, optionally "/" and a digit run, "=" and a result keyword
unfoldable pub methodspec : Parser Methodspec
methodspec = do
  m ← read_keyword
  v ← optional method_version
  separator (code "=")
  r ← read_keyword
  give (record { method = m; version = or_one v; result = r })

-- after non-empty space, reason "=" value
unfoldable pub reason : Parser (List ℕ)
reason = do
  gap
  read_word (bytes "reason")
  separator (code "=")
  read_value

-- after non-empty space: ptype "." property "=" property value
unfoldable pub property : Parser Property
property = do
  gap
  t ← read_keyword
  separator (code ".")
  p ← read_keyword
  separator (code "=")
  v ← property_value
  give (record { ptype = t; property = p; value = v })

-- behind its ";": method ..; then optionally .. reason ..; then any number of properties
abbrev pub bare_result : Parser Result
bare_result = do
  m ← methodspec
  r ← optional reason
  ps ← several property 0
  give (record { methodspec = m; reason = r; properties = ps })

-- A result is ";" method ..
unfoldable pub result : Parser Result
result = do
  byte (code ";")
  skip
  bare_result
