-- Document 01, "Small pieces of a body", as readers.
use Prim.Native.Char.{code}
use Rattle.std.specs.Prelude.{ℕ, zero, suc, ◌+◌, ◌-◌, ◌*◌, Bool, true, false, not, cond, ◌&&◌, List, [], ◌∷◌, eqb, length, get_or}
use Rattle.base_readers.specs.Readers.{Reader, run, many, choose, between, passing}
use Rattle.lexis_rules.specs.declared.Class.{Class}
use Rattle.lexis_rules.specs.declared.Class.TheVariants.{Blank, Opening, Zero, Digit, Keyword, Token, Quoted, Comment, Escaped, Name, Visible, Delimiter, Tag}
use Rattle.lexis_rules.specs.Limits.{depth_limit}
use Rattle.lexis_rules.specs.Bytes.{in_class}

-- backslash with one of 32 to 126 or tab
unfoldable pub pair : List ℕ → Bool
pair xs = eqb (get_or xs 0 0) (code "\\") && in_class Escaped (get_or xs 1 0)

-- CRLF followed by space or tab
unfoldable pub fold : List ℕ → Bool
fold xs = eqb (get_or xs 0 0) (code "\r") && eqb (get_or xs 1 0) (code "\n") && in_class Blank (get_or xs 2 0)

-- a backslash stands in quoted strings and comments only
abbrev pub escapes : Class → Bool
escapes Blank = false
escapes Opening = false
escapes Zero = false
escapes Digit = false
escapes Keyword = false
escapes Token = false
escapes Quoted = true
escapes Comment = true
escapes Escaped = false
escapes Name = false
escapes Visible = false
escapes Delimiter = false
escapes Tag = false

-- one byte of the class, a backslash with its byte, or a CRLF with the space or tab that follows it
unfoldable pub item : Class → Reader
item c xs = cond (in_class c (get_or xs 0 0)) 1 (cond (escapes c && pair xs) 2 (cond (fold xs) 3 0))

-- Comment: "(" then any of .. or a comment inside; then ")". At most d levels; the outermost has depth 1
unfoldable pub comment : ℕ → Reader
comment zero = λ xs. 0
comment (suc d) = between (code "(") (code ")") (many (choose (code "(") (comment d) (item Comment)) 0)

-- items of a class and comments of at most d levels, as many as there are
abbrev pub content : ℕ → Class → Reader
content d c = many (choose (code "(") (comment d) (item c)) 0

-- Space (CFWS): the longest run of space, tab, CRLF followed by space or tab, and comments
abbrev pub space : Reader
space = content depth_limit Blank

-- 01, The chain: space without comments
abbrev pub bare_space : Reader
bare_space = many (item Blank) 0

-- Token: longest run
abbrev pub token : Reader
token = run (in_class Token)

-- Quoted: between two quotes
abbrev pub quoted : Reader
quoted = between (code "\"") (code "\"") (many (item Quoted) 0)

-- Value: token or quoted
abbrev pub value : Reader
value = choose (code "\"") quoted token

-- not ending in a hyphen
unfoldable pub unhyphened : List ℕ → Bool
unhyphened k = not (eqb (get_or k (length k - 1) 0) (code "-"))

-- Keyword: longest run of letters, digits and hyphens that doesn't end in a hyphen
abbrev pub keyword : Reader
keyword = passing unhyphened (run (in_class Keyword))

-- digit run
abbrev pub digits : Reader
digits = run (in_class Digit)

abbrev pub zeros : Reader
zeros = run (in_class Zero)

-- how many leading zeros of a digit run don't count: where all are zeros the last one stays, for the number is 0
unfoldable pub leading : List ℕ → ℕ
leading xs = cond (eqb (zeros xs) (digits xs)) (digits xs - 1) (zeros xs)

-- the number that the digits at the front write, after digits that write n
unfoldable pub decimal : ℕ → List ℕ → ℕ
decimal n [] = n
decimal n (x ∷ xs) = elim (in_class Digit x) [ true ↦ decimal (n * 10 + (x - code "0")) xs | false ↦ n ]
