-- The definitions at worked examples: each table pairs a text with what the document says of it, and the computed column is the stated
-- one.
use Prim.Native.Char.{code}
use Prim.Native.Nat.{ℕ}
use mathlib.Core.Path.{◌≡◌, refl}
use mathlib.Core.Bool.{true, false}
use mathlib.Core.List.{List, [], ◌∷◌, ◌++◌, map}
use Rattle.base_readers.specs.Texts.{bytes, within, one_of, same}
use Rattle.base_readers.specs.Readers.{run, many, choose, between, passing, lasts}
use Rattle.base_readers.proofs.Cases.{case, Says, copies}
use Rattle.lexis_rules.specs.declared.Class.{Class}
use Rattle.lexis_rules.specs.declared.Class.TheVariants.{Blank, Opening, Zero, Digit, Keyword, Token, Quoted, Comment, Escaped, Name, Visible, Delimiter, Tag}
use Rattle.lexis_rules.specs.Bytes.{in_class, letter, lower, alike}
use Rattle.lexis_rules.specs.Pieces.{pair, fold, item, comment, space, bare_space, token, quoted, value, unhyphened, keyword, digits, leading, decimal}
use Rattle.lexis_rules.specs.Numbers.{or_large}
use Rattle.lexis_rules.specs.Words.{quoted_text, value_text, keyword_text, counted}

-- every definition opened at once
unfoldable pub opened : Unit {0}
unfolding in_class letter lower alike within one_of same run many choose between passing lasts pair fold item comment unhyphened leading
    decimal or_large quoted_text value_text counted
opened = tt

-- n comments, one inside the other
abbrev nested : ℕ → List ℕ
nested n = copies n (code "(") ++ copies n (code ")")

-- 01, Small pieces: Comment; Samples: 16 deep read, 17 deep do not
comments :
    Says (comment 16)
    (case (nested 16) 32
    ∷ case (nested 17) 0
    ∷ case (bytes "(a;b)c") 5
    ∷ case (bytes "(a (b) \\) c) d") 12
    ∷ case (bytes "(a\r\n b)") 7
    ∷ case (bytes "(a\r\nb)") 0
    ∷ case (bytes "(a\rb)") 0
    ∷ case (bytes "(a\\\r)") 0
    ∷ case (bytes "(a\r\n\tb)") 7
    ∷ case (bytes "(\\(\\))") 6
    ∷ case (bytes "(\\\t\\ )") 6
    ∷ case (bytes "(\\é)") 0
    ∷ case (bytes "(\\") 0
    ∷ case (bytes "(\t )") 4
    ∷ case (bytes "(é)") 3
    ∷ case (bytes "(\u{7f})") 0
    ∷ case (bytes "(\u{7f}a)") 0
    ∷ case (bytes "(a") 0
    ∷ case (bytes "()") 2
    ∷ case (bytes "a)") 0
    ∷ case (bytes "(a(b)") 0
    ∷ case (bytes "((a)(b))") 8
    ∷ case [] 0
    ∷ [])
unfolding opened
comments = refl

-- at most d levels; the outermost has depth 1
levels : map (λ (d : ℕ). comment d (bytes "((a))")) (0 ∷ 1 ∷ 2 ∷ 3 ∷ []) ≡ 0 ∷ 0 ∷ 5 ∷ 5 ∷ []
unfolding opened
levels = refl

-- 01, Small pieces: a backslash with its byte stands in quoted strings and comments, and nowhere else; a CRLF with the space or tab that follows
-- it stands in both and in space. (A backslash alone is a byte of the last four; a CR is one of `Opening` and of `Delimiter`.)
abbrev classes : List Class
classes = Quoted ∷ Comment ∷ Blank ∷ Opening ∷ Zero ∷ Digit ∷ Keyword ∷ Token ∷ Delimiter ∷ Escaped ∷ Name ∷ Visible ∷ Tag ∷ []

pairs : map (λ (c : Class). item c (bytes "\\(")) classes ≡ 2 ∷ 2 ∷ 0 ∷ 0 ∷ 0 ∷ 0 ∷ 0 ∷ 0 ∷ 0 ∷ 1 ∷ 1 ∷ 1 ∷ 1 ∷ []
unfolding opened
pairs = refl

folds : map (λ (c : Class). item c (bytes "\r\n x")) classes ≡ 3 ∷ 3 ∷ 3 ∷ 1 ∷ 3 ∷ 3 ∷ 3 ∷ 3 ∷ 1 ∷ 3 ∷ 3 ∷ 3 ∷ 3 ∷ []
unfolding opened
folds = refl

-- 01, Small pieces: Space (CFWS)
spaces :
    Says space
    (case (bytes "x") 0
    ∷ case [] 0
    ∷ case (bytes " \t\r\n (x(y)) (bad") 12
    ∷ case (bytes "(a;b);") 5
    ∷ case (bytes "\r\n x") 3
    ∷ case (bytes "\r\nx") 0
    ∷ case (bytes "\r x") 0
    ∷ case (bytes "\r\r x") 0
    ∷ case (bytes "x\n y") 0
    ∷ case (bytes "\r\n\tx") 3
    ∷ case (bytes " \n") 1
    ∷ case (bytes " \\ ") 1
    ∷ case (bytes "()\t()x") 5
    ∷ case (nested 16 ++ nested 17) 32
    ∷ [])
unfolding opened
spaces = refl

-- 01, The chain: space there is without comments
bare_spaces :
    Says bare_space
    (case (bytes " \t\r\n (x)") 5 ∷ case (bytes "(x)") 0 ∷ case (bytes "\r\n") 0 ∷ case (bytes "\r\n\tx") 3 ∷ case (bytes "x ") 0 ∷ case [] 0 ∷ [])
unfolding opened
bare_spaces = refl

-- 01, Small pieces: Token: longest run, never empty
tokens :
    Says token
    (case (bytes "text/plain") 4 ∷ case (bytes "/") 0 ∷ case (bytes "a-b.c_d!x@y") 9 ∷ case (bytes "é") 0 ∷ case (bytes "a\r\n b") 1 ∷ case [] 0 ∷ [])
unfolding opened
tokens = refl

-- 01, Small pieces: Quoted
quoteds :
    Says quoted
    (case (bytes "\"a\\\"b\" x") 6
    ∷ case (bytes "\"a;b\";") 5
    ∷ case (bytes "\"a\r\n b\"") 7
    ∷ case (bytes "\"a\r\nb\"") 0
    ∷ case (bytes "\"a\nb\"") 0
    ∷ case (bytes "\"a\\\n\"") 0
    ∷ case (bytes "\"é\t \"") 5
    ∷ case (bytes "\"\\\t(\"") 5
    ∷ case (bytes "\"\\é\"") 0
    ∷ case (bytes "\"\u{7f}\"") 0
    ∷ case (bytes "\"\"") 2
    ∷ case (bytes "\"a") 0
    ∷ case (bytes "\"a\\\"") 0
    ∷ case (bytes "a\"") 0
    ∷ [])
unfolding opened
quoteds = refl

-- 01, Small pieces: Quoted: its text drops the quotes, the escaping backslashes and the CRLFs
quoted_texts :
    Says quoted_text
    (case (bytes "\"a\\\"b\" x") (bytes "a\"b")
    ∷ case (bytes "\"a\r\n b\"") (bytes "a b")
    ∷ case (bytes "\"a;\\\\(b)\"") (bytes "a;\\(b)")
    ∷ case (bytes "\"\"") []
    ∷ [])
unfolding opened
quoted_texts = refl

-- 01, Small pieces: Value: token or quoted
values : Says value (case (bytes "a b") 1 ∷ case (bytes "\"a b\" c") 5 ∷ case (bytes "\"a") 0 ∷ case (bytes ";") 0 ∷ case [] 0 ∷ [])
unfolding opened
values = refl

value_texts : Says value_text (case (bytes "a.b") (bytes "a.b") ∷ case (bytes "\"a \\b\"") (bytes "a b") ∷ case (bytes "\"\"") [] ∷ [])
unfolding opened
value_texts = refl

-- 01, Small pieces: Keyword: longest run that doesn't end in a hyphen, never empty
keywords :
    Says keyword
    (case (bytes "pass-") 0
    ∷ case (bytes "-") 0
    ∷ case (bytes "--x") 3
    ∷ case (bytes "x--") 0
    ∷ case (bytes "x-y-;") 0
    ∷ case (bytes "a_b") 1
    ∷ case (bytes "x-509=") 5
    ∷ case (bytes "pass ") 4
    ∷ case (bytes "1a.b") 2
    ∷ case (bytes "=") 0
    ∷ case [] 0
    ∷ [])
unfolding opened
keywords = refl

-- 01, Small pieces: keywords are reported in lower case
keyword_texts : Says keyword_text (case (bytes "DKIM-x9") (bytes "dkim-x9") ∷ case (bytes "@[`{") (bytes "@[`{") ∷ [])
unfolding opened
keyword_texts = refl

-- 01, Small pieces: digit run, never empty
digit_runs : Says digits (case (bytes "01; none") 2 ∷ case (bytes "a") 0 ∷ case (bytes "9876543210") 10 ∷ case (bytes "/") 0 ∷ case (bytes ":") 0 ∷ [])
unfolding opened
digit_runs = refl

-- 01, Identifier and header version: leading zeros don't count; The report: 0 if all are zeros
counteds :
    Says counted
    (case (bytes "01;") (bytes "1")
    ∷ case (bytes "000 ") (bytes "0")
    ∷ case (bytes "0") (bytes "0")
    ∷ case (bytes "00120") (bytes "120")
    ∷ case (bytes "10") (bytes "10")
    ∷ case (bytes "x") []
    ∷ [])
unfolding opened
counteds = refl

-- the number of a digit run: the digits end at the first other byte
numbers : Says (decimal 0) (case (bytes "65537;9") 65537 ∷ case (bytes "0120") 120 ∷ case (bytes "000") 0 ∷ case (bytes "x") 0 ∷ case [] 0 ∷ [])
unfolding opened
numbers = refl

-- 01, Block and list, Small pieces: without regard to ASCII case
alikes :
    Says (alike (bytes "Example.COM"))
    (case (bytes "example.com") true
    ∷ case (bytes "EXAMPLE.com") true
    ∷ case (bytes "example.co") false
    ∷ case (bytes "example.com ") false
    ∷ case (bytes "example-com") false
    ∷ [])
unfolding opened
alikes = refl
