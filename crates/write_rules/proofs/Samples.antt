-- 02, ticket [1], "Write our own field", at worked examples: the computed answers are the stated ones. Every rule has an accepted neighbour
-- and a refused or differently written one. A body of 65,536 bytes is too long to compute with: by its length alone.
use Prim.Native.Nat.{ℕ}
use mathlib.Core.Path.{◌≡◌, refl}
use mathlib.Core.Bool.{true, false}
use mathlib.Core.List.{List, [], ◌∷◌, ◌++◌, map}
use lib.Dec.{leb}
use lib.ListN.{length}
use Rattle.base_readers.specs.Texts.{bytes}
use Rattle.base_readers.proofs.Cases.{case, Says}
use Rattle.lexis_rules.proofs.ClassExamples.{range, members, figures}
use Rattle.result_rules.specs.Results.{Mailbox}
use Rattle.write_rules.specs.Entries.{Entry, identified, unstated, judged, reasoned, shown, line_of, is_hex, hex_value, hex_or}
use Rattle.write_rules.specs.Compose.{entries, Answer, refusal, sized, answer, compose}
use Rattle.write_rules.specs.Answers.{answer_of, leaves}
use Rattle.write_rules.specs.Promise.{lines_with_feeds}
use Rattle.write_rules.proofs.Unfolding.{opened}

-- the body that is written
abbrev body : List ℕ → Answer
body out = record { number = 0; place = 0; written = out }

-- no report: 11, and the line
abbrev bad_line : ℕ → Answer
bad_line line = refusal 11 line

-- with room for 1000 bytes
abbrev written : List ℕ → Answer
written src = compose src 1000

-- ==== RFC 8601, Appendix B: the reports of its fields, written again

-- B.2, B.3, B.4 (two fields), B.5 (two fields), B.6 (two fields), B.7
appendix :
    Says written
    (case (bytes "id\texample.org\nnone\n") (body (bytes " example.org; none"))
    ∷ case (bytes "id\texample.com\nm\tspf\tpass\np\tsmtp\tmailfrom\tt\texample.net\n") (body (bytes " example.com; spf=pass smtp.mailfrom=example.net"))
    ∷ case (bytes "id\texample.com\nm\tauth\tpass\np\tsmtp\tauth\tm\tsender@example.net\nm\tspf\tpass\np\tsmtp\tmailfrom\tt\texample.net\n")
    (body (bytes " example.com; auth=pass smtp.auth=sender@example.net; spf=pass smtp.mailfrom=example.net"))
    ∷ case (bytes "id\texample.com\nm\tiprev\tpass\np\tpolicy\tiprev\tt\t192.0.2.200\n") (body (bytes " example.com; iprev=pass policy.iprev=192.0.2.200"))
    ∷ case (bytes "id\texample.com\nm\tdkim\tpass\np\theader\td\tt\texample.com\n") (body (bytes " example.com; dkim=pass header.d=example.com"))
    ∷ case (bytes "id\texample.com\nm\tauth\tpass\np\tsmtp\tauth\tm\tsender@example.com\nm\tspf\tfail\np\tsmtp\tmailfrom\tt\texample.com\n")
    (body (bytes " example.com; auth=pass smtp.auth=sender@example.com; spf=fail smtp.mailfrom=example.com"))
    ∷ case
    (bytes "id\texample.com\nm\tdkim\tpass\nr\tgood%20signature\np\theader\ti\ta\t@mail-router.example.net\n"
    ++ bytes "m\tdkim\tfail\nr\tbad%20signature\np\theader\ti\ta\t@newyork.example.com\n")
    (body
    (bytes " example.com; dkim=pass reason=\"good signature\" header.i=@mail-router.example.net;"
    ++ bytes " dkim=fail reason=\"bad signature\" header.i=@newyork.example.com"))
    ∷ case (bytes "id\texample.net\nm\tdkim\tpass\np\theader\ti\ta\t@newyork.example.com\n") (body (bytes " example.net; dkim=pass header.i=@newyork.example.com"))
    ∷ case (bytes "id\tfoo.example.net\nm\tdkim\tfail\np\tpolicy\texpired\tt\t1362471462\n") (body (bytes " foo.example.net; dkim=fail policy.expired=1362471462"))
    ∷ [])
unfolding opened
appendix = refl

-- ==== texts

-- an id line with the text, and none
abbrev identifier : List ℕ → Answer
identifier t = written (bytes "id\t" ++ (t ++ bytes "\nnone\n"))

-- Identifier .. bare where the grammar lets that text stand bare: its token may hold bytes from 128 up. In a quoted string only the quote
-- and the backslash are escaped: the percent sign isn't
identifiers :
    Says identifier
    (case (bytes "a") (body (bytes " a; none"))
    ∷ case (bytes "") (body (bytes " \"\"; none"))
    ∷ case (bytes "%E9") (body (bytes " " ++ (233 ∷ bytes "; none")))
    ∷ case (bytes "a%80%FF") (body (bytes " a" ++ (128 ∷ 255 ∷ bytes "; none")))
    ∷ case (bytes "a%20b") (body (bytes " \"a b\"; none"))
    ∷ case (bytes "a%80%20") (body (bytes " \"a" ++ (128 ∷ bytes " \"; none")))
    ∷ case (bytes "%09") (body (bytes " \"\t\"; none"))
    ∷ case (bytes "a/b") (body (bytes " \"a/b\"; none"))
    ∷ case (bytes "a%25b") (body (bytes " a%b; none"))
    ∷ case (bytes "a%25%20b") (body (bytes " \"a% b\"; none"))
    ∷ case (bytes "\"") (body (bytes " \"\\\"\"; none"))
    ∷ case (bytes "a\\b") (body (bytes " \"a\\\\b\"; none"))
    ∷ [])
unfolding opened
identifiers = refl

-- In id, r and p texts, bytes outside 33 to 126 and the percent sign become % and two upper-case hex digits: no other byte, no lower case,
-- no less, and no byte in its place. No quoted string has a control byte
percents :
    Says identifier
    (case (bytes "%41") (bad_line 1)
    ∷ case (bytes "%7E") (bad_line 1)
    ∷ case (bytes "%21") (bad_line 1)
    ∷ case (bytes "%0a") (bad_line 1)
    ∷ case (bytes "%e9") (bad_line 1)
    ∷ case (bytes "%") (bad_line 1)
    ∷ case (bytes "%2") (bad_line 1)
    ∷ case (bytes "%G0") (bad_line 1)
    ∷ case (bytes "%2G") (bad_line 1)
    ∷ case (bytes "a b") (bad_line 1)
    ∷ case (233 ∷ []) (bad_line 1)
    ∷ case (bytes "%00") (bad_line 1)
    ∷ case (bytes "%0A") (bad_line 1)
    ∷ case (bytes "%0D") (bad_line 1)
    ∷ case (bytes "%1F") (bad_line 1)
    ∷ case (bytes "%7F") (bad_line 1)
    ∷ case (bytes "%25") (body (bytes " %; none"))
    ∷ [])
unfolding opened
percents = refl

-- upper-case hex digits: none of the bytes next to them. What each stands for
hex-digits : members is_hex ≡ figures ++ bytes "ABCDEF"
unfolding opened
hex-digits = refl

hex-values : map hex_value (figures ++ bytes "ABCDEF") ≡ range 0 15
unfolding opened
hex-values = refl

-- what a program is told: the same, and 16 of the bytes next to them
hex-or-16 : map hex_or (bytes "/019:@AFGaf" ++ (0 ∷ 255 ∷ [])) ≡ 16 ∷ 0 ∷ 1 ∷ 9 ∷ 16 ∷ 16 ∷ 10 ∷ 15 ∷ 16 ∷ 16 ∷ 16 ∷ 16 ∷ 16 ∷ []
unfolding opened
hex-or-16 = refl

-- the text as the reason of a result
abbrev reason : List ℕ → Answer
reason t = written (bytes "id\ta\nm\tspf\tpass\nr\t" ++ (t ++ bytes "\n"))

-- reason .. bare where the grammar lets that text stand bare: a token
reasons :
    Says reason
    (case (bytes "ok") (body (bytes " a; spf=pass reason=ok"))
    ∷ case (bytes "a%25") (body (bytes " a; spf=pass reason=a%"))
    ∷ case (bytes "") (body (bytes " a; spf=pass reason=\"\""))
    ∷ case (bytes "not%20ok") (body (bytes " a; spf=pass reason=\"not ok\""))
    ∷ case (bytes "%E9") (body (bytes " a; spf=pass reason=\"" ++ (233 ∷ bytes "\"")))
    ∷ case (bytes "a;b") (body (bytes " a; spf=pass reason=\"a;b\""))
    ∷ case (bytes "\"\\") (body (bytes " a; spf=pass reason=\"\\\"\\\\\""))
    ∷ case (bytes "%7F") (bad_line 3)
    ∷ [])
unfolding opened
reasons = refl

-- kind letter, tab and text as the end of a property's line
abbrev value : List ℕ → Answer
value t = written (bytes "id\ta\nm\tspf\tpass\np\tsmtp\tb\t" ++ (t ++ bytes "\n"))

-- a mailbox's local part .. bare where the grammar lets that text stand bare: runs parted by single dots
locals :
    Says value
    (case (bytes "m\tc@d.e") (body (bytes " a; spf=pass smtp.b=c@d.e"))
    ∷ case (bytes "m\tc.x@d.e") (body (bytes " a; spf=pass smtp.b=c.x@d.e"))
    ∷ case (bytes "m\tc/=?%25@d.e") (body (bytes " a; spf=pass smtp.b=c/=?%@d.e"))
    ∷ case (bytes "m\tc..x@d.e") (body (bytes " a; spf=pass smtp.b=\"c..x\"@d.e"))
    ∷ case (bytes "m\t.c@d.e") (body (bytes " a; spf=pass smtp.b=\".c\"@d.e"))
    ∷ case (bytes "m\tc.@d.e") (body (bytes " a; spf=pass smtp.b=\"c.\"@d.e"))
    ∷ case (bytes "m\tc%20x@d.e") (body (bytes " a; spf=pass smtp.b=\"c x\"@d.e"))
    ∷ case (bytes "m\t%E9@d.e") (body (bytes " a; spf=pass smtp.b=\"" ++ (233 ∷ bytes "\"@d.e")))
    ∷ case (bytes "m\tx@c@d.e") (body (bytes " a; spf=pass smtp.b=\"x@c\"@d.e"))
    ∷ case (bytes "m\t\"@d.e") (body (bytes " a; spf=pass smtp.b=\"\\\"\"@d.e"))
    ∷ case (bytes "m\t@d.e") (body (bytes " a; spf=pass smtp.b=\"\"@d.e"))
    ∷ case (bytes "m\tc@d") (bad_line 3)
    ∷ case (bytes "m\tc@-d.e") (bad_line 3)
    ∷ case (bytes "m\tc@d.e.") (bad_line 3)
    ∷ case (bytes "m\tc@") (bad_line 3)
    ∷ case (bytes "m\tc") (bad_line 3)
    ∷ case (bytes "m\t%7F@d.e") (bad_line 3)
    ∷ [])
unfolding opened
locals = refl

-- a property of kind t or q is written as its letter says; an at-domain as it is
kinds :
    Says value
    (case (bytes "t\tc") (body (bytes " a; spf=pass smtp.b=c"))
    ∷ case (bytes "t\tc%25") (body (bytes " a; spf=pass smtp.b=c%"))
    ∷ case (bytes "t\t") (bad_line 3)
    ∷ case (bytes "t\tc/d") (bad_line 3)
    ∷ case (bytes "t\tc@d.e") (bad_line 3)
    ∷ case (bytes "t\tc%20d") (bad_line 3)
    ∷ case (bytes "t\t%E9") (bad_line 3)
    ∷ case (bytes "q\tc") (body (bytes " a; spf=pass smtp.b=\"c\""))
    ∷ case (bytes "q\t") (body (bytes " a; spf=pass smtp.b=\"\""))
    ∷ case (bytes "q\tc%20\"%E9") (body (bytes " a; spf=pass smtp.b=\"c \\\"" ++ (233 ∷ bytes "\"")))
    ∷ case (bytes "q\t%00") (bad_line 3)
    ∷ case (bytes "a\t@d.e") (body (bytes " a; spf=pass smtp.b=@d.e"))
    ∷ case (bytes "a\t@d") (bad_line 3)
    ∷ case (bytes "a\td.e") (bad_line 3)
    ∷ case (bytes "a\tc@d.e") (bad_line 3)
    ∷ case (bytes "a\t@c@d.e") (bad_line 3)
    ∷ case (bytes "T\tc") (bad_line 3)
    ∷ case (bytes "x\tc") (bad_line 3)
    ∷ case (bytes "\tc") (bad_line 3)
    ∷ case (bytes "tc") (bad_line 3)
    ∷ [])
unfolding opened
kinds = refl

-- ==== keywords

-- the columns of a line behind the id line
abbrev second : List ℕ → Answer
second t = written (bytes "id\ta\n" ++ (t ++ bytes "\n"))

-- Keywords .. are reported in lower case; its method and its result are in this table, in one row; no version
methods :
    Says second
    (case (bytes "m\tspf\tsoftfail") (body (bytes " a; spf=softfail"))
    ∷ case (bytes "m\tdkim\tsoftfail") (bad_line 2)
    ∷ case (bytes "m\tarc\tnone") (body (bytes " a; arc=none"))
    ∷ case (bytes "m\tiprev\tnone") (bad_line 2)
    ∷ case (bytes "m\tSPF\tpass") (bad_line 2)
    ∷ case (bytes "m\tspf\tPass") (bad_line 2)
    ∷ case (bytes "m\tnone\tpass") (bad_line 2)
    ∷ case (bytes "m\tsmtp\tpass") (bad_line 2)
    ∷ case (bytes "m\tpass\tspf") (bad_line 2)
    ∷ case (bytes "m\tspf/1\tpass") (bad_line 2)
    ∷ case (bytes "m\tspf\t") (bad_line 2)
    ∷ case (bytes "m\tspf") (bad_line 2)
    ∷ case (bytes "m\tspf\tpass\t") (bad_line 2)
    ∷ [])
unfolding opened
methods = refl

-- ptype, tab and property, in a property's line behind a method line
abbrev named : List ℕ → Answer
named t = written (bytes "id\ta\nm\tspf\tpass\np\t" ++ (t ++ bytes "\tt\tc\n"))

-- smtp, header, body or policy; any keyword, which doesn't end in a hyphen
properties :
    Says named
    (case (bytes "smtp\tb") (body (bytes " a; spf=pass smtp.b=c"))
    ∷ case (bytes "header\tb") (body (bytes " a; spf=pass header.b=c"))
    ∷ case (bytes "body\tb") (body (bytes " a; spf=pass body.b=c"))
    ∷ case (bytes "policy\tb-1") (body (bytes " a; spf=pass policy.b-1=c"))
    ∷ case (bytes "dns\tb") (bad_line 3)
    ∷ case (bytes "Smtp\tb") (bad_line 3)
    ∷ case (bytes "smtp\tB") (bad_line 3)
    ∷ case (bytes "smtp\tb-") (bad_line 3)
    ∷ case (bytes "smtp\t") (bad_line 3)
    ∷ case (bytes "smtp.b") (bad_line 3)
    ∷ [])
unfolding opened
properties = refl

-- ==== the line of each entry, as a report has it

entry-lines :
    map line_of
    (identified (bytes "a b")
    ∷ unstated
    ∷ judged (bytes "spf") (bytes "pass")
    ∷ reasoned (bytes "x y")
    ∷ shown (record { ptype = bytes "smtp"; property = bytes "b"; value = record { kind = Mailbox; text = bytes "c@d.e" } })
    ∷ [])
    ≡ bytes "id\ta%20b\n" ∷ bytes "none\n" ∷ bytes "m\tspf\tpass\n" ∷ bytes "r\tx%20y\n" ∷ bytes "p\tsmtp\tb\tm\tc@d.e\n" ∷ []
unfolding opened
entry-lines = refl

-- ==== which lines may follow one another, and the place

-- nothing at all; an `id` line alone; a line without LF; a line that is none of the five; the first bad line counts
places :
    Says written
    (case (bytes "") (bad_line 1)
    ∷ case (bytes "\n") (bad_line 1)
    ∷ case (bytes "id\ta") (bad_line 1)
    ∷ case (bytes "id\ta\r\n") (bad_line 1)
    ∷ case (bytes "id a\n") (bad_line 1)
    ∷ case (bytes "id\ta\tb\n") (bad_line 1)
    ∷ case (bytes "ID\ta\n") (bad_line 1)
    ∷ case (bytes "id\ta\n") (bad_line 2)
    ∷ case (bytes "id\ta\nnone") (bad_line 2)
    ∷ case (bytes "id\ta\n\n") (bad_line 2)
    ∷ case (bytes "id\ta\nv\t1\n") (bad_line 2)
    ∷ case (bytes "id\ta\nv\t2\n") (bad_line 2)
    ∷ case (bytes "id\ta\nNONE\n") (bad_line 2)
    ∷ case (bytes "id\ta\nm\tspf\tpass") (bad_line 2)
    ∷ case (bytes "id\ta\nm\tspf\tbad\nnone") (bad_line 2)
    ∷ case (bytes "id\ta\nnone\nnone") (bad_line 3)
    ∷ case (bytes "id\ta\nnone\n\n") (bad_line 3)
    ∷ [])
unfolding opened
places = refl

-- each of the five lines behind nothing, behind the id line, behind the line none, behind an m line, behind an r line and behind a p line
followers :
    Says written
    (case (bytes "none\n") (bad_line 1)
    ∷ case (bytes "m\tspf\tpass\n") (bad_line 1)
    ∷ case (bytes "r\tx\n") (bad_line 1)
    ∷ case (bytes "p\tsmtp\tb\tt\tc\n") (bad_line 1)
    ∷ case (bytes "id\ta\nid\tb\n") (bad_line 2)
    ∷ case (bytes "id\ta\nnone\n") (body (bytes " a; none"))
    ∷ case (bytes "id\ta\nm\tspf\tpass\n") (body (bytes " a; spf=pass"))
    ∷ case (bytes "id\ta\nr\tx\n") (bad_line 2)
    ∷ case (bytes "id\ta\np\tsmtp\tb\tt\tc\n") (bad_line 2)
    ∷ case (bytes "id\ta\nnone\nid\tb\n") (bad_line 3)
    ∷ case (bytes "id\ta\nnone\nnone\n") (bad_line 3)
    ∷ case (bytes "id\ta\nnone\nm\tspf\tpass\n") (bad_line 3)
    ∷ case (bytes "id\ta\nnone\nr\tx\n") (bad_line 3)
    ∷ case (bytes "id\ta\nnone\np\tsmtp\tb\tt\tc\n") (bad_line 3)
    ∷ case (bytes "id\ta\nm\tspf\tpass\nid\tb\n") (bad_line 3)
    ∷ case (bytes "id\ta\nm\tspf\tpass\nnone\n") (bad_line 3)
    ∷ case (bytes "id\ta\nm\tspf\tpass\nm\tarc\tnone\n") (body (bytes " a; spf=pass; arc=none"))
    ∷ case (bytes "id\ta\nm\tspf\tpass\nr\tx\n") (body (bytes " a; spf=pass reason=x"))
    ∷ case (bytes "id\ta\nm\tspf\tpass\np\tsmtp\tb\tt\tc\n") (body (bytes " a; spf=pass smtp.b=c"))
    ∷ case (bytes "id\ta\nm\tspf\tpass\nm\tarc\tnone\nr\tx\n") (body (bytes " a; spf=pass; arc=none reason=x"))
    ∷ case (bytes "id\ta\nm\tspf\tpass\nr\tx\nid\tb\n") (bad_line 4)
    ∷ case (bytes "id\ta\nm\tspf\tpass\nr\tx\nnone\n") (bad_line 4)
    ∷ case (bytes "id\ta\nm\tspf\tpass\nr\tx\nm\tarc\tnone\n") (body (bytes " a; spf=pass reason=x; arc=none"))
    ∷ case (bytes "id\ta\nm\tspf\tpass\nr\tx\nr\tx\n") (bad_line 4)
    ∷ case (bytes "id\ta\nm\tspf\tpass\nr\tx\np\tsmtp\tb\tt\tc\n") (body (bytes " a; spf=pass reason=x smtp.b=c"))
    ∷ case (bytes "id\ta\nm\tspf\tpass\np\tsmtp\tb\tt\tc\nid\tb\n") (bad_line 4)
    ∷ case (bytes "id\ta\nm\tspf\tpass\np\tsmtp\tb\tt\tc\nnone\n") (bad_line 4)
    ∷ case (bytes "id\ta\nm\tspf\tpass\np\tsmtp\tb\tt\tc\nm\tarc\tnone\nr\tx\n") (body (bytes " a; spf=pass smtp.b=c; arc=none reason=x"))
    ∷ case (bytes "id\ta\nm\tspf\tpass\np\tsmtp\tb\tt\tc\nr\tx\n") (bad_line 4)
    ∷ case (bytes "id\ta\nm\tspf\tpass\np\tsmtp\tb\tt\tc\np\tsmtp\tb\tt\tc\n") (body (bytes " a; spf=pass smtp.b=c smtp.b=c"))
    ∷ case (bytes "id\ta\nm\tspf\tpass\np\tsmtp\tb\tt\tc\np\tsmtp\tb\tt\tc\nr\tx\n") (bad_line 5)
    ∷ [])
unfolding opened
followers = refl

-- what was read up to the place of 11; 0 and 0 at the end
walks :
    map entries (bytes "id\ta\nnone\n" ∷ bytes "id\ta\n" ∷ [])
    ≡ record { items = identified (bytes "a") ∷ unstated ∷ []; number = 0; place = 0 } ∷ record { items = identified (bytes "a") ∷ []; number = 11; place = 2 } ∷ []
unfolding opened
walks = refl

-- lines keep their LF, and an empty one counts
feeds : lines_with_feeds (bytes "a\n\nb") ≡ bytes "a\n" ∷ bytes "\n" ∷ bytes "b" ∷ []
unfolding opened
feeds = refl

-- ==== room

-- the body has 8 bytes; 11 comes first
rooms :
    map (compose (bytes "id\ta\nnone\n")) (9 ∷ 8 ∷ 7 ∷ 0 ∷ []) ≡ body (bytes " a; none") ∷ body (bytes " a; none") ∷ refusal 6 8 ∷ refusal 6 8 ∷ []
unfolding opened
rooms = refl

refused-rooms : map (compose (bytes "id\ta\n")) (9 ∷ 0 ∷ []) ≡ bad_line 2 ∷ bad_line 2 ∷ []
unfolding opened
refused-rooms = refl

-- ==== After 11 come 1, for the body to be written, and 6

-- whatever was read before the bad line
eleven-first : (room line : ℕ) (es : List Entry) → answer room (record { items = es; number = 11; place = line }) ≡ bad_line line
unfolding answer
eleven-first room line es = refl

-- a body of one byte more than the limit, with no room at all
one-first : (out : List ℕ) → length out ≡ 65537 → sized 0 out ≡ refusal 1 0
unfolding sized
one-first out e = rw (sized, e)

-- one of the limit itself is written
limit : (out : List ℕ) → length out ≡ 65536 → sized 65536 out ≡ body out
unfolding sized
limit out e = rw (sized, e) (room out e)
  where
    room : (out : List ℕ) → length out ≡ 65536 → ◌≡◌ {A = Answer} (elim (leb (length out) 65536) [ true ↦ body out | false ↦ refusal 6 (length out) ]) (body out)
    room out e = rw e

-- ==== what the caller sees

-- what the code answers has each of the three values at its name
answers : answer_of (record { number = 1; place = 2; written = bytes "abc" }) ≡ record { number = 1; place = 2; written = 3 }
answers = refl

-- 01, Answer numbers: on every answer, bytes past those written stay unchanged
left : map (leaves (body (bytes "ab"))) (bytes "1234567" ∷ bytes "12" ∷ []) ≡ bytes "ab34567" ∷ bytes "ab" ∷ []
left = refl

buffers :
    map (λ (old : List ℕ). leaves (compose (bytes "id\ta\nnone\n") (length old)) old) (bytes "1234567" ∷ bytes "12345678" ∷ bytes "1234567890" ∷ [])
    ≡ bytes "1234567" ∷ bytes " a; none" ∷ bytes " a; none90" ∷ []
unfolding opened
buffers = refl
