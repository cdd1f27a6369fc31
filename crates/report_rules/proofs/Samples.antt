-- Document 01, "Samples on each side" and its whole example, and rules with an accepted and a refused neighbour: the computed answers
-- are the stated ones.
use Prim.Native.Nat.{ℕ}
use mathlib.Core.Path.{◌≡◌, refl}
use mathlib.Core.List.{List, [], ◌∷◌, ◌++◌, map}
use Rattle.base_readers.specs.Texts.{bytes}
use Rattle.base_readers.proofs.Cases.{case, Says}
use Rattle.report_rules.specs.Report.{Answer, report}
use Rattle.report_rules.proofs.Unfolding.{opened}

-- an answer with place 0
abbrev says : ℕ → List ℕ → ℕ → Answer
says n out k = record { number = n; place = 0; ignored = k; written = out }

-- with room for 1000 bytes
abbrev reported : List ℕ → Answer
reported body = report body 1000

-- the samples separated *: number, bytes written, ignored results
samples :
    Says reported
    (case (bytes "") (says 7 [] 0)
    ∷ case (bytes "example.com") (says 9 [] 0)
    ∷ case (bytes "example.com; none") (says 0 (bytes "id\texample.com\nnone\n") 0)
    ∷ case (bytes "example.com/x; none") (says 7 [] 0)
    ∷ case (bytes "example.com 2 ;;;") (says 8 (bytes "id\texample.com\nv\t2\n") 0)
    ∷ case (bytes "example.com 01; none") (says 0 (bytes "id\texample.com\nnone\n") 0)
    ∷ case (bytes "a; dkim/2=pass") (says 0 (bytes "id\ta\n") 1)
    ∷ case (bytes "a; none=pass") (says 0 (bytes "id\ta\n") 1)
    ∷ case (bytes "a; spf=pass-") (says 9 [] 0)
    ∷ case (bytes "(x)a;none") (says 0 (bytes "id\ta\nnone\n") 0)
    ∷ [])
unfolding opened
samples = refl

-- the whole example has 56 bytes: a report of 56 bytes fits 56 and not 55
abbrev whole : List ℕ
whole = bytes " example.com; spf=pass smtp.mailfrom=example.net"

rooms :
    map (report whole) (56 ∷ 55 ∷ [])
    ≡ says 0 (bytes "id\texample.com\nm\tspf\tpass\np\tsmtp\tmailfrom\tt\texample.net\n") 0
    ∷ record { number = 6; place = 56; ignored = 0; written = [] }
    ∷ []
unfolding opened
rooms = refl

-- ==== rules, each with a neighbour on the other side

-- 02, ticket [3]: the number of a header version decides, and the `v` line has all its digits but leading zeros
header-numbers :
    Says reported
    (case (bytes "a 0; none") (says 8 (bytes "id\ta\nv\t0\n") 0)
    ∷ case (bytes "a 00; none") (says 8 (bytes "id\ta\nv\t0\n") 0)
    ∷ case (bytes "a 1; none") (says 0 (bytes "id\ta\nnone\n") 0)
    ∷ case (bytes "a 01; none") (says 0 (bytes "id\ta\nnone\n") 0)
    ∷ case (bytes "a 999999; none") (says 8 (bytes "id\ta\nv\t999999\n") 0)
    ∷ case (bytes "a 0999999; none") (says 8 (bytes "id\ta\nv\t999999\n") 0)
    ∷ case (bytes "a 1000000; none") (says 8 (bytes "id\ta\nv\t1000000\n") 0)
    ∷ case (bytes "a 0018446744073709551617; none") (says 8 (bytes "id\ta\nv\t18446744073709551617\n") 0)
    ∷ [])
unfolding opened
header-numbers = refl

-- and that of a method version
method-numbers :
    Says reported
    (case (bytes "a; spf/0=pass") (says 0 (bytes "id\ta\n") 1)
    ∷ case (bytes "a; spf/00=pass") (says 0 (bytes "id\ta\n") 1)
    ∷ case (bytes "a; spf/1=pass") (says 0 (bytes "id\ta\nm\tspf\tpass\n") 0)
    ∷ case (bytes "a; spf/01=pass") (says 0 (bytes "id\ta\nm\tspf\tpass\n") 0)
    ∷ case (bytes "a; spf/999999=pass") (says 0 (bytes "id\ta\n") 1)
    ∷ case (bytes "a; spf/0999999=pass") (says 0 (bytes "id\ta\n") 1)
    ∷ case (bytes "a; spf/1000000=pass") (says 0 (bytes "id\ta\n") 1)
    ∷ case (bytes "a; spf/1000001=pass") (says 0 (bytes "id\ta\n") 1)
    ∷ [])
unfolding opened
method-numbers = refl

-- what may follow the identifier, and the header version
heads :
    Says reported
    (case (bytes "a 2(") (says 8 (bytes "id\ta\nv\t2\n") 0)
    ∷ case (bytes "a 2x") (says 9 [] 0)
    ∷ case (bytes "\"a b%\" 000;") (says 8 (bytes "id\ta%20b%25\nv\t0\n") 0)
    ∷ case (bytes "a\r2") (says 9 [] 0)
    ∷ case (bytes "a\n2") (says 7 [] 0)
    ∷ case (bytes "(a") (says 7 [] 0)
    ∷ case (bytes "a(") (says 9 [] 0)
    ∷ [])
unfolding opened
heads = refl

-- the word none alone, and as a method
nones :
    Says reported
    (case (bytes "a; NONE (x) ") (says 0 (bytes "id\ta\nnone\n") 0)
    ∷ case (bytes "a; none\r\n") (says 9 [] 0)
    ∷ case (bytes "a; none; spf=pass") (says 9 [] 0)
    ∷ case (bytes "a; spf=pass; none") (says 9 [] 0)
    ∷ case (bytes "a; none / 1 = pass") (says 0 (bytes "id\ta\n") 1)
    ∷ [])
unfolding opened
nones = refl

-- the table: a result in the row of its own method, a method version, a ptype
tables :
    Says reported
    (case (bytes "a; SPF=SoftFail") (says 0 (bytes "id\ta\nm\tspf\tsoftfail\n") 0)
    ∷ case (bytes "a; dkim=softfail") (says 0 (bytes "id\ta\n") 1)
    ∷ case (bytes "a; spf/01=pass") (says 0 (bytes "id\ta\nm\tspf\tpass\n") 0)
    ∷ case (bytes "a; spf/10=pass") (says 0 (bytes "id\ta\n") 1)
    ∷ case (bytes "a; spf/=pass") (says 9 [] 0)
    ∷ case (bytes "a; arc=pass Smtp.x=y") (says 0 (bytes "id\ta\nm\tarc\tpass\np\tsmtp\tx\tt\ty\n") 0)
    ∷ case (bytes "a; arc=pass smtp.x=y x.y=z; arc=none") (says 0 (bytes "id\ta\nm\tarc\tnone\n") 1)
    ∷ [])
unfolding opened
tables = refl

-- a reason once and before the properties; reason before a dot is a ptype
reasons :
    Says reported
    (case (bytes "a; spf=fail reason=\"b;c\"") (says 0 (bytes "id\ta\nm\tspf\tfail\nr\tb;c\n") 0)
    ∷ case (bytes "a; spf=fail reason=b body.c=d") (says 0 (bytes "id\ta\nm\tspf\tfail\nr\tb\np\tbody\tc\tt\td\n") 0)
    ∷ case (bytes "a; spf=fail body.c=d reason=b") (says 9 [] 0)
    ∷ case (bytes "a; spf=fail reason=b reason=b") (says 9 [] 0)
    ∷ case (bytes "a; spf=fail reason (x) . c=d") (says 0 (bytes "id\ta\n") 1)
    ∷ case (bytes "a; spf=failreason=b") (says 9 [] 0)
    ∷ case (bytes "a; spf=fail reason=\"" ++ (239 ∷ bytes "\t\"")) (says 0 (bytes "id\ta\nm\tspf\tfail\nr\t%EF%09\n") 0)
    ∷ [])
unfolding opened
reasons = refl

-- the four kinds of property value; where "@" follows there is no other kind to fall back to
values :
    Says reported
    (case (bytes "a; spf=pass body.b=c.d@e.f") (says 0 (bytes "id\ta\nm\tspf\tpass\np\tbody\tb\tm\tc.d@e.f\n") 0)
    ∷ case (bytes "a; spf=pass body.b=c..d@e.f") (says 9 [] 0)
    ∷ case (bytes "a; spf=pass body.b=c..d") (says 0 (bytes "id\ta\nm\tspf\tpass\np\tbody\tb\tt\tc..d\n") 0)
    ∷ case (bytes "a; spf=pass body.b=c@e-.f") (says 9 [] 0)
    ∷ case (bytes "a; spf=pass body.b=c@e") (says 9 [] 0)
    ∷ case (bytes "a; spf=pass body.b=@e.f") (says 0 (bytes "id\ta\nm\tspf\tpass\np\tbody\tb\ta\t@e.f\n") 0)
    ∷ case (bytes "a; spf=pass body.b=\"\"@y.z") (says 0 (bytes "id\ta\nm\tspf\tpass\np\tbody\tb\tm\t@y.z\n") 0)
    ∷ case (bytes "a; spf=pass body.b=\"c\\\" d\"") (says 0 (bytes "id\ta\nm\tspf\tpass\np\tbody\tb\tq\tc\"%20d\n") 0)
    ∷ case (bytes "a; spf=pass body.b=\"c\" @y.z") (says 9 [] 0)
    ∷ case (bytes "a; spf=pass body.b=\"c\"body.d=e") (says 9 [] 0)
    ∷ [])
unfolding opened
values = refl

-- five results over folded lines, one of them of a method that is not in the table
abbrev longer : List ℕ
longer =
    bytes " example.com;\r\n\tauth=pass (cram-md5) smtp.auth=sender@example.net;\r\n\tspf=pass smtp.mailfrom=example.net;"
    ++ bytes " sender-id=pass header.from=example.net; dkim=pass (good signature) header.i=@mail-router.example.net;"
    ++ bytes " iprev=pass policy.iprev=192.0.2.1"

longer-report :
    reported longer
    ≡ says 0
    (bytes "id\texample.com\nm\tauth\tpass\np\tsmtp\tauth\tm\tsender@example.net\nm\tspf\tpass\np\tsmtp\tmailfrom\tt\texample.net\n"
    ++ bytes "m\tdkim\tpass\np\theader\ti\ta\t@mail-router.example.net\nm\tiprev\tpass\np\tpolicy\tiprev\tt\t192.0.2.1\n")
    1
unfolding opened
longer-report = refl
