-- 01, Results: one result at worked examples, computed: what it says, how much it takes, and whether it is understood.
use Prim.Native.Nat.{ℕ}
use mathlib.Core.Path.{◌≡◌, refl}
use mathlib.Core.Bool.{Bool, true, false}
use mathlib.Core.List.{List, [], ◌∷◌, ◌++◌, map}
use mathlib.Core.Option.{Option, none, some}
use Rattle.base_readers.specs.Texts.{bytes}
use Rattle.base_readers.specs.Parsers.{Got, nothing, got}
use Rattle.base_readers.proofs.Cases.{case, Says, copies}
use Rattle.lexis_rules.specs.declared.VersionNumber.{VersionNumber}
use Rattle.lexis_rules.specs.declared.VersionNumber.TheVariants.{Exact, Large}
use Rattle.result_rules.specs.Results.{Kind, Token, Quoted, Mailbox, AtDomain, Property, Result, result}
use Rattle.result_rules.specs.Table.{understood}
use Rattle.result_rules.proofs.Unfolding.{opened}

-- ==== what a result says

abbrev of : Kind → List ℕ → List ℕ → List ℕ → Property
of k t p v = record { ptype = t; property = p; value = record { kind = k; text = v } }

abbrev said : List ℕ → VersionNumber → List ℕ → Option (List ℕ) → List Property → ℕ → Got Result
said m v r why ps n = got (record { methodspec = record { method = m; version = v; result = r }; reason = why; properties = ps }) n

-- method, version and result: keywords in lower case, leading zeros not counted, absent means 1
methods :
    Says result
    (case (bytes ";SPF=Pass") (said (bytes "spf") (Exact 1) (bytes "pass") none [] 9)
    ∷ case (bytes ";a/0012=b;") (said (bytes "a") (Exact 12) (bytes "b") none [] 9)
    ∷ case (bytes ";a/00=b") (said (bytes "a") (Exact 0) (bytes "b") none [] 7)
    ∷ case (bytes ";a/999999=b") (said (bytes "a") (Exact 999999) (bytes "b") none [] 11)
    ∷ case (bytes ";a/0999999=b") (said (bytes "a") (Exact 999999) (bytes "b") none [] 12)
    ∷ case (bytes ";a/1000000=b") (said (bytes "a") Large (bytes "b") none [] 12)
    ∷ case (bytes "; x-509 / 1 = y9 ") (said (bytes "x-509") (Exact 1) (bytes "y9") none [] 16)
    ∷ case (bytes ";none=pass") (said (bytes "none") (Exact 1) (bytes "pass") none [] 10)
    ∷ case (bytes ";none /1=pass") (said (bytes "none") (Exact 1) (bytes "pass") none [] 13)
    ∷ [])
unfolding opened
methods = refl

-- a part that is not there, or another byte in its place
no_methods :
    map result
    (bytes "a=b"
    ∷ bytes ",a=b"
    ∷ bytes " ;a=b"
    ∷ bytes ";=b"
    ∷ bytes ";a"
    ∷ bytes ";a="
    ∷ bytes ";a:b"
    ∷ bytes ";a b"
    ∷ bytes ";a==b"
    ∷ bytes ";a=\"b\""
    ∷ bytes ";a-=b"
    ∷ bytes ";a=b-"
    ∷ bytes ";a/=b"
    ∷ bytes ";a/x=b"
    ∷ bytes ";a/1/1=b"
    ∷ bytes ";a=/1b"
    ∷ bytes ";none"
    ∷ [])
    ≡ map (λ (n : ℕ). nothing) (copies 17 0)
unfolding opened
no_methods = refl

-- a reason: after non-empty space, one value, before the properties
reasons :
    Says result
    (case (bytes ";a=b reason=c") (said (bytes "a") (Exact 1) (bytes "b") (some (bytes "c")) [] 13)
    ∷ case (bytes ";a=b(x)REASON = \"c;\\\" D\";") (said (bytes "a") (Exact 1) (bytes "b") (some (bytes "c;\" D")) [] 24)
    ∷ case (bytes ";a=b reason=\"\"") (said (bytes "a") (Exact 1) (bytes "b") (some []) [] 14)
    ∷ case (bytes ";a=breason=c") (said (bytes "a") (Exact 1) (bytes "breason") none [] 10)
    ∷ case (bytes ";a=b reason") (said (bytes "a") (Exact 1) (bytes "b") none [] 4)
    ∷ case (bytes ";a=b reason=") (said (bytes "a") (Exact 1) (bytes "b") none [] 4)
    ∷ case (bytes ";a=b reason=@c.d") (said (bytes "a") (Exact 1) (bytes "b") none [] 4)
    ∷ case (bytes ";a=b reasons=c") (said (bytes "a") (Exact 1) (bytes "b") none [] 4)
    ∷ case (bytes ";a=b reason=c reason=d") (said (bytes "a") (Exact 1) (bytes "b") (some (bytes "c")) [] 13)
    ∷ case (bytes ";a=b x.y=z reason=c")
    (said (bytes "a") (Exact 1) (bytes "b") none (of Token (bytes "x") (bytes "y") (bytes "z") ∷ []) 10)
    ∷ case (bytes ";a=b reason.y=z")
    (said (bytes "a") (Exact 1) (bytes "b") none (of Token (bytes "reason") (bytes "y") (bytes "z") ∷ []) 15)
    ∷ case (bytes ";a=b reason=c x.y=z")
    (said (bytes "a") (Exact 1) (bytes "b") (some (bytes "c")) (of Token (bytes "x") (bytes "y") (bytes "z") ∷ []) 19)
    ∷ [])
unfolding opened
reasons = refl

-- properties, in order, each after non-empty space; a result ends with the last byte of its last part
properties :
    Says result
    (case (bytes ";a=b SMTP.Mail-From=C@d.e ;")
    (said (bytes "a") (Exact 1) (bytes "b") none (of Mailbox (bytes "smtp") (bytes "mail-from") (bytes "C@d.e") ∷ []) 25)
    ∷ case (bytes ";a=b(x)w.x=\"y\" w.z=@c.d\t")
    (said (bytes "a") (Exact 1) (bytes "b") none
    (of Quoted (bytes "w") (bytes "x") (bytes "y") ∷ of AtDomain (bytes "w") (bytes "z") (bytes "@c.d") ∷ []) 23)
    ∷ case (bytes ";a=b w.x=\"y\"w.z=c") (said (bytes "a") (Exact 1) (bytes "b") none (of Quoted (bytes "w") (bytes "x") (bytes "y") ∷ []) 12)
    ∷ case (bytes ";a=b reason=\"y\"w.z=c") (said (bytes "a") (Exact 1) (bytes "b") (some (bytes "y")) [] 15)
    ∷ case (bytes ";a=b w.x=") (said (bytes "a") (Exact 1) (bytes "b") none [] 4)
    ∷ case (bytes ";a=b w.=y") (said (bytes "a") (Exact 1) (bytes "b") none [] 4)
    ∷ case (bytes ";a=b w=y") (said (bytes "a") (Exact 1) (bytes "b") none [] 4)
    ∷ case (bytes ";a=b .x=y") (said (bytes "a") (Exact 1) (bytes "b") none [] 4)
    ∷ [])
unfolding opened
properties = refl

-- space is allowed between any two parts
spaced :
    Says result
    (case (bytes "; a / 1 = b reason = c x . y = z") (said (bytes "a") (Exact 1) (bytes "b") (some (bytes "c")) (of Token (bytes "x") (bytes "y") (bytes "z") ∷ []) 32)
    ∷ case (bytes ";(;)a(=)/\t1\r\n =(b)b (c)reason()=()c()x().()y()=()z")
    (said (bytes "a") (Exact 1) (bytes "b") (some (bytes "c")) (of Token (bytes "x") (bytes "y") (bytes "z") ∷ []) 50)
    ∷ [])
unfolding opened
spaced = refl

-- ==== which results are understood

-- whether the result at the front is understood, and how many bytes it takes
abbrev tells : List ℕ → Got Bool
tells xs = elim (result xs) [ nothing ↦ nothing | got r n ↦ got (understood r) n ]

-- method versions: leading zeros don't count, and every number but 1 is ignored
versions :
    Says tells
    (case (bytes ";dkim=pass") (got true 10)
    ∷ case (bytes ";dkim/1=pass") (got true 12)
    ∷ case (bytes "; dkim / 001 = pass") (got true 19)
    ∷ case (bytes ";dkim/2=pass") (got false 12)
    ∷ case (bytes ";dkim/10=pass") (got false 13)
    ∷ case (bytes ";dkim/0=pass") (got false 12)
    ∷ case (bytes ";dkim/00=pass") (got false 13)
    ∷ case (bytes ";dkim/999999=pass") (got false 17)
    ∷ case (bytes ";dkim/1000000=pass") (got false 18)
    ∷ case (bytes ";dkim/1000001=pass") (got false 18)
    ∷ case (bytes ";dkim/=pass") nothing
    ∷ case (bytes ";dkim/x=pass") nothing
    ∷ [])
unfolding opened
versions = refl

-- of every method the version 1 alone is understood
other_versions :
    map (λ (m : List ℕ). tells (bytes ";" ++ m ++ bytes "/1=pass") ∷ tells (bytes ";" ++ m ++ bytes "/2=pass") ∷ [])
    (bytes "auth" ∷ bytes "dkim" ∷ bytes "spf" ∷ bytes "iprev" ∷ bytes "dmarc" ∷ bytes "arc" ∷ [])
    ≡ (got true 12 ∷ got false 12 ∷ [])
    ∷ (got true 12 ∷ got false 12 ∷ [])
    ∷ (got true 11 ∷ got false 11 ∷ [])
    ∷ (got true 13 ∷ got false 13 ∷ [])
    ∷ (got true 13 ∷ got false 13 ∷ [])
    ∷ (got true 11 ∷ got false 11 ∷ [])
    ∷ []
unfolding opened
other_versions = refl

-- a result counts only in the row of its own method
rows :
    Says tells
    (case (bytes ";spf=softfail") (got true 13)
    ∷ case (bytes ";dkim=softfail") (got false 14)
    ∷ case (bytes ";DKIM=Policy") (got true 12)
    ∷ case (bytes ";auth=policy") (got false 12)
    ∷ case (bytes ";iprev=none") (got false 11)
    ∷ case (bytes ";dmarc=none") (got true 11)
    ∷ case (bytes ";arc=temperror") (got false 14)
    ∷ case (bytes ";none=pass") (got false 10)
    ∷ [])
unfolding opened
rows = refl

-- the four ptypes, in any case
types :
    Says tells
    (case (bytes ";spf=pass smtp.a=b header.a=b body.a=b policy.a=b") (got true 49)
    ∷ case (bytes ";spf=pass SMTP.a=b") (got true 18)
    ∷ case (bytes ";spf=pass smt.a=b") (got false 17)
    ∷ [])
unfolding opened
types = refl

-- each property counts
every_type : Says tells (case (bytes ";spf=pass smtp.a=b dns.a=b") (got false 26) ∷ case (bytes ";spf=pass dns.a=b smtp.a=b") (got false 26) ∷ [])
unfolding opened
every_type = refl

-- version, method and result count where all ptypes are good
bad_methods : Says tells (case (bytes ";spf/2=pass smtp.a=b") (got false 20) ∷ case (bytes ";spf=passed smtp.a=b") (got false 20) ∷ [])
unfolding opened
bad_methods = refl

-- reason followed by "." is a ptype; a ";" in a comment or quoted string ends no result
reason_types :
    Says tells
    (case (bytes ";spf=pass reason . a=b") (got false 22)
    ∷ case (bytes ";spf=pass(x)reason=b body.a=b") (got true 29)
    ∷ case (bytes ";spf=pass reason=\";\" ; x") (got true 20)
    ∷ case (bytes ";spf=pass (;) body.a=b") (got true 22)
    ∷ [])
unfolding opened
reason_types = refl
