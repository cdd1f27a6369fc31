-- 01, Results: property values at worked examples, computed: the bytes of a local part and of a domain, where dots and hyphens may stand, and the
-- four kinds with their texts.
use Prim.Native.Nat.{ℕ}
use mathlib.Core.Path.{◌≡◌, refl}
use mathlib.Core.Bool.{true, false}
use mathlib.Core.List.{List, [], ◌∷◌, ◌++◌}
use Rattle.base_readers.specs.Texts.{bytes}
use Rattle.base_readers.specs.Parsers.{Got, nothing, got}
use Rattle.base_readers.proofs.Cases.{case, Says}
use Rattle.lexis_rules.proofs.ClassExamples.{members, figures, capitals, smalls}
use Rattle.result_rules.specs.Results.{Kind, Token, Quoted, Mailbox, AtDomain, Value, alphanumeric, in_local_part, in_domain, is_local_part, is_domain, domain, property_value}
use Rattle.result_rules.proofs.Unfolding.{opened}

-- ==== bytes

-- a letter or digit
alphanumerics : members alphanumeric ≡ figures ++ capitals ++ smalls
unfolding opened
alphanumerics = refl

-- letters, digits, ! # $ % & ' * + - / = ? ^ _ ` { | } ~ and dots
local_bytes : members in_local_part ≡ bytes "!#$%&'*+-./" ++ figures ++ bytes "=?" ++ capitals ++ bytes "^_`" ++ smalls ++ bytes "{|}~"
unfolding opened
local_bytes = refl

-- letters, digits and hyphens, and the dots between labels
domain_bytes : members in_domain ≡ bytes "-." ++ figures ++ capitals ++ smalls
unfolding opened
domain_bytes = refl

-- ==== local parts and domains

-- no leading, trailing or doubled dot; an empty run makes an at-domain
local_parts :
    Says is_local_part
    (case [] true
    ∷ case (bytes "a") true
    ∷ case (bytes "a.b.c") true
    ∷ case (bytes ".") false
    ∷ case (bytes ".a") false
    ∷ case (bytes "a.") false
    ∷ case (bytes "a..b") false
    ∷ case (bytes "a.b..c") false
    ∷ [])
unfolding opened
local_parts = refl

-- two or more labels parted by dots, each starting and ending with a letter or digit
domains :
    Says is_domain
    (case (bytes "a.b") true
    ∷ case (bytes "A.b.C") true
    ∷ case (bytes "1.2") true
    ∷ case (bytes "a-b.c--d") true
    ∷ case [] false
    ∷ case (bytes "a") false
    ∷ case (bytes ".") false
    ∷ case (bytes "a.") false
    ∷ case (bytes "a.b.") false
    ∷ case (bytes ".a") false
    ∷ case (bytes ".a.b") false
    ∷ case (bytes "a..b") false
    ∷ case (bytes "-a.b") false
    ∷ case (bytes "a-.b") false
    ∷ case (bytes "a.-b") false
    ∷ case (bytes "a.b-") false
    ∷ case (bytes "a.-.b") false
    ∷ case (bytes "-") false
    ∷ [])
unfolding opened
domains = refl

-- the longest run: it is not cut where it is no domain
domain_runs :
    Says domain
    (case (bytes "a.b;c") 3
    ∷ case (bytes "a.b_c") 3
    ∷ case (bytes "a.b@c") 3
    ∷ case (bytes "a.b.;") 0
    ∷ case (bytes "a.b-;") 0
    ∷ case (bytes "a_.b") 0
    ∷ case (bytes "_.b") 0
    ∷ case [] 0
    ∷ [])
unfolding opened
domain_runs = refl

-- ==== the four kinds

abbrev valued : Kind → List ℕ → ℕ → Got Value
valued k t n = got (record { kind = k; text = t }) n

-- a token, where no "@" stands behind the longest run of a local part's bytes
token_values :
    Says property_value
    (case (bytes "a.b;") (valued Token (bytes "a.b") 3)
    ∷ case (bytes "A..b. c") (valued Token (bytes "A..b.") 5)
    ∷ case (bytes ".") (valued Token (bytes ".") 1)
    ∷ case (bytes "a=b") (valued Token (bytes "a") 1)
    ∷ case (bytes "a/b;@c.d") (valued Token (bytes "a") 1)
    ∷ case (bytes "a @c.d") (valued Token (bytes "a") 1)
    ∷ case (bytes "a,b@c.d") (valued Token (bytes "a") 1)
    ∷ case (bytes "=") nothing
    ∷ case (bytes "/") nothing
    ∷ case (bytes ";") nothing
    ∷ case (bytes "é") nothing
    ∷ case [] nothing
    ∷ [])
unfolding opened
token_values = refl

-- a quoted string, and one directly before "@"
quoted_values :
    Says property_value
    (case (bytes "\"a\\\"b\" ") (valued Quoted (bytes "a\"b") 6)
    ∷ case (bytes "\"\"") (valued Quoted [] 2)
    ∷ case (bytes "\"a@b.c\"") (valued Quoted (bytes "a@b.c") 7)
    ∷ case (bytes "\"a\" @c.d") (valued Quoted (bytes "a") 3)
    ∷ case (bytes "\"a b\"@c.d") (valued Mailbox (bytes "a b@c.d") 9)
    ∷ case (bytes "\"a\\\"\r\n .\"@c.d;") (valued Mailbox (bytes "a\" .@c.d") 13)
    ∷ case (bytes "\"\"@c.d") (valued Mailbox (bytes "@c.d") 6)
    ∷ case (bytes "\"a\"@c") nothing
    ∷ case (bytes "\"a\"@") nothing
    ∷ case (bytes "\"a") nothing
    ∷ [])
unfolding opened
quoted_values = refl

-- a mailbox
mailboxes :
    Says property_value
    (case (bytes "a/b@c.d ") (valued Mailbox (bytes "a/b@c.d") 7)
    ∷ case (bytes "A=?.b@C.d;") (valued Mailbox (bytes "A=?.b@C.d") 9)
    ∷ case (bytes "a@b.c@d.e") (valued Mailbox (bytes "a@b.c") 5)
    ∷ case (bytes "a@b.c_d") (valued Mailbox (bytes "a@b.c") 5)
    ∷ case (bytes ".a@c.d") nothing
    ∷ case (bytes "a.@c.d") nothing
    ∷ case (bytes "a..b@c.d") nothing
    ∷ case (bytes "a@") nothing
    ∷ case (bytes "a@c") nothing
    ∷ case (bytes "a@ c.d") nothing
    ∷ case (bytes "a@c-.d") nothing
    ∷ case (bytes "a@c.-d") nothing
    ∷ case (bytes "a@c.d-") nothing
    ∷ case (bytes "a@c.d.") nothing
    ∷ case (bytes "a@c_d.e") nothing
    ∷ [])
unfolding opened
mailboxes = refl

-- an at-domain
at_domains :
    Says property_value
    (case (bytes "@c.d") (valued AtDomain (bytes "@c.d") 4)
    ∷ case (bytes "@C.1-2;") (valued AtDomain (bytes "@C.1-2") 6)
    ∷ case (bytes "@c") nothing
    ∷ case (bytes "@") nothing
    ∷ case (bytes "@@c.d") nothing
    ∷ case (bytes "@\"c.d\"") nothing
    ∷ [])
unfolding opened
at_domains = refl
