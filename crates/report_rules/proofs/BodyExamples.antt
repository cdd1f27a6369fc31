-- A whole body at worked examples, computed: identifier and header version, the word none, results, and what may follow. Each row has a
-- neighbour on the other side of its rule.
use Prim.Native.Nat.{ℕ}
use mathlib.Core.Path.{◌≡◌, refl}
use mathlib.Core.List.{List, [], ◌∷◌, ◌++◌, map}
use mathlib.Core.Option.{none}
use Rattle.base_readers.specs.Texts.{bytes}
use Rattle.base_readers.specs.Parsers.{nothing, got}
use Rattle.base_readers.proofs.Cases.{case, Says}
use Rattle.lexis_rules.specs.declared.VersionNumber.{VersionNumber}
use Rattle.lexis_rules.specs.declared.VersionNumber.TheVariants.{Exact}
use Rattle.result_rules.specs.Results.{Result}
use Rattle.report_rules.specs.Body.{Head, unreadable, malformed, newer, no_result, results, head, reading}
use Rattle.report_rules.proofs.Unfolding.{opened}

-- ==== identifier and header version

abbrev names : List ℕ → List ℕ → Head
names i v = record { identifier = i; version = v }

-- 01, Identifier and header version: after space that isn't empty, a digit run; leading zeros don't count; absent means 1
heads :
    Says head
    (case (bytes "a") (got (names (bytes "a") (bytes "1")) 1)
    ∷ case (bytes " \"b c\"\t002;") (got (names (bytes "b c") (bytes "2")) 10)
    ∷ case (bytes "a(c)0") (got (names (bytes "a") (bytes "0")) 5)
    ∷ case (bytes "a2;") (got (names (bytes "a2") (bytes "1")) 2)
    ∷ case (bytes "a ;") (got (names (bytes "a") (bytes "1")) 1)
    ∷ case (bytes "a/2") nothing
    ∷ [])
unfolding opened
heads = refl

-- where the identifier can't be read, nothing further is tried
unreadables : Says reading (case [] unreadable ∷ case (bytes " ; none") unreadable ∷ case (bytes "a/ 2") unreadable ∷ case (bytes "\"a; none") unreadable ∷ [])
unfolding opened
unreadables = refl

-- the end or one of the same five bytes must follow, else 9
followed :
    map (λ (x : List ℕ). reading (bytes "a 2" ++ x)) ([] ∷ bytes " " ∷ bytes "\t" ∷ bytes "\r" ∷ bytes "(" ∷ bytes ";" ∷ bytes "x" ∷ bytes "\n" ∷ bytes "." ∷ [])
    ≡ newer (names (bytes "a") (bytes "2"))
    ∷ newer (names (bytes "a") (bytes "2"))
    ∷ newer (names (bytes "a") (bytes "2"))
    ∷ newer (names (bytes "a") (bytes "2"))
    ∷ newer (names (bytes "a") (bytes "2"))
    ∷ newer (names (bytes "a") (bytes "2"))
    ∷ malformed
    ∷ malformed
    ∷ malformed
    ∷ []
unfolding opened
followed = refl

-- a number other than 1 is newer, whatever follows it; 1 is not
versions :
    Says reading
    (case (bytes "a 1; none") (no_result (bytes "a"))
    ∷ case (bytes "a 001;none") (no_result (bytes "a"))
    ∷ case (bytes "a 0; none") (newer (names (bytes "a") (bytes "0")))
    ∷ case (bytes "a 11; none") (newer (names (bytes "a") (bytes "11")))
    ∷ case (bytes "a 1 2; none") malformed
    ∷ [])
unfolding opened
versions = refl

-- ==== the word none

-- 01, Results: ";" and the word none, in any case, with space allowed between parts, and the end
nones :
    Says reading
    (case (bytes "a;none") (no_result (bytes "a"))
    ∷ case (bytes "a (c) ; (c) NoNe (c)") (no_result (bytes "a"))
    ∷ case (bytes "a none") malformed
    ∷ case (bytes "a;nones") malformed
    ∷ case (bytes "a;none;") malformed
    ∷ case (bytes "a;none x") malformed
    ∷ [])
unfolding opened
nones = refl

-- ==== results

abbrev plain : List ℕ → VersionNumber → List ℕ → Result
plain m v r = record { methodspec = record { method = m; version = v; result = r }; reason = none; properties = [] }

-- 01, Results: one or more results, with space allowed between parts, and the end
several-results :
    Says reading
    (case (bytes "a;b=c") (results (bytes "a") (plain (bytes "b") (Exact 1) (bytes "c") ∷ []))
    ∷ case (bytes "a ;b=c (x);d/2=e ") (results (bytes "a") (plain (bytes "b") (Exact 1) (bytes "c") ∷ plain (bytes "d") (Exact 2) (bytes "e") ∷ []))
    ∷ case (bytes "a;none=c") (results (bytes "a") (plain (bytes "none") (Exact 1) (bytes "c") ∷ []))
    ∷ case (bytes "a;none / 1=c") (results (bytes "a") (plain (bytes "none") (Exact 1) (bytes "c") ∷ []))
    ∷ [])
unfolding opened
several-results = refl

no-results :
    Says reading
    (case (bytes "a") malformed
    ∷ case (bytes "a ") malformed
    ∷ case (bytes "a;") malformed
    ∷ case (bytes "a;b=c;") malformed
    ∷ case (bytes "a;b=c x") malformed
    ∷ case (bytes "a;b=c(") malformed
    ∷ case (bytes "a;b=c;none") malformed
    ∷ [])
unfolding opened
no-results = refl
