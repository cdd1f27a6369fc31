-- The table of methods and the ptypes at worked examples, computed: results on each side of each row.
use Prim.Native.Nat.{ℕ}
use mathlib.Core.Path.{◌≡◌, refl}
use mathlib.Core.Bool.{Bool, true, false}
use mathlib.Core.List.{List, [], ◌∷◌, map}
use Rattle.base_readers.specs.Texts.{bytes, within, same}
use Rattle.base_readers.proofs.Cases.{case, Says}
use Rattle.lexis_rules.specs.Bytes.{lower}
use Rattle.lexis_rules.proofs.ClassExamples.{select}
use Rattle.result_rules.specs.Table.{listed, table, tabled, ptypes}

-- what is said of a result of this method, both as they stand in the input
abbrev result_of : List ℕ → List ℕ → Bool
result_of m r = tabled table (map lower m) (map lower r)

unfoldable pub opened : Unit {0}
unfolding within same lower listed tabled
opened = tt

-- 01, Results: the whole table: of the results that it names, and of others, those of each method, and none of another method
abbrev results : List (List ℕ)
results =
    bytes "none" ∷ bytes "pass" ∷ bytes "fail" ∷ bytes "softfail" ∷ bytes "policy" ∷ bytes "neutral" ∷ bytes "temperror" ∷ bytes "permerror" ∷ bytes "hardfail"
    ∷ bytes "discard" ∷ bytes "pas" ∷ bytes "passes" ∷ [] ∷ []

whole_table :
    map (λ (m : List ℕ). select (tabled table m) results)
    (bytes "auth" ∷ bytes "dkim" ∷ bytes "spf" ∷ bytes "iprev" ∷ bytes "dmarc" ∷ bytes "arc" ∷ bytes "none" ∷ bytes "sender-id" ∷ bytes "dkim-adsp" ∷ [] ∷ [])
    ≡ (bytes "none" ∷ bytes "pass" ∷ bytes "fail" ∷ bytes "temperror" ∷ bytes "permerror" ∷ [])
    ∷ (bytes "none" ∷ bytes "pass" ∷ bytes "fail" ∷ bytes "policy" ∷ bytes "neutral" ∷ bytes "temperror" ∷ bytes "permerror" ∷ [])
    ∷ (bytes "none" ∷ bytes "pass" ∷ bytes "fail" ∷ bytes "softfail" ∷ bytes "policy" ∷ bytes "neutral" ∷ bytes "temperror" ∷ bytes "permerror" ∷ [])
    ∷ (bytes "pass" ∷ bytes "fail" ∷ bytes "temperror" ∷ bytes "permerror" ∷ [])
    ∷ (bytes "none" ∷ bytes "pass" ∷ bytes "fail" ∷ bytes "temperror" ∷ bytes "permerror" ∷ [])
    ∷ (bytes "none" ∷ bytes "pass" ∷ bytes "fail" ∷ [])
    ∷ []
    ∷ []
    ∷ []
    ∷ []
    ∷ []
unfolding opened
whole_table = refl

-- none is a result of every method but iprev
nones :
    Says (λ m. result_of m (bytes "none"))
    (case (bytes "auth") true
    ∷ case (bytes "DKIM") true
    ∷ case (bytes "spf") true
    ∷ case (bytes "iprev") false
    ∷ case (bytes "dmarc") true
    ∷ case (bytes "Arc") true
    ∷ case (bytes "none") false
    ∷ case (bytes "spfx") false
    ∷ case (bytes "sp") false
    ∷ case [] false
    ∷ [])
unfolding opened
nones = refl

-- softfail is a result of spf alone
softfails :
    Says (λ m. result_of m (bytes "SoftFail"))
    (case (bytes "auth") false
    ∷ case (bytes "dkim") false
    ∷ case (bytes "Spf") true
    ∷ case (bytes "iprev") false
    ∷ case (bytes "dmarc") false
    ∷ case (bytes "arc") false
    ∷ [])
unfolding opened
softfails = refl

-- the results of arc, and texts that are no result
arcs :
    Says (result_of (bytes "arc"))
    (case (bytes "none") true
    ∷ case (bytes "pass") true
    ∷ case (bytes "FAIL") true
    ∷ case (bytes "policy") false
    ∷ case (bytes "neutral") false
    ∷ case (bytes "temperror") false
    ∷ case (bytes "permerror") false
    ∷ case (bytes "hardfail") false
    ∷ case (bytes "pass-") false
    ∷ case [] false
    ∷ [])
unfolding opened
arcs = refl

-- 01, Results: the four ptypes
types :
    Says (λ t. listed ptypes (map lower t))
    (case (bytes "smtp") true
    ∷ case (bytes "Header") true
    ∷ case (bytes "BODY") true
    ∷ case (bytes "policy") true
    ∷ case (bytes "dns") false
    ∷ case (bytes "headers") false
    ∷ case (bytes "smt") false
    ∷ case [] false
    ∷ [])
unfolding opened
types = refl
