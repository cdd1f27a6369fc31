-- Methods, their versions and their results at worked examples, computed.
use Prim.Native.Nat.{ℕ}
use mathlib.Core.Path.{refl}
use mathlib.Core.List.{List, [], ◌∷◌}
use Rattle.base_readers.specs.Texts.{bytes}
use Rattle.base_readers.specs.Parsers.{Got, nothing, got}
use Rattle.base_readers.proofs.Cases.{Case, case, Says}
use Rattle.lexis_rules.specs.declared.VersionNumber.{VersionNumber}
use Rattle.lexis_rules.specs.declared.VersionNumber.TheVariants.{Exact, Large}
use Rattle.result_method.specs.declared.Method.TheVariants.{Read, Missing}
use Rattle.result_rules.specs.Results.{Methodspec, methodspec}
use Rattle.result_separators.specs.Separators.{separated, past}
use Rattle.result_method.specs.Methods.{method_version_at, result_at, method_at, method_got}
use Rattle.result_rules.proofs.Unfolding as definitions

unfoldable opened : Unit {0}
unfolding definitions.opened separated past method_version_at result_at method_at
opened = tt

-- method, the number of its version, result, and how many bytes they take
abbrev tells : List ℕ → VersionNumber → List ℕ → ℕ → Got Methodspec
tells m v r n = got (record { method = m; version = v; result = r }) n

abbrev method_texts : List (Case (Got Methodspec))
method_texts =
    case (bytes "dkim=pass") (tells (bytes "dkim") (Exact 1) (bytes "pass") 9)
    ∷ case (bytes "dkim/1=pass") (tells (bytes "dkim") (Exact 1) (bytes "pass") 11)
    ∷ case (bytes "dkim/2=pass") (tells (bytes "dkim") (Exact 2) (bytes "pass") 11)
    ∷ case (bytes "dkim/001=pass") (tells (bytes "dkim") (Exact 1) (bytes "pass") 13)
    ∷ case (bytes "dkim/11=pass") (tells (bytes "dkim") (Exact 11) (bytes "pass") 12)
    ∷ case (bytes "dkim/10=pass") (tells (bytes "dkim") (Exact 10) (bytes "pass") 12)
    ∷ case (bytes "dkim/0=pass") (tells (bytes "dkim") (Exact 0) (bytes "pass") 11)
    ∷ case (bytes "dkim/0999999=pass") (tells (bytes "dkim") (Exact 999999) (bytes "pass") 17)
    ∷ case (bytes "dkim/1000000=pass") (tells (bytes "dkim") Large (bytes "pass") 17)
    ∷ case (bytes "SPF (c) / 1 = (d)\tPass x") (tells (bytes "spf") (Exact 1) (bytes "pass") 22)
    ∷ case (bytes "none=pass") (tells (bytes "none") (Exact 1) (bytes "pass") 9)
    ∷ case (bytes "dkim/=pass") nothing
    ∷ case (bytes "dkim/x=pass") nothing
    ∷ case (bytes "dkim/1x=pass") nothing
    ∷ case (bytes "dkim/1/1=pass") nothing
    ∷ case (bytes "spf=pass-") nothing
    ∷ case (bytes "spf=") nothing
    ∷ case (bytes "spf") nothing
    ∷ case (bytes " spf=pass") nothing
    ∷ case (bytes "=pass") nothing
    ∷ case [] nothing
    ∷ []

-- the same table from the parser and from the places
parsed : Says methodspec method_texts
unfolding opened
parsed = refl

found : Says (λ s. method_got s (method_at s 0)) method_texts
unfolding opened
found = refl

places :
    Says (λ s. method_at s 2)
    (case (bytes "; dkim = pass") (Read 2 6 (Exact 1) 9 13)
    ∷ case (bytes "; dkim/2=fail") (Read 2 6 (Exact 2) 9 13)
    ∷ case (bytes ";") Missing
    ∷ [])
unfolding opened
places = refl
