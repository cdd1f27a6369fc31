-- Document 01, "Results": which results are understood; the others are ignored.
use Rattle.std.specs.Prelude.{ℕ, Bool, true, false, ◌&&◌, ◌||◌, List, [], ◌∷◌}
use Rattle.base_readers.specs.Texts.{bytes, same}
use Rattle.lexis_rules.specs.declared.VersionNumber.{VersionNumber}
use Rattle.lexis_rules.specs.Numbers.{is_one}
use Rattle.result_rules.specs.Results.{Property, Methodspec, Result}

-- a text is one of those listed
unfoldable pub listed : List (List ℕ) → List ℕ → Bool
listed [] t = false
listed (w ∷ ws) t = same w t || listed ws t

-- a method and its results
pub record Row : Type 0 where
  pub method : List ℕ
  pub results : List (List ℕ)

abbrev pub row : List ℕ → List (List ℕ) → Row
row m rs = record { method = m; results = rs }

-- | Method | Results |
abbrev pub table : List Row
table =
    row (bytes "auth") (bytes "none" ∷ bytes "pass" ∷ bytes "fail" ∷ bytes "temperror" ∷ bytes "permerror" ∷ [])
    ∷ row (bytes "dkim") (bytes "none" ∷ bytes "pass" ∷ bytes "fail" ∷ bytes "policy" ∷ bytes "neutral" ∷ bytes "temperror" ∷ bytes "permerror" ∷ [])
    ∷ row (bytes "spf")
    (bytes "none" ∷ bytes "pass" ∷ bytes "fail" ∷ bytes "softfail" ∷ bytes "policy" ∷ bytes "neutral" ∷ bytes "temperror" ∷ bytes "permerror" ∷ [])
    ∷ row (bytes "iprev") (bytes "pass" ∷ bytes "fail" ∷ bytes "temperror" ∷ bytes "permerror" ∷ [])
    ∷ row (bytes "dmarc") (bytes "none" ∷ bytes "pass" ∷ bytes "fail" ∷ bytes "temperror" ∷ bytes "permerror" ∷ [])
    ∷ row (bytes "arc") (bytes "none" ∷ bytes "pass" ∷ bytes "fail" ∷ [])
    ∷ []

-- smtp, header, body or policy
abbrev pub ptypes : List (List ℕ)
ptypes = bytes "smtp" ∷ bytes "header" ∷ bytes "body" ∷ bytes "policy" ∷ []

-- its method and its result are in this table: the result stands in the row of its own method
unfoldable pub tabled : List Row → List ℕ → List ℕ → Bool
tabled [] m r = false
tabled (w ∷ ws) m r = same w.method m && listed w.results r || tabled ws m r

-- its method version is 1: which versions of a method are understood, by their numbers, stands here alone
unfoldable pub known_version : List ℕ → VersionNumber → Bool
known_version method version = is_one version

-- what is asked of method, version and result together
unfoldable pub known_method : Methodspec → Bool
known_method m = known_version m.method m.version && tabled table m.method m.result

-- each of its ptypes is smtp, header, body or policy
unfoldable pub known_types : List Property → Bool
known_types [] = true
known_types (p ∷ ps) = listed ptypes p.ptype && known_types ps

-- A well-formed result is ignored .. if its method version isn't 1, its method or its result isn't in this table, or any of its ptypes
-- isn't ..: understood is the opposite of ignored
unfoldable pub understood : Result → Bool
understood r = known_method r.methodspec && known_types r.properties
