-- Demand 3: an old reader never misreads a newer writer. Two theorems over the report of a body, each with an instance: the first holds
-- because what names a header version hangs on nothing behind it, the second because a result hangs on nothing behind what closes it.
use Prim.Native.Nat.{ℕ, ◌*◌}
use native.Mathlib.Omega.{arith}
use mathlib.Core.Path.{◌≡◌, refl, sym, ap, ◌∙◌}
use mathlib.Core.List.{List, [], ◌∷◌, Memᴰ, map}
use lib.Dec.{lit≤}
use lib.ListN.{length, take}
use Rattle.base_readers.specs.Texts.{bytes}
use Rattle.lexis_rules.specs.declared.VersionNumber.TheVariants.{Exact}
use Rattle.lexis_rules.specs.Numbers.{number_of, one}
use Rattle.lexis_laws.proofs.VersionNumbers.{one-digits}
use Rattle.result_rules.specs.Results.{Result}
use Rattle.report_rules.specs.Body.{reading}
use Rattle.report_rules.specs.Report.{Answer, answer, report}
use Rattle.report_rules.specs.Newer.{Names, WithinLimit, WellFormed, results_of, IsResult, OneMore}
use Rattle.report_rules.specs.Beside.{insertion_places, insert_at}
use Rattle.report_rules.proofs.Unfolding.{opened}
use Rattle.report_laws.proofs.Heads.{naming-run}
use Rattle.report_laws.proofs.Readings.{report-is, newer-same}
use Rattle.report_laws.proofs.Ignored.{newer-ignored, insert_at-length, ignored-inserted, places-four}

-- ==== header versions

-- two fields that name the same header version, not 1, and have the same bytes up to the end of that number get the same answer, whatever
-- follows, for every room
pub newer-header : (b c v : List ℕ) (n m : ℕ) → Names b v n → Names c v m → (number_of v ≡ one → ⊥) → take n b ≡ take m c → WithinLimit b → WithinLimit c
    → (room : ℕ) → report b room ≡ report c room
newer-header b c v n m B C ne s l k room =
    report-is b room l ∙ (ap (answer room) (newer-same b c _ _ n m B.reads C.reads ne s) ∙ sym (report-is c room k))

-- the same in the words before ticket [3]: the digits are not the one byte "1"
pub newer-header-digits : (b c v : List ℕ) (n m : ℕ) → Names b v n → Names c v m → (v ≡ bytes "1" → ⊥) → take n b ≡ take m c → WithinLimit b → WithinLimit c
    → (room : ℕ) → report b room ≡ report c room
newer-header-digits b c v n m B C ne s l k room =
    let r = naming-run b (record { identifier = B.identifier; version = v }) n B.reads in
    newer-header b c v n m B C (λ e. ne (sym r.is ∙ one-digits r.run (ap number_of r.is ∙ e))) s l k room

-- ==== method versions

-- a well-formed result whose method version isn't 1, put beside any result of a well-formed version 1 field, changes neither number nor
-- place nor bytes written, and where the report fits one more is counted as ignored, for every room
pub newer-result : (b w : List ℕ) (r : Result) → WellFormed b → IsResult w r → (r.methodspec.version ≡ one → ⊥)
    → (k : ℕ) → Memᴰ k (insertion_places b) → WithinLimit (insert_at k w b) → (room : ℕ) → OneMore (report (insert_at k w b) room) (report b room)
newer-result b w r good W ne k K l room = ignored-inserted b w r good W (newer-ignored r ne) k K l room

-- the places beside its results are four for each
pub four-places : (b : List ℕ) → WellFormed b → length (insertion_places b) ≡ 4 * length (results_of (reading b))
four-places = places-four

-- ==== an instance of each

pub two-not-one : Exact 2 ≡ one → ⊥
two-not-one e = let z : ◌≡◌ {A = ℕ} 2 1 = cc in omega arith

-- whatever a newer writer puts behind its number
header-instance : (room : ℕ) → report (bytes "a(b) 002;;\\ what ever") room ≡ report (bytes "a(b) 002") room
unfolding opened
header-instance room =
    newer-header (bytes "a(b) 002;;\\ what ever") (bytes "a(b) 002") (bytes "2") 8 8 (record { identifier = bytes "a"; reads = refl })
    (record { identifier = bytes "a"; reads = refl }) two-not-one refl (lit≤ tt) (lit≤ tt) room

abbrev old : List ℕ
old = bytes " a (c); spf=pass smtp.mailfrom=x@y.z ; dkim=fail (d) "

abbrev new : List ℕ
new = bytes ";dkim/2 = pass reason=\"a;b\" \r\n header.(x)d=e"

-- of the first result: the far side of the space before it, its start, its end, the far side of the space behind it; then of the second
old-places : insertion_places old ≡ 2 ∷ 6 ∷ 36 ∷ 37 ∷ 36 ∷ 37 ∷ 48 ∷ 53 ∷ []
unfolding opened
old-places = refl

sized-instance : (k : ℕ) → WithinLimit (insert_at k new old)
sized-instance k = rw (insert_at-length k new old) (lit≤ tt)

result-instance : (k : ℕ) → Memᴰ k (2 ∷ 6 ∷ 36 ∷ 37 ∷ 36 ∷ 37 ∷ 48 ∷ 53 ∷ []) → (room : ℕ)
    → OneMore (report (insert_at k new old) room) (report old room)
unfolding opened
result-instance k K room = newer-result old new _ refl refl two-not-one k K (sized-instance k) room

-- what the old field says, and by computing the same at these places; inside the second result nothing is well-formed
abbrev says : ℕ → List ℕ → ℕ → Answer
says n out k = record { number = n; place = 0; ignored = k; written = out }

abbrev lines : List ℕ
lines = bytes "id\ta\nm\tspf\tpass\np\tsmtp\tmailfrom\tm\tx@y.z\nm\tdkim\tfail\n"

old-report : report old 100 ≡ says 0 lines 0
unfolding opened
old-report = refl

new-reports :
    map (λ (k : ℕ). report (insert_at k new old) 100) (2 ∷ 6 ∷ 36 ∷ 37 ∷ 48 ∷ 53 ∷ 41 ∷ [])
    ≡ says 0 lines 1 ∷ says 0 lines 1 ∷ says 0 lines 1 ∷ says 0 lines 1 ∷ says 0 lines 1 ∷ says 0 lines 1 ∷ says 9 [] 0 ∷ []
unfolding opened
new-reports = refl
