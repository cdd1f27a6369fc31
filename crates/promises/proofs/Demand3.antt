-- Demand 3: an old reader never misreads a newer writer. Both halves are of the whole call, its answer and what it leaves in the lent buffer,
-- whatever room is lent, the same each time; each has an instance.
use Prim.Native.Nat.{ℕ, suc, ◌*◌}
use mathlib.Core.Path.{◌≡◌, refl}
use mathlib.Core.List.{List, [], ◌∷◌, Memᴰ}
use lib.Dec.{lit≤}
use lib.ListN.{length, take}
use Rattle.base_readers.specs.Texts.{bytes}
use Rattle.lexis_rules.specs.Numbers.{number_of as version_number, one}
use Rattle.result_rules.specs.Results.{Result}
use Rattle.report_rules.specs.Body.{reading}
use Rattle.report_rules.specs.Newer.{Names, WithinLimit, WellFormed, results_of, IsResult}
use Rattle.report_rules.specs.Beside.{insertion_places, insert_at}
use Rattle.report_rules.proofs.Unfolding as body-opened
use Rattle.report_laws.proofs.Demand3 as demand3
use Rattle.report_laws.proofs.Ignored.{insert_at-length}
use Rattle.promises.specs.Calls.{Reporting, reports}

-- ==== a newer header version

-- If two fields name the same header version, other than 1, and have the same bytes up to the end of that number, they get the same answer and report,
-- whatever follows it in each: for fields within the size limit
pub newer-header : (b c v : List ℕ) (n m : ℕ) → Names b v n → Names c v m → (version_number v ≡ one → ⊥) → take n b ≡ take m c → WithinLimit b → WithinLimit c
    → (old : List ℕ) → reports b old ≡ reports c old
newer-header b c v n m B C ne s l k old = rw (demand3.newer-header b c v n m B C ne s l k (length old))

header-example : (old : List ℕ) → reports (bytes "a(b) 002;;\\ what ever") old ≡ reports (bytes "a(b) 002") old
unfolding body-opened.opened
header-example =
    newer-header (bytes "a(b) 002;;\\ what ever") (bytes "a(b) 002") (bytes "2") 8 8 (record { identifier = bytes "a"; reads = refl })
    (record { identifier = bytes "a"; reads = refl }) demand3.two-not-one refl (lit≤ tt) (lit≤ tt)

-- ==== a newer method version

-- x is y with one ignored result more
pub record OneMoreIgnored (x y : Reporting) : Type 0 where
  pub number : x.answer.number ≡ y.answer.number
  pub place : x.answer.place ≡ y.answer.place
  pub written : x.answer.written ≡ y.answer.written
  pub left : x.left ≡ y.left
  pub ignored : y.answer.number ≡ 0 → x.answer.ignored ≡ suc y.answer.ignored

-- Take any well-formed version 1 field with at least one result, and put any well-formed result whose method version isn't 1 before or after any of its
-- results: the answer stays, the report is the same byte for byte, and where it fits the ignored count is one higher: for every such field that is within
-- the size limit with the result put in
pub newer-result : (b w : List ℕ) (r : Result) → WellFormed b → IsResult w r → (r.methodspec.version ≡ one → ⊥)
    → (k : ℕ) → Memᴰ k (insertion_places b) → WithinLimit (insert_at k w b) → (old : List ℕ) → OneMoreIgnored (reports (insert_at k w b) old) (reports b old)
newer-result b w r good W ne k K l old =
    let m = demand3.newer-result b w r good W ne k K l (length old) in
    record {
      number = m.same.number;
      place = m.same.place;
      written = rw m.same.written;
      left = rw m.same.written;
      ignored = m.counted;
    }

-- the places before and after results: four for each
pub four-places : (b : List ℕ) → WellFormed b → length (insertion_places b) ≡ 4 * length (results_of (reading b))
four-places = demand3.four-places

-- a field with two results, its eight places, and a newer result put at each
abbrev two_results : List ℕ
two_results = bytes " a (c); spf=pass smtp.mailfrom=x@y.z ; dkim=fail (d) "

abbrev newer_result : List ℕ
newer_result = bytes ";dkim/2 = pass reason=\"a;b\" \r\n header.(x)d=e"

result-example : (k : ℕ) → Memᴰ k (2 ∷ 6 ∷ 36 ∷ 37 ∷ 36 ∷ 37 ∷ 48 ∷ 53 ∷ []) → (old : List ℕ)
    → OneMoreIgnored (reports (insert_at k newer_result two_results) old) (reports two_results old)
unfolding body-opened.opened
result-example k K = newer-result two_results newer_result _ refl refl demand3.two-not-one k K (rw (insert_at-length k newer_result two_results) (lit≤ tt))

places-example : length (insertion_places two_results) ≡ 8
unfolding body-opened.opened
places-example = four-places two_results refl

-- the word none is well-formed, and has no place to put a result
none-example : WellFormed (bytes "a; none") × (insertion_places (bytes "a; none") ≡ [])
unfolding body-opened.opened
none-example = (refl, refl)
