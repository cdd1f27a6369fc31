-- How long the lines of a field can be: the line of its number by its columns, and its report, or the line of its identifier, by the length of its body.
use Prim.Native.Nat.{ℕ, zero, suc, ◌+◌, ◌*◌, ◌/◌, ◌%◌, ◌≤◌}
use native.Mathlib.Omega.{arith}
use mathlib.Core.Path.{◌≡◌, refl}
use mathlib.Core.Bool.{Bool, true, false}
use mathlib.Core.List.{List, [], ◌∷◌, ◌++◌}
use borrow.Author.Tests.{eqb-true, eqb-false}
use lib.Dec.{ltb, eqb}
use lib.ListN.{length, length-append}
use Rattle.base_readers.specs.Texts.{bytes}
use Rattle.base_readers.specs.Parsers.{Got, nothing, got}
use Rattle.text_decimals_rules.specs.Decimals.{digit, digits, decimal}
use Rattle.lexis_rules.specs.Bytes.{alike}
use Rattle.lexis_rules.specs.Limits.{byte_limit}
use Rattle.ownlist_rules.specs.declared.Own.{Own}
use Rattle.ownlist_rules.specs.declared.Own.TheVariants.{Ours, Others, Unreadable}
use Rattle.identifier_rules.specs.Identifier.{identifier}
use Rattle.report_rules.specs.Body.{Reading, unreadable, malformed, newer, no_result, results, reading}
use Rattle.report_rules.specs.Report.{line}
use Rattle.report_rules.specs.ByCase.{number_of, text_of, count_of}
use Rattle.report_laws.proofs.Counts.{count-size}
use Rattle.report_laws.proofs.Heads.{identifier-within}
use Rattle.report_laws.proofs.Sizes.{id-size}
use Rattle.report_laws.proofs.Rooms.{text-size}
use Rattle.blockreport_rules.specs.declared.Detail.{Detail}
use Rattle.blockreport_rules.specs.declared.Detail.TheVariants.{Reported, Identified}
use Rattle.blockreport_rules.specs.FieldLines.{word_of, field_line, identifier_line}
use Rattle.blockreport_rules.specs.BlockReport.{detail_line, body_lines, addition}
use Rattle.blockreport_laws.proofs.WithIdentifiers.{nine-malformed, detail-reported, detail-nine, detail-not-nine}

digits-size : (k n : ℕ) → length (digits k n) ≤ k + 1
unfolding digits
digits-size zero n = omega arith
digits-size (suc k) n = go (ltb n 10) refl (digits-size k (n / 10))
  where
    go : (t : Bool) → ltb n 10 ≡ t → length (digits k (n / 10)) ≤ k + 1 → length (digits (suc k) n) ≤ suc k + 1
    go true e ih = rw (digits, e) (omega arith)
    go false e ih = rw (digits, e) (omega (arith, ih, length-append (digits k (n / 10)) (digit (n % 10) ∷ [])))

decimal-size : (n : ℕ) → length (decimal n) ≤ n + 1
unfolding decimal
decimal-size n = digits-size n n

pub word_size : (o : Own) → length (word_of o) ≤ 10
unfolding word_of
word_size Ours = omega arith
word_size Others = omega arith
word_size Unreadable = omega arith

field-line-size : (n : ℕ) (o : Own) (a i : ℕ) → length (field_line n o a i) ≤ n + a + i + 23
unfolding field_line line
field-line-size n o a i = simp length-append (omega (arith, decimal-size n, word_size o, decimal-size a, decimal-size i))

pub number_size : (x : Reading) → number_of x ≤ 9
number_size unreadable = omega arith
number_size malformed = omega arith
number_size (newer h) = omega arith
number_size (no_result i) = omega arith
number_size (results i rs) = omega arith

-- the report of a body, or where it answers 9 what the detail adds: at most three bytes for each byte of the body, and four more
pub detailed-size : (detail : Detail) (body : List ℕ) → length body ≤ byte_limit
    → length (text_of (reading body)) + length (detail_line detail (number_of (reading body)) (identifier body)) ≤ 3 * length body + 4
unfolding identifier_line
detailed-size detail body h = go (eqb (number_of (reading body)) 9) refl
  where
    line-short : (g : Got (List ℕ)) → identifier body ≡ g → length (identifier_line g) ≤ 3 * length body + 4
    line-short nothing e = omega arith
    line-short (got i n) e = omega (arith, id-size body i n e, (identifier-within body i n e).0)

    nine : (d : Detail) → length (detail_line d 9 (identifier body)) ≤ 3 * length body + 4
    nine Reported = rw (detail-reported 9 (identifier body)) (omega arith)
    nine Identified = rw (detail-nine (identifier body)) (line-short (identifier body) refl)

    go : (t : Bool) → eqb (number_of (reading body)) 9 ≡ t
        → length (text_of (reading body)) + length (detail_line detail (number_of (reading body)) (identifier body)) ≤ 3 * length body + 4
    go true e = let m = nine-malformed (reading body) (eqb-true _ 9 e) in rw m (omega (arith, nine detail))
    go false e = let d = detail-not-nine detail (number_of (reading body)) (identifier body) (eqb-false _ 9 e) in rw d (omega (arith, text-size body h))

-- the line of the n-th field, the report of its body and what the detail adds
pub addition-size : (detail : Detail) (whose : Got (List ℕ) → Own) (n : ℕ) (name body : List ℕ) → length body ≤ byte_limit
    → length (addition detail whose n name body) ≤ n + 6 * length body + 36
unfolding addition body_lines
addition-size detail whose n name body h = go (alike name (bytes "Authentication-Results")) refl
  where
    x : Reading
    x = reading body

    go : (t : Bool) → alike name (bytes "Authentication-Results") ≡ t → length (addition detail whose n name body) ≤ n + 6 * length body + 36
    go false e = rw (addition, e) (omega arith)
    go true e =
        rw (addition, e)
        (omega (
          arith,
          length-append (field_line n (whose (identifier body)) (number_of x) (count_of x)) (text_of x ++ detail_line detail (number_of x) (identifier body)),
          length-append (text_of x) (detail_line detail (number_of x) (identifier body)),
          field-line-size n (whose (identifier body)) (number_of x) (count_of x),
          number_size x,
          count-size body,
          detailed-size detail body h,
        ))
