-- Which room is always enough: three bytes for each byte of a block and 64 for each of 512 fields, 229,376 in all.
use Prim.Native.Nat.{ℕ, suc, ◌+◌, ◌-◌, ◌*◌, ◌≤◌, ◌<◌}
use native.Mathlib.Omega.{arith}
use mathlib.Core.Path.{◌≡◌, refl, ap}
use mathlib.Core.Bool.{Bool, true, false}
use mathlib.Core.List.{List, [], ◌∷◌, ◌++◌}
use lib.ListN.{length, drop, length-append, length-take, length-drop}
use Rattle.base_readers.specs.Texts.{bytes}
use Rattle.base_readers.specs.Parsers.{Got}
use Rattle.text_decimals_rules.proofs.DigitsTell.{decimal-length}
use Rattle.lexis_rules.specs.Bytes.{alike}
use Rattle.lexis_rules.specs.Limits.{byte_limit}
use Rattle.block_rules.specs.Fields.{Field, name_of, body_of, fields, bytes_of}
use Rattle.block_laws.proofs.Fields.{fields-fine}
use Rattle.ownlist_rules.specs.declared.Own.{Own}
use Rattle.ownlist_rules.specs.OwnList.{own_list}
use Rattle.ownlist_rules.specs.Listed.{own_of}
use Rattle.identifier_rules.specs.Identifier.{identifier}
use Rattle.report_rules.specs.Body.{Reading, reading}
use Rattle.report_rules.specs.Report.{line}
use Rattle.report_rules.specs.ByCase.{number_of, text_of, count_of}
use Rattle.report_laws.proofs.Counts.{count-size}
use Rattle.blockreport_rules.specs.declared.Detail.{Detail}
use Rattle.blockreport_rules.specs.FieldLines.{field_line}
use Rattle.blockreport_rules.specs.BlockReport.{detail_line, body_lines, addition, additions, block_report}
use Rattle.blockreport_rules.specs.Terms.{block_text, Known}
use Rattle.blockreport_laws.proofs.Numbers.{six-when}
use Rattle.blockreport_laws.proofs.Sizes.{word_size, number_size, detailed-size}

-- ==== one field

-- numbers below 1,000, 10 and 1,000,000 have three, one and six digits at most
pub field-line-room : (n : ℕ) (o : Own) (a i : ℕ) → n < 1000 → a < 10 → i < 1000000 → length (field_line n o a i) ≤ 30
unfolding field_line line
field-line-room n o a i p q r =
    simp length-append (omega (arith, decimal-length 2 n (omega (arith, p)), word_size o, decimal-length 0 a (omega (arith, q)), decimal-length 5 i (omega (arith, r))))

pub body-size : (f : Field) → length (body_of f) ≤ length f.bytes
body-size f = omega (arith, length-take (length f.bytes - 2 - f.body) (drop f.body f.bytes), length-drop f.body f.bytes)

module _ (detail : Detail) (whose : Got (List ℕ) → Own) where
  addition-room : (n : ℕ) (name body : List ℕ) → n < 1000 → length body ≤ byte_limit → length (addition detail whose n name body) ≤ 3 * length body + 64
  unfolding addition body_lines
  addition-room n name body p h = go (alike name (bytes "Authentication-Results")) refl
    where
      x : Reading
      x = reading body

      go : (t : Bool) → alike name (bytes "Authentication-Results") ≡ t → length (addition detail whose n name body) ≤ 3 * length body + 64
      go false e = rw (addition, e) (omega arith)
      go true e =
          rw (addition, e)
          (omega (
            arith,
            length-append (field_line n (whose (identifier body)) (number_of x) (count_of x)) (text_of x ++ detail_line detail (number_of x) (identifier body)),
            length-append (text_of x) (detail_line detail (number_of x) (identifier body)),
            field-line-room n (whose (identifier body)) (number_of x) (count_of x) p (omega (arith, number_size x)) (omega (arith, count-size body, h)),
            detailed-size detail body h,
          ))

  -- ==== all fields

  additions-room : (n : ℕ) (fs : List Field) → n + length fs ≤ 1000 → length (bytes_of fs) ≤ byte_limit
      → length (additions detail whose n fs) ≤ 3 * length (bytes_of fs) + 64 * length fs
  unfolding additions bytes_of
  additions-room n [] p h = omega arith
  additions-room n (f ∷ fs) p h =
      let l = length-append f.bytes (bytes_of fs) in
      let a = addition-room n (name_of f) (body_of f) (omega (arith, p)) (omega (arith, h, l, body-size f)) in
      let r = additions-room (suc n) fs (omega (arith, p)) (omega (arith, h, l)) in
      omega (arith, length-append (addition detail whose n (name_of f) (body_of f)) (additions detail whose (suc n) fs), l, a, r, body-size f)

-- what is told of a block that is not refused
pub text-room : (detail : Detail) (block list : List ℕ) → Known block list → length (block_text detail block list) ≤ 3 * byte_limit + 64 * 512
text-room detail block list k =
    let w = fields-fine block k.1.1 in
    let s = ap length w.bytes in
    let a = additions-room detail (own_of (own_list list).items) 1 (fields block).items (omega (arith, w.few)) (omega (arith, s, k.0)) in
    omega (arith, a, s, k.0, w.few)

pub room-enough : (detail : Detail) (block list : List ℕ) (room : ℕ) → 3 * byte_limit + 64 * 512 ≤ room → (block_report detail block list room).number ≡ 6 → ⊥
room-enough detail block list room r e = let k = six-when detail block list room e in omega (arith, k.1, text-room detail block list k.0, r)
