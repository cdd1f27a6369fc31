-- What other crates use: for a body within the limit a field adds what the definition of the report says, and with room for all of it all of it is stored.
use Prim.Native.Nat.{ℕ, ◌+◌, ◌≤◌, ◌<◌}
use native.Mathlib.Omega.{arith}
use mathlib.Core.Path.{◌≡◌, refl, sym, ◌∙◌}
use mathlib.Core.Bool.{Bool, true, false}
use mathlib.Core.List.{List, [], ◌++◌}
use lib.ListN.{length}
use lib.Seq.{sets, length-sets}
use Rattle.base_sequences.specs.Stored.{cap}
use Rattle.base_sequences.proofs.Splices.{sets-append}
use Rattle.base_readers.specs.Texts.{bytes}
use Rattle.base_readers.specs.Parsers.{Got}
use Rattle.lexis_rules.specs.Bytes.{alike}
use Rattle.lexis_rules.specs.Limits.{byte_limit}
use Rattle.ownlist_rules.specs.declared.Own.{Own}
use Rattle.report_rules.specs.Body.{reading}
use Rattle.report_rules.specs.Report.{report}
use Rattle.report_rules.specs.ByCase.{told}
use Rattle.report_laws.proofs.Rooms.{text-size}
use Rattle.report_laws.proofs.Numbers.{when-one, when-told}
use Rattle.identifier_rules.specs.Identifier.{identifier}
use Rattle.blockreport_rules.specs.declared.Detail.{Detail}
use Rattle.blockreport_rules.specs.FieldLines.{field_line}
use Rattle.blockreport_rules.specs.BlockReport.{detail_line, body_lines, addition}
use Rattle.blockreport_laws.proofs.WithIdentifiers.{detail-not-nine}
use Rattle.blockreport_fields.specs.Addends.{Addend, body_addend, field_addend, if_room, buffer_after}
use Rattle.blockreport_fields.proofs.Room.{room-enough, room-long}

-- an addend, all of it
abbrev pub all_of : Addend → List ℕ
all_of a = a.line ++ (a.text ++ a.id)

pub addend-is : (detail : Detail) (whose : Got (List ℕ) → Own) (n : ℕ) (name s : List ℕ) → length s ≤ byte_limit
    → all_of (field_addend detail whose n name s) ≡ addition detail whose n name s
unfolding field_addend body_addend addition body_lines
addend-is detail whose n name s l = go (alike name (bytes "Authentication-Results")) refl
  where
    say : report s cap ≡ told (reading s)
    say = when-told s cap l (omega (arith, text-size s l, l))

    go : (b : Bool) → alike name (bytes "Authentication-Results") ≡ b → all_of (field_addend detail whose n name s) ≡ addition detail whose n name s
    go true e = rw (field_addend, addition, e, say)
    go false e = rw (field_addend, addition, e)

-- a body over the limit has a line with number 1, and no report
pub addend-over : (detail : Detail) (n : ℕ) (o : Own) (s : List ℕ) → byte_limit < length s
    → body_addend detail n o s ≡ record { line = field_line n o 1 0; text = []; id = [] }
unfolding body_addend
addend-over detail n o s l =
    let q = when-one s cap l in
    let d : detail_line detail 1 (identifier s) ≡ [] = detail-not-nine detail 1 (identifier s) (λ z. omega (arith, z)) in
    rw (body_addend, q, d)

module _ (a : Addend) (old : List ℕ) (to : ℕ) where
  pub addend-fits : to + (length a.line + (length a.text + length a.id)) ≤ length old → buffer_after a old to ≡ sets old to (all_of a)
  unfolding buffer_after
  addend-fits h =
      let k : to + (length a.line + length a.text) ≡ to + length a.line + length a.text = omega arith in
      rw (room-enough (sets old to a.line) (to + length a.line) a.text (omega (arith, length-sets old to a.line)), k)
      (sym
      (sets-append old to a.line (a.text ++ a.id)
      ∙ sets-append (sets old to a.line) (to + length a.line) a.text a.id))

  pub addend-long : length (buffer_after a old to) ≡ length old
  unfolding buffer_after
  addend-long =
      length-sets (if_room (sets old to a.line) (to + length a.line) a.text) (to + (length a.line + length a.text)) a.id
      ∙ (room-long (sets old to a.line) (to + length a.line) a.text ∙ length-sets old to a.line)
