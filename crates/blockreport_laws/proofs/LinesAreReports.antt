-- What the report of a block promises beyond its contract. Each theorem is about the definition that the contract of `blockreport::report_block` cites.
use Prim.Native.Nat.{ℕ, ◌+◌, ◌*◌, ◌≤◌}
use native.Mathlib.Omega.{arith}
use mathlib.Core.Path.{◌≡◌}
use mathlib.Core.List.{List, ◌++◌}
use lib.ListN.{length}
use Rattle.lexis_rules.specs.Limits.{byte_limit}
use Rattle.ownlist_rules.specs.declared.Own.{Own}
use Rattle.identifier_rules.specs.Identifier.{identifier}
use Rattle.report_rules.specs.Report.{report}
use Rattle.report_laws.proofs.Rooms.{text-size}
use Rattle.report_laws.proofs.Numbers.{when-told}
use Rattle.blockreport_rules.specs.declared.Detail.{Detail}
use Rattle.blockreport_rules.specs.FieldLines.{field_line}
use Rattle.blockreport_rules.specs.BlockReport.{detail_line, body_lines}

-- What is told of a body is what `report` answers to it where there is room: its number and its ignored results in the line, and then its report. Behind
-- that stands what the detail adds, by the same number.
pub body-lines-report : (detail : Detail) (n : ℕ) (whose : Own) (body : List ℕ) (room : ℕ) → length body ≤ byte_limit → 3 * length body + 4 ≤ room
    → body_lines detail n whose body
    ≡ field_line n whose (report body room).number (report body room).ignored
    ++ ((report body room).written ++ detail_line detail (report body room).number (identifier body))
unfolding body_lines
body-lines-report detail n whose body room a b = rw (when-told body room a (omega (arith, text-size body a, b)))
