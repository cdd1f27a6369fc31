-- What is read and written of one result, by its places.
use Rattle.std.specs.Prelude.{ℕ, ◌+◌, min, List, [], length, Option, Some, None}
use Rattle.base_sequences.specs.Stored.{cap}
use Rattle.base_readers.specs.Parsers.{nothing, got}
use Rattle.base_readers.specs.Places.{from}
use Rattle.result_rules.specs.Results.{bare_result}
use Rattle.result_rules.specs.Table.{understood}
use Rattle.result_separators.specs.Separators.{spaced}
use Rattle.report_rules.specs.Report.{result_lines}
use Rattle.report_results.specs.declared.Turn.{Turn}

-- where the result at a place ends, with the space behind it, the place after its lines where they are written from `to` on, and whether it is understood
unfoldable pub turn_at : List ℕ → ℕ → ℕ → Option Turn
turn_at s at to =
    elim (from bare_result s at) [ nothing ↦ None | got r e ↦ Some (record { end = e; gap = spaced s e; next = min (to + length (result_lines r)) cap; understood = understood r }) ]

-- its lines, understood or not
unfoldable pub lines_at : List ℕ → ℕ → List ℕ
lines_at s at = elim (from bare_result s at) [ nothing ↦ [] | got r e ↦ result_lines r ]
