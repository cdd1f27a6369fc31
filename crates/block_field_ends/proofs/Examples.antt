-- The end of a field at worked examples, computed.
use mathlib.Core.Path.{refl}
use mathlib.Core.List.{[], ◌∷◌}
use Rattle.base_readers.specs.Texts.{bytes, one_of}
use Rattle.base_readers.specs.Readers.{run, many}
use Rattle.base_readers.proofs.Cases.{case, Says}
use Rattle.lexis_rules.specs.Bytes.{in_class}
use Rattle.block_rules.specs.Fields.{in_line, line, folded, extent}
use Rattle.block_field_ends.specs.Ends.{whole}

-- a field ends with its last CRLF: before another field, before an empty line, and at the end of the bytes; with further lines, also one of
-- blanks alone. The text of its lines is not looked at
ends :
    Says whole
    (case (bytes "A: b\r\nC: d\r\n") 6
    ∷ case (bytes "A: b\r\n\r\n") 6
    ∷ case (bytes "A: b\r\n") 6
    ∷ case (bytes "A: b\r\n c\r\n\td\r\nE: f\r\n") 14
    ∷ case (bytes "A: b\r\n \r\n") 9
    ∷ case (bytes " b\r\n") 4
    ∷ case (bytes "\r\n") 2
    ∷ case (bytes "\r\n b\r\n") 6
    ∷ [])
unfolding one_of run many in_class in_line line folded extent whole
ends = refl

-- without one: no bytes, an LF without CR, a CR without LF, a CR at the end, a last line without CRLF; on the first line and on a further one
lacks :
    Says whole
    (case [] 0
    ∷ case (bytes "\nA: b\r\n") 0
    ∷ case (bytes "A: b\nc\r\n") 0
    ∷ case (bytes "A: b\rc\r\n") 0
    ∷ case (bytes "A: b\r\r\n") 0
    ∷ case (bytes "A: b\r") 0
    ∷ case (bytes "A: b") 0
    ∷ case (bytes "A: b\r\n \nc\r\n") 0
    ∷ case (bytes "A: b\r\n c\r") 0
    ∷ case (bytes "A: b\r\n c") 0
    ∷ case (bytes "A: b\r\n ") 0
    ∷ [])
unfolding one_of run many in_class in_line line folded extent whole
lacks = refl

-- what stands behind the field says nothing of it
behind : Says whole (case (bytes "A:\r\nB\n") 4 ∷ case (bytes "A:\r\n\nB") 4 ∷ case (bytes "A:\r\n\rB") 4 ∷ [])
unfolding one_of run many in_class in_line line folded extent whole
behind = refl
