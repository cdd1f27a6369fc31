-- The end of a field whose lines are all whole.
use Rattle.std.specs.Prelude.{cond, get_or}
use Rattle.base_readers.specs.Readers.{Reader}
use Rattle.lexis_rules.specs.declared.Class.TheVariants.{Blank}
use Rattle.lexis_rules.specs.Bytes.{in_class}
use Rattle.block_rules.specs.Fields.{extent}

-- the field at the front, up to its last CRLF. Nothing where a line of it has none: the first, or one that starts with space or tab behind the
-- further lines that have theirs
unfoldable pub whole : Reader
whole xs = cond (in_class Blank (get_or xs (extent xs) 0)) 0 (extent xs)
