-- What private functions say: no public contract cites this.
use Prim.Native.Char.{code}
use Rattle.std.specs.Prelude.{ℕ, Bool, not, ◌&&◌, eqb}
use Rattle.base_readers.specs.Texts.{within}

-- the bytes that a report has as they stand, in a quoted string or not: from "&" to "~" but the backslash. (So it has "!", "#" and "$", which
-- are rare and go the way of the others.)
unfoldable pub verbatim : ℕ → Bool
verbatim x = within (code "&") (code "~") x && not (eqb x (code "\\"))
