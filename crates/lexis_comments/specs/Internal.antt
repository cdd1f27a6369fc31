-- A fresh cursor, for private functions: no public contract cites this.
use Rattle.std.specs.Prelude.{ℕ}
use Rattle.lexis_comments.specs.declared.Cursor.{Cursor}
use Rattle.lexis_rules.specs.Limits.{depth_limit}

-- a fresh cursor: at a place, where all the comments that the limit allows may still open
abbrev pub fresh_at : ℕ → Cursor
fresh_at at = record { at = at; depth = depth_limit }
