-- What is written of the column that holds a property value: what `write_rules` says of its text (`Bodies.pvalue`), told by the column itself, so that
-- no premise on the column is needed. `proofs/Values.antt` has the law that says so.
use Prim.Native.Char.{code}
use Rattle.std.specs.Prelude.{ℕ, true, false, cond, ◌&&◌, List, ◌++◌, eqb, length, take, drop}
use Rattle.base_readers.specs.Readers.{run}
use Rattle.result_rules.specs.Results.{in_local_part, single_dots}
use Rattle.write_rules.specs.Entries.{whole, local_of}
use Rattle.write_rules.specs.Bodies.{bare_or}
use Rattle.write_columns.specs.Internal.{text_of}

-- a local part: bare or as a quoted string; its dots are counted as they stand in the column
unfoldable pub written_local : List ℕ → List ℕ
written_local l = bare_or (whole (run in_local_part) (text_of l) && single_dots true l) (text_of l)

-- a mailbox: the local part, and from the last "@" on what stands in the column
unfoldable pub written_mailbox : List ℕ → List ℕ
written_mailbox v = written_local (take (length (local_of v)) v) ++ drop (length (local_of v)) v

-- a value of the kind of a letter
unfoldable pub written_value : ℕ → List ℕ → List ℕ
written_value k v =
    cond (eqb k (code "t")) (bare_or true (text_of v)) (cond (eqb k (code "q")) (bare_or false (text_of v)) (cond (eqb k (code "m")) (written_mailbox v) v))
