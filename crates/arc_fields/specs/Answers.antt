-- What the code's answers say.
use Rattle.std.specs.Prelude.{ℕ, Option, Some, None}
use Rattle.base_readers.specs.Parsers.{Got, nothing, got}
use Rattle.arc_fields.specs.declared.Instance.{Instance}
use Rattle.arc_fields.specs.declared.Start.{Start}

-- before any instance is known
abbrev pub no_instance : Instance
no_instance = record { number = 0 }

-- an instance that was found, and the place after its ";"
abbrev pub start_got : Option Start → Got ℕ
start_got (Some x) = got x.instance x.end
start_got None = nothing
