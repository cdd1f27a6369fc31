-- The lines of a list as it is compared.
use Rattle.std.specs.Prelude.{ℕ, List}
use Rattle.ownlist_rules.specs.Ends.{cut_at}
use Rattle.ownlist_lines.specs.declared.Lines.{Lines}

-- the bytes, cut at the places where the lines end
abbrev pub lines_in : Lines → List (List ℕ)
lines_in lines = cut_at lines.own.now 0 lines.ends.now
