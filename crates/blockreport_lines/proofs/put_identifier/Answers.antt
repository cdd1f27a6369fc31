-- `blockreport_lines::put_identifier` meets its contract: of an identifier that was found its line, and else nothing.
use native.Mathlib.Omega.{arith}
use mathlib.Core.Path.{sym, ◌∙◌}
use Rattle.blockreport_lines.proofs.Identifiers.{line-none, line-found}
use Rattle.blockreport_lines.proofs.put_identifier.Goals as goal

pub returns-in_default : goal.returns-in_default
returns-in_default c = line-none _ _ _ (sym c.in_default.is ∙ c.identify.ensures) (omega arith)

pub returns : goal.returns
returns c = line-found _ _ _ _ _ _ (sym c.in-Readable.is ∙ c.identify.ensures) c.put_id_from.new.out c.put_id_from.result c.put_id_from.ensures
