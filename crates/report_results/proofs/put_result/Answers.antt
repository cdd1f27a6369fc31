-- `report_results::put_result` meets its contract: the method and what stands behind it are the result.
use mathlib.Core.Path.{sym, ◌∙◌}
use borrow.Author.Rules.{rules}
use Rattle.report_results.proofs.Turns.{turn-missing, lines-missing, lines-read, turn-read}
use Rattle.report_results.proofs.put_result.Goals as goal

pub returns-then-known : goal.returns-then-known
returns-then-known c = record { value = turn-read _ _ _ _ _ _ _ (sym c.in-Read.is ∙ c.method_at.ensures) _ _ _ _ _ (search rules) c.put_method-n.ensures _ c.put_details-d.ensures _ c.knows_method-known.ensures _ (rw c.if-known.true); out_after = lines-read _ _ _ _ _ _ _ (sym c.in-Read.is ∙ c.method_at.ensures) _ _ _ _ _ (search rules) c.put_method-n.ensures _ c.put_details-d.ensures }

pub returns-else-known : goal.returns-else-known
returns-else-known c = record { value = turn-read _ _ _ _ _ _ _ (sym c.in-Read.is ∙ c.method_at.ensures) _ _ _ _ _ (search rules) c.put_method-n.ensures _ c.put_details-d.ensures _ c.knows_method-known.ensures _ (rw c.if-known.false); out_after = lines-read _ _ _ _ _ _ _ (sym c.in-Read.is ∙ c.method_at.ensures) _ _ _ _ _ (search rules) c.put_method-n.ensures _ c.put_details-d.ensures }

pub returns-in-Missing : goal.returns-in-Missing
returns-in-Missing c = record { value = turn-missing _ _ (sym c.in-Missing.is ∙ c.method_at.ensures) _; out_after = lines-missing _ _ (sym c.in-Missing.is ∙ c.method_at.ensures) _ _ }
