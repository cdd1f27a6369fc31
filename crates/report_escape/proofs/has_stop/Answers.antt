use native.Mathlib.Omega.{arith}
use mathlib.Core.Path.{sym, ◌∙◌}
use borrow.Author.Tests.{not-false}
use Rattle.base_readers.proofs.Loops.{piece-none, piece-all, hits-on}
use Rattle.report_escape.proofs.has_stop.Goals as goal

pub loop-j-init : goal.loop-j-init
loop-j-init c = λ e. piece-none _ _ _

pub loop-j-preserved : goal.loop-j-preserved
loop-j-preserved c = hits-on _ _ _ _ _ _ c.loop-j.invariant (omega arith) (λ f. sym c.is_verbatim.ensures ∙ not-false _ f)

pub returns : goal.returns
returns c = λ e. piece-all _ _ _ _ _ (c.loop-j.invariant e) (omega arith)
