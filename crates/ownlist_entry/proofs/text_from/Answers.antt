use borrow.Author.Rules.{rules}
use mathlib.Core.Path.{refl, sym}
use Rattle.base_readers.proofs.Loops.{reaches-start}
use Rattle.ownlist_entry.proofs.Sequences.{text-end, text-fits, text-less, text-more}
use Rattle.ownlist_entry.proofs.text_from.Goals as goal

pub loop-n-init : goal.loop-n-init
loop-n-init c = reaches-start

pub returns-in_default : goal.returns-in_default
returns-in_default c = text-end c.args.s.now _ _ _ 0 c.loop-n.invariant c.run_end-e.ensures (sym c.in_default.ensures) refl

pub overflow_add-i : goal.overflow_add-i
overflow_add-i c = text-fits c.args.s.now _ _ _ _ c.loop-n.invariant c.run_end-e.ensures c.in-Some.ensures.0 c.in-Some.ensures.1 (search rules)

pub loop-n-smaller : goal.loop-n-smaller
loop-n-smaller c = text-less c.args.s.now _ _ _ _ c.loop-n.invariant c.run_end-e.ensures c.in-Some.ensures.0 c.in-Some.ensures.1

pub loop-n-preserved : goal.loop-n-preserved
loop-n-preserved c = text-more c.args.s.now _ _ _ _ c.loop-n.invariant c.run_end-e.ensures c.in-Some.ensures.0
