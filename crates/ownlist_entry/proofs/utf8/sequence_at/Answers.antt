-- `ownlist_entry::utf8::sequence_at` meets its contract: one law for each way out.
use mathlib.Core.Path.{refl, ap, sym, ◌∙◌}
use lib.ListN.{drop}
use Rattle.ownlist_rules.specs.Utf8.{second}
use Rattle.ownlist_entry.proofs.ByteSequences.{sequence-none, sequence-1, sequence-2, sequence-3, sequence-4}
use Rattle.ownlist_entry.proofs.utf8.sequence_at.Goals as goal

pub returns-in_err-n : goal.returns-in_err-n
returns-in_err-n c = rw c.from_residual.ensures (sym (sequence-none (drop c.args.at c.args.s.now) _ c.byte-a.ensures 0 (sym c.in_err-n.ensures) refl))

pub returns-then-is_further-2 : goal.returns-then-is_further-2
returns-then-is_further-2 c = (
  sequence-4 (drop c.args.at c.args.s.now) _ c.byte-a.ensures _ c.in_ok-n.ensures.0 _ (c.is_second.ensures ∙ ap (second _) c.byte.ensures) c.if-is_second.true _ c.is_further.ensures c.if-is_further.true _ c.is_further-then-is_further.ensures c.if-is_further-2.true,
  c.in_ok-n.ensures.1,
)

pub returns-else-is_further-2 : goal.returns-else-is_further-2
returns-else-is_further-2 c = sym (sequence-3 (drop c.args.at c.args.s.now) _ c.byte-a.ensures _ c.in_ok-n.ensures.0 _ (c.is_second.ensures ∙ ap (second _) c.byte.ensures) c.if-is_second.true _ c.is_further.ensures c.if-is_further.true _ c.is_further-then-is_further.ensures c.if-is_further-2.false)

pub returns-else-is_further : goal.returns-else-is_further
returns-else-is_further c = sym (sequence-2 (drop c.args.at c.args.s.now) _ c.byte-a.ensures _ c.in_ok-n.ensures.0 _ (c.is_second.ensures ∙ ap (second _) c.byte.ensures) c.if-is_second.true _ c.is_further.ensures c.if-is_further.false)

pub returns-else-is_second : goal.returns-else-is_second
returns-else-is_second c = sym (sequence-1 (drop c.args.at c.args.s.now) _ c.byte-a.ensures _ c.in_ok-n.ensures.0 _ (c.is_second.ensures ∙ ap (second _) c.byte.ensures) c.if-is_second.false)
