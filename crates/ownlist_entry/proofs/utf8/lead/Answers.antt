-- `ownlist_entry::utf8::lead` meets its contract: each test is one of the definition.
use native.Mathlib.Omega.{arith}
use mathlib.Core.Path.{sym}
use Rattle.ownlist_entry.proofs.ByteSequences.{lead-two, lead-three, lead-four, lead-none}
use Rattle.ownlist_entry.proofs.utf8.lead.Goals as goal

pub returns-then-is_from : goal.returns-then-is_from
returns-then-is_from c = (lead-two _ _ c.is_from.ensures c.if-is_from.true, λ z. omega arith)

pub returns-then-is_from-2 : goal.returns-then-is_from-2
returns-then-is_from-2 c = (lead-three _ _ c.is_from.ensures c.if-is_from.false _ c.is_from-2.ensures c.if-is_from-2.true, λ z. omega arith)

pub returns-then-is_from-3 : goal.returns-then-is_from-3
returns-then-is_from-3 c = (lead-four _ _ c.is_from.ensures c.if-is_from.false _ c.is_from-2.ensures c.if-is_from-2.false _ c.is_from-3.ensures c.if-is_from-3.true, λ z. omega arith)

pub returns : goal.returns
returns c = sym (lead-none _ _ c.is_from.ensures c.if-is_from.false _ c.is_from-2.ensures c.if-is_from-2.false _ c.is_from-3.ensures c.if-is_from-3.false)
