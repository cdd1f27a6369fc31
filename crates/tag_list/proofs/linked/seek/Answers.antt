use native.Mathlib.Omega.{arith}
use Rattle.tag_list.proofs.Linking.{seeking-start, seeking-inside, seeking-linked, seeking-end, seeking-found, seeking-on}
use Rattle.tag_list.proofs.linked.seek.Goals as goal

pub loop-init : goal.loop-init
loop-init c = search seeking-start

pub returns-then-c-eq0 : goal.returns-then-c-eq0
returns-then-c-eq0 c = seeking-end _ _ _ _ _ _ c.loop.invariant (omega arith)

pub bounds-table-c : goal.bounds-table-c
bounds-table-c c = seeking-inside _ _ _ _ _ _ c.loop.invariant (omega arith)

pub returns-then-is_named : goal.returns-then-is_named
returns-then-is_named c = seeking-found _ _ _ _ _ _ c.loop.invariant (omega arith) _ c.from.ensures _ c.is_named.ensures c.if-is_named.true

pub bounds-next-c : goal.bounds-next-c
bounds-next-c c = seeking-linked _ _ _ _ _ _ c.loop.invariant (omega arith)

pub loop-preserved : goal.loop-preserved
loop-preserved c = seeking-on _ _ _ _ _ _ c.loop.invariant (omega arith) _ c.from.ensures _ c.is_named.ensures c.if-is_named.false _ c.from-c.ensures

pub returns : goal.returns
returns c = seeking-end _ _ _ _ _ _ c.loop.invariant (omega arith)
