-- `punycode::decoding::copy_basics` meets its contract: the bytes so far are basic and copied, and the rest decides.
use Rattle.punycode.proofs.Copying.{Copying}
use Rattle.punycode.proofs.decoding.copy_basics.Given as goal

abbrev pub invariant-loop-j : goal.invariant-loop-j
invariant-loop-j l = Copying l.s l.b l.initial.out l.out l.j
