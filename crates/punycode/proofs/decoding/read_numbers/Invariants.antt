-- `punycode::decoding::read_numbers` meets its contract: before each digit the numbers from here on give what they give from the start.
use lib.ListN.{take}
use Rattle.punycode.proofs.Reading.{Reading}
use Rattle.punycode.proofs.decoding.read_numbers.Given as goal

abbrev pub invariant-loop-p : goal.invariant-loop-p
invariant-loop-p l = Reading l.s l.at (take l.basics l.initial.out) l.out l.q l.p l.count
