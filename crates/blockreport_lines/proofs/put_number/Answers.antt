-- `blockreport_lines::put_number` meets its contract: the tab, and then the digits.
use borrow.Author.Rules.{rules}
use Rattle.blockreport_lines.proofs.Lines.{number_put}
use Rattle.blockreport_lines.proofs.put_number.Goals as goal

pub returns : goal.returns
returns c = number_put {o₀ = c.args.out.now} {o₁ = c.put_byte-a.new.out} {to = c.args.to} {a = c.put_byte-a.result} c.args.n (search rules) c.put_byte-a.ensures c.put_decimal.ensures
