-- `blockreport_lines::put_line` meets its contract: the columns one after another are the whole line.
use borrow.Author.Rules.{rules}
use Rattle.blockreport_lines.proofs.Lines.{line-put}
use Rattle.blockreport_lines.proofs.put_line.Goals as goal

pub returns : goal.returns
returns c = line-put _ _ _ _ (search rules) c.put_part-a.ensures c.put_number-b.ensures c.put_whose-c.ensures
    c.put_number-d.ensures c.put_number-e.ensures c.put_byte.ensures
