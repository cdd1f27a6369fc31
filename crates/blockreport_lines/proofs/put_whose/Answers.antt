-- `blockreport_lines::put_whose` meets its contract: each arm writes the word of its case.
use Rattle.blockreport_lines.proofs.Lines.{ours-put, others_put, unreadable-put}
use Rattle.blockreport_lines.proofs.put_whose.Goals as goal

pub returns-in-Ours : goal.returns-in-Ours
returns-in-Ours c = ours-put _ _ _ _ _ c.in-Ours.is c.put_part.ensures

pub returns-in-Others : goal.returns-in-Others
returns-in-Others c = others_put _ _ _ c.put_part-in-Others.new.out c.put_part-in-Others.result c.in-Others.is c.put_part-in-Others.ensures

pub returns-in-Unreadable : goal.returns-in-Unreadable
returns-in-Unreadable c = unreadable-put _ _ _ _ _ c.in-Unreadable.is c.put_part-in-Unreadable.ensures
