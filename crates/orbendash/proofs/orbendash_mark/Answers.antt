-- `orbendash::orbendash_mark` meets its contract: the answer is that of `strip::mark`, field by field.
use lib.ListN.{length}
use Rattle.strip_steps_rules.specs.Steps.{mark}
use Rattle.host_structs.proofs.Returned.{mark-faced}
use borrow.Author.Rules.{rules}
use Rattle.orbendash.proofs.orbendash_mark.Goals as goal

pub returns : goal.returns
returns c =
    let x = c.args in
    record {
      value = mark-faced _ _ (mark x.s.now x.list.now (length x.out.now)) c.mark.ensures.value c.into.ensures;
      out_after = search rules;
    }
