-- `orbendash::orbendash_copy` meets its contract: the answer is that of `strip::copy`, field by field.
use lib.ListN.{length}
use Rattle.strip_steps_rules.specs.Steps.{copy}
use Rattle.host_structs.proofs.Returned.{copy-faced}
use borrow.Author.Rules.{rules}
use Rattle.orbendash.proofs.orbendash_copy.Goals as goal

pub returns : goal.returns
returns c =
    let x = c.args in
    record {
      value = copy-faced _ _ (copy x.s.now x.list.now x.marks.now (length x.out.now)) c.copy.ensures.value c.into.ensures;
      out_after = search rules;
    }
