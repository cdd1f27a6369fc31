-- `orbendash::orbendash_judge` meets its contract: the answer is that of `arc::judge`, field by field.
use Rattle.host_structs.proofs.JudgeReturned.{judge-faced}
use Rattle.orbendash.proofs.orbendash_judge.Goals as goal

pub returns : goal.returns
returns c = search judge-faced
