-- `command_subcommands::judge_block` meets its contract: a refusal before anything is put into the lent buffer, or the whole judgement.
use Rattle.command_subcommands.proofs.Making.{judge-refused, judge-makes}
use Rattle.command_subcommands.proofs.judge_block.Goals as goal

pub returns-then-j-ne-DONE : goal.returns-then-j-ne-DONE
returns-then-j-ne-DONE c =
    let x = c.args in
    let w =
    judge-refused x.block.now x.digits.now x.out.now _ c.read_verdicts.ensures c.judge-j.result c.judge-j.ensures c.if-j-ne-DONE.true _ c.sets.ensures
    c.refusal_of.result c.refusal_of.ensures in
    record { value = w.0; out_after = w.1; digits_after = c.read_verdicts.ensures }

pub returns : goal.returns
returns c =
    let x = c.args in
    let w =
    judge-makes x.block.now x.digits.now x.out.now _ c.read_verdicts.ensures c.judge-j.result c.judge-j.ensures c.if-j-ne-DONE.false c.put_judgement-n.new.out _
    c.said_of.result c.put_judgement-n.ensures c.said_of.ensures in
    record { value = w.0; out_after = w.1; digits_after = c.read_verdicts.ensures }
